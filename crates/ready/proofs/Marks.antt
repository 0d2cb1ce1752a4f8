-- Laws of the ready set: when it is the same, and its first place.
use mathlib.Core.Path.{◌≡◌, sym, ap, ◌∙◌}
use mathlib.Core.Bool.{Bool, true, false, not}
use mathlib.Core.Logic.{⊎_elim}
use mathlib.Core.List.{List}
use Rattle.std.specs.Prelude.{None, Some}
use Prim.Native.Nat.{ℕ, ◌+◌, ◌*◌, ◌/◌, ◌%◌, ◌<◌}
use native.Mathlib.Omega.{arith}
use lib.Count.{count_trailing_zeros}
use lib.Dec.{eqb}
use borrow.Author.Tests.{eqb-true, eqb-false, not-true, not-false}
use Rattle.numbers.specs.Lists.{at}
use Rattle.numbers.proofs.Tests.{same_or_not}
use Rattle.words.specs.Layout.{entries, bits, blocks}
use Rattle.words.specs.Contents.{Contents}
use Rattle.words.specs.Digits.{digits, first_in}
use Rattle.words.specs.Marks.{Marks, FirstMarked}
use Rattle.ready.proofs.Digits.{digits_same, digits-zero, lowest-digit, first-before, first-there, first-is, first_some}

-- which words of the set are not 0
abbrev pub some : List ℕ → ℕ → Bool
some l q = not (eqb (at l q) 0)

-- a set is the same by any test that the same places pass, and where its words are the same
pub marks-same :
    {test test' : ℕ → Bool} {c : Contents}
    → ((e : ℕ) → e < entries → test' e ≡ test e)
    → Marks test c
    → Marks test' c
marks-same {test} {test'} same m =
    record {
      marked =
          λ q h.
          m.marked q h
          ∙ sym
          (digits_same bits (λ k. test (bits * q + k)) (λ k. test' (bits * q + k)) (λ k l. same (bits * q + k) (omega arith)));
      filled = m.filled;
    }

pub marks-kept :
    {test : ℕ → Bool} {c c' : Contents} → c'.ready ≡ c.ready → c'.filled ≡ c.filled → Marks test c → Marks test c'
marks-kept ready filled m =
    record {
      marked = λ q h. ap (λ (l : List ℕ). at l q) ready ∙ m.marked q h;
      filled =
          filled ∙ m.filled ∙ ap (λ (l : List ℕ). digits (some l) blocks) (sym ready);
    }

-- its first place
module _ {c : Contents} {test : ℕ → Bool} (m : Marks test c) where
  none_in : (e : ℕ) → e < entries → at c.ready (e / bits) ≡ 0 → test e ≡ false
  none_in e h empty =
      ap test (omega arith)
      ∙ digits-zero bits (λ k. test (bits * (e / bits) + k)) (sym (m.marked (e / bits) (omega arith)) ∙ empty) (e % bits)
      (omega arith)

  not_some : (q : ℕ) → some c.ready q ≡ false → at c.ready q ≡ 0
  not_some q e = eqb-true (at c.ready q) 0 (not-false (eqb (at c.ready q) 0) e)

  -- there is none
  none_first : c.filled ≡ 0 → first_in test entries ≡ entries
  none_first empty =
      first-is test entries entries (omega arith)
      (λ e h.
      none_in e h
      (not_some (e / bits) (digits-zero blocks (some c.ready) (sym m.filled ∙ empty) (e / bits) (omega arith))))
      (λ h. absurd (omega arith))

  -- it is in the first word that is not 0, at its lowest bit
  module _ (full : c.filled ≡ 0 → ⊥) {q : ℕ} (word : q ≡ count_trailing_zeros bits c.filled) where
    word-is : q ≡ first_in (some c.ready) blocks
    word-is = word ∙ ap (count_trailing_zeros blocks) m.filled ∙ lowest-digit blocks (some c.ready)

    pub word_in : q < blocks
    word_in = let s = first_some (some c.ready) blocks (λ e. full (m.filled ∙ e)) in omega (arith, word-is)

    word-full : at c.ready q ≡ 0 → ⊥
    word-full e =
        let there : some c.ready q ≡ true =
        ap (some c.ready) word-is ∙ first-there (some c.ready) blocks (let i = word_in in omega (arith, word-is))
        in
        eqb-false (at c.ready q) 0 (not-true (eqb (at c.ready q) 0) there) e

    module _ {k : ℕ} (bit : k ≡ count_trailing_zeros bits (at c.ready q)) where
      in-word : ℕ → Bool
      in-word j = test (bits * q + j)

      bit_is : k ≡ first_in in-word bits
      unfolding in-word
      bit_is = bit ∙ ap (count_trailing_zeros bits) (m.marked q word_in) ∙ lowest-digit bits in-word

      pub bit_in : k < bits
      unfolding in-word
      bit_in = let s = first_some in-word bits (λ e. word-full (m.marked q word_in ∙ e)) in omega (arith, bit_is)

      first-place : first_in test entries ≡ bits * q + k
      unfolding in-word
      first-place =
          let i = word_in in
          let j = bit_in in
          first-is test entries (bits * q + k) (omega arith)
          (λ e h.
          ⊎_elim
          (λ (s : e / bits ≡ q).
          ap test (omega arith) ∙ first-before in-word bits (e % bits) (omega (arith, bit_is)))
          (λ d.
          none_in e (omega arith)
          (not_some (e / bits) (first-before (some c.ready) blocks (e / bits) (omega (arith, word-is, d)))))
          (same_or_not (e / bits) q))
          (λ h. ap in-word bit_is ∙ first-there in-word bits (omega (arith, bit_is)))

pub first-none : (c : Contents) → c.filled ≡ 0 → FirstMarked c None
first-none c empty = record { first = λ test m. none_first m empty }

pub first-lowest :
    (c : Contents) (q k : ℕ)
    → (c.filled ≡ 0 → ⊥)
    → q ≡ count_trailing_zeros bits c.filled
    → k ≡ count_trailing_zeros bits (at c.ready q)
    → FirstMarked c (Some (bits * q + k))
first-lowest c q k full word bit =
    record {
      first =
          λ test m.
          let e = first-place m full word bit in
          let i = word_in m full word in
          let j = bit_in m full word bit in
          (sym e, omega arith);
    }
