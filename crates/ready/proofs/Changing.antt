-- Laws of the ready set: a place that is added or taken.
use mathlib.Core.Path.{◌≡◌, refl, sym, ap, subst, ◌∙◌}
use mathlib.Core.Bool.{Bool, true, false, not, cond}
use mathlib.Core.Logic.{◌⊎◌, ⊎_elim}
use mathlib.Core.List.{List}
use Prim.Native.Nat.{ℕ, ◌+◌, ◌*◌, ◌/◌, ◌%◌, ◌^◌, ◌<◌}
use native.Mathlib.Omega.{arith}
use lib.Bits.{bit_and, bit_xor, xor_add_and, xor_zero_l, and_zero_l}
use lib.Dec.{eqb}
use lib.ListN.{length, set, length-set}
use lib.Pow.{pow_pos}
use lib.Seq.{get_or-set_same, get_or-set_other}
use borrow.Author.Tests.{eq-eqb, ne_eqb}
use Rattle.numbers.specs.Lists.{at}
use Rattle.numbers.proofs.Tests.{same_or_not}
use Rattle.words.specs.Layout.{words, entries, bits, blocks, ready_base, filled_word}
use Rattle.words.specs.Contents.{Contents, contents, with_ready}
use Rattle.words.specs.Digits.{digits}
use Rattle.words.specs.Marks.{Marks, Changed}
use Rattle.words.proofs.Views.{part_at}
use Rattle.words.proofs.Contents.{lengths, contents-ready, contents-filled}
use Rattle.ready.specs.Flipped.{flipped, Flipped}
use Rattle.ready.proofs.Digits.{digits_same, digits-flip}
use Rattle.ready.proofs.Marks.{some, marks-same}

-- a word that is not 0
not-zero : (l : List ℕ) (q : ℕ) → (at l q ≡ 0 → ⊥) → some l q ≡ true
not-zero l q full = ap (λ (b : Bool). not b) (ne_eqb (at l q) 0 full)

-- of a word and the word with a bit turned, one of which is 0, the other is not
turned-zero : (word k : ℕ) → (word ≡ 0) ⊎ (bit_xor word (2 ^ k) ≡ 0) → eqb (bit_xor word (2 ^ k)) 0 ≡ not (eqb word 0)
turned-zero word k one =
    let x = xor_add_and word (2 ^ k) in
    let p = pow_pos k in
    ⊎_elim
    (λ (before : word ≡ 0).
    let e = xor_zero_l (2 ^ k) in
    rw before (ne_eqb (bit_xor 0 (2 ^ k)) 0 (λ z. omega arith)))
    (λ (later : bit_xor word (2 ^ k) ≡ 0).
    eq-eqb (bit_xor word (2 ^ k)) 0 later ∙ sym (ap (λ (b : Bool). not b) (ne_eqb word 0 (λ z.
    let a = ap (λ (n : ℕ). bit_and n (2 ^ k)) z ∙ and_zero_l (2 ^ k) in
    omega arith))))
    one

-- the word that says which words are not 0, where one word changes
module _ (l l' : List ℕ) (j : ℕ) (other : (q : ℕ) → (q ≡ j → ⊥) → at l' q ≡ at l q) where
  some-other : (q : ℕ) → (q ≡ j → ⊥) → some l' q ≡ some l q
  some-other q d = ap (λ (v : ℕ). not (eqb v 0)) (other q d)

  filled-same : (at l j ≡ 0 → ⊥) → (at l' j ≡ 0 → ⊥) → digits (some l') blocks ≡ digits (some l) blocks
  filled-same before after =
      digits_same blocks (some l) (some l')
      (λ q _.
      ⊎_elim
      (λ e. ap (some l') e ∙ not-zero l' j after ∙ sym (ap (some l) e ∙ not-zero l j before))
      (some-other q)
      (same_or_not q j))

  filled-flip : j < blocks → some l' j ≡ not (some l j) → bit_xor (digits (some l) blocks) (2 ^ j) ≡ digits (some l') blocks
  filled-flip h turned = digits-flip blocks j (some l) (some l') h turned some-other

-- the word of a place once it is turned
abbrev digits_with : (ℕ → Bool) → ℕ → ℕ
digits_with test place = digits (λ k. flipped test place (bits * (place / bits) + k)) bits

-- a place of the set, and the words where it is turned
module _ {c : Contents} {test : ℕ → Bool} (m : Marks test c) {place : ℕ} (inside : place < entries) where
  flipped-there : flipped test place (bits * (place / bits) + place % bits) ≡ not (test (bits * (place / bits) + place % bits))
  flipped-there =
      ap (λ (v : Bool). cond v (not (test (bits * (place / bits) + place % bits))) (test (bits * (place / bits) + place % bits)))
      (eq-eqb (bits * (place / bits) + place % bits) place (omega arith))

  flipped-other : (e : ℕ) → (e ≡ place → ⊥) → flipped test place e ≡ test e
  flipped-other e d = ap (λ (v : Bool). cond v (not (test e)) (test e)) (ne_eqb e place d)

  word-flipped : bit_xor (at c.ready (place / bits)) (2 ^ (place % bits)) ≡ digits_with test place
  word-flipped =
      ap (λ (v : ℕ). bit_xor v (2 ^ (place % bits))) (m.marked (place / bits) (omega arith))
      ∙ digits-flip bits (place % bits) (λ k. test (bits * (place / bits) + k))
      (λ k. flipped test place (bits * (place / bits) + k)) (omega arith) flipped-there
      (λ k d. flipped-other (bits * (place / bits) + k) (λ e. d (omega arith)))

  -- the set with another word for the block of the place
  marks-with :
      (word filled : ℕ)
      → length c.ready ≡ blocks
      → word ≡ digits_with test place
      → filled ≡ digits (some (set c.ready (place / bits) word)) blocks
      → Marks (flipped test place) (with_ready (set c.ready (place / bits) word) filled c)
  unfolding with_ready
  marks-with word filled sized e f =
      record {
        marked =
            λ q h.
            ⊎_elim
            (λ (s : q ≡ place / bits).
            ap (at (set c.ready (place / bits) word)) s
            ∙ get_or-set_same c.ready (place / bits) word 0 (omega arith)
            ∙ e
            ∙ ap (λ (p : ℕ). digits (λ k. flipped test place (bits * p + k)) bits) (sym s))
            (λ d.
            get_or-set_other c.ready (place / bits) q word 0 d
            ∙ m.marked q h
            ∙ sym
            (digits_same bits (λ k. test (bits * q + k)) (λ k. flipped test place (bits * q + k))
            (λ k l. flipped-other (bits * q + k) (λ s. d (omega arith)))))
            (same_or_not q (place / bits));
        filled = f;
      }

-- the place's bit of its word is turned
module _ (w : List ℕ) (place : ℕ) (long : (contents w).extent ≡ words) (inside : place < entries) {word bit : ℕ}
    (read : word ≡ at w (ready_base + place / bits)) (power : bit ≡ 2 ^ (place % bits)) where
  word_read : word ≡ at (contents w).ready (place / bits)
  unfolding contents
  word_read = read ∙ part_at ready_base blocks w (place / bits) (omega arith)

  extent : length w ≡ words
  unfolding contents
  extent = long

  -- the words of the set then
  abbrev after : List ℕ
  after = set (contents w).ready (place / bits) (bit_xor word bit)

  after-there : at after (place / bits) ≡ bit_xor word bit
  after-there =
      let s = (lengths w).ready in
      get_or-set_same (contents w).ready (place / bits) (bit_xor word bit) 0 (omega arith)

  after-other : (q : ℕ) → (q ≡ place / bits → ⊥) → at after q ≡ at (contents w).ready q
  after-other q d = get_or-set_other (contents w).ready (place / bits) q (bit_xor word bit) 0 d

  flipped-to :
      {c : Contents} {filled : ℕ}
      → c ≡ with_ready after filled (contents w)
      → ((test : ℕ → Bool) → Marks test (contents w) → filled ≡ digits (some after) blocks)
      → Flipped place (contents w) c
  unfolding with_ready
  flipped-to {filled = filled} e filled_is =
      record {
        same = e ∙ sym (ap (λ (d : Contents). with_ready d.ready d.filled (contents w)) e);
        marks =
            λ test m.
            rw e
            (marks-with m inside (bit_xor word bit) filled (lengths w).ready
            (ap (λ (v : ℕ). bit_xor v bit) word_read
            ∙ ap (bit_xor (at (contents w).ready (place / bits))) power
            ∙ word-flipped m inside)
            (filled_is test m));
      }

  module _ {w' : List ℕ} (written : w' ≡ set w (ready_base + place / bits) (bit_xor word bit)) where
    once : contents w' ≡ with_ready after (contents w).filled (contents w)
    unfolding contents
    once = ap contents written ∙ contents-ready w extent (place / bits) (bit_xor word bit) (omega arith)

    -- neither it nor what it was is 0
    pub flipped-once : (word ≡ 0 → ⊥) → (bit_xor word bit ≡ 0 → ⊥) → Flipped place (contents w) (contents w')
    flipped-once some_before some_after =
        flipped-to once
        (λ test m.
        m.filled
        ∙ sym
        (filled-same (contents w).ready after (place / bits) after-other (λ e. some_before (word_read ∙ e))
        (λ e. some_after (sym after-there ∙ e))))

    -- one of them is 0
    module _ (none : (word ≡ 0) ⊎ (bit_xor word bit ≡ 0)) {filled flag : ℕ} (look : filled ≡ at w' filled_word)
        (second : flag ≡ 2 ^ (place / bits)) where
      filled-read : filled ≡ (contents w).filled
      unfolding contents with_ready
      filled-read = look ∙ ap (λ (c : Contents). c.filled) once

      turned : some after (place / bits) ≡ not (some (contents w).ready (place / bits))
      turned =
          ap (λ (v : ℕ). not (eqb v 0)) after-there
          ∙ ap (λ (b : Bool). not b)
          (rw power (turned-zero word (place % bits) (subst (λ (v : ℕ). (word ≡ 0) ⊎ (bit_xor word v ≡ 0)) power none)))
          ∙ ap (λ (v : ℕ). not (not (eqb v 0))) word_read

      pub flipped-twice : {w'' : List ℕ} → w'' ≡ set w' filled_word (bit_xor filled flag) → Flipped place (contents w) (contents w'')
      unfolding with_ready
      flipped-twice again =
          let same_length : length w' ≡ words =
          ap length written ∙ length-set w (ready_base + place / bits) (bit_xor word bit) ∙ extent
          in
          flipped-to
          (ap contents again
          ∙ contents-filled w' same_length (bit_xor filled flag)
          ∙ ap (λ (c : Contents). with_ready c.ready (bit_xor filled flag) c) once)
          (λ test m.
          ap (λ (v : ℕ). bit_xor v flag) (filled-read ∙ m.filled)
          ∙ ap (bit_xor (digits (some (contents w).ready) blocks)) second
          ∙ filled-flip (contents w).ready after (place / bits) after-other (omega arith) turned)

-- where a place is not in the set it is added, and where it is there it is taken
pub changed-to : (place : ℕ) (b : Bool) (c c' : Contents) → Flipped place c c' → Changed place b c c'
changed-to place b c c' f =
    record {
      same = f.same;
      marks =
          λ test m there.
          marks-same
          (λ e _.
          ⊎_elim
          (λ (s : e ≡ place).
          ap (λ (v : Bool). cond v b (test e)) (eq-eqb e place s)
          ∙ sym (ap (λ (v : Bool). not v) (ap test s ∙ there) ∙ twice b)
          ∙ sym (ap (λ (v : Bool). cond v (not (test e)) (test e)) (eq-eqb e place s)))
          (λ d.
          ap (λ (v : Bool). cond v b (test e)) (ne_eqb e place d)
          ∙ sym (ap (λ (v : Bool). cond v (not (test e)) (test e)) (ne_eqb e place d)))
          (same_or_not e place))
          (f.marks test m);
    }
  where
    twice : (b : Bool) → not (not b) ≡ b
    twice true = refl
    twice false = refl
