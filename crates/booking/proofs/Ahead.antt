-- Booking ahead, one turn after the other: what is still to come is booking ahead along the rest of the order.
use mathlib.Core.Path.{◌≡◌, sym, ap, ap₂, ◌∙◌}
use mathlib.Core.Bool.{true, false}
use mathlib.Core.List.{List, [], ◌∷◌}
use Prim.Native.Nat.{ℕ, suc, ◌+◌, ◌≤◌, ◌<◌}
use native.Mathlib.Omega.{arith}
use lib.ListN.{length, take, drop}
use lib.Seq.{drop-length}
use borrow.Author.Tests.{eq-eqb}
use Rattle.numbers.specs.Lists.{at}
use Rattle.books.specs.Standing.{waiting}
use Rattle.books.specs.Booking.{Books, activate}
use Rattle.books.proofs.Branches.{activate-book, activate-stop, passes-all}
use Rattle.words.specs.Contents.{Contents}
use Rattle.words.proofs.Contents.{Lengths}
use Rattle.store.specs.Rows.{books, terms_in, activation_of}
use Rattle.store.specs.Kept.{Kept, SamePlan}
use Rattle.store.proofs.Same.{same_refl, same-trans, terms-same}
use Rattle.booking.specs.Booked.{allows_next, NextBooked, BookedAhead}
use Rattle.booking.proofs.Turn.{rest, waits}
use Rattle.booking.proofs.Booking.{turn, next_task}

-- booking ahead of the plan c along some of its order
abbrev pub along : Contents → List ℕ → Books → Books
along c order k = activate c.size (at c.parents) (terms_in c) order k

-- between two turns; c₀ is the plan before the first
pub record Ahead (c₀ c : Contents) (next : ℕ) : Type 0 where
  pub kept : Kept c
  pub same : SamePlan c₀ c
  pub here : next ≡ c.next
  pub coming : along c₀ (activation_of c₀) (books c₀) ≡ along c (drop next (activation_of c)) (books c)

pub ahead-first : {c : Contents} {next : ℕ} → Kept c → next ≡ c.next → Ahead c c next
ahead-first {c} {next} kept here =
    record {
      kept = kept;
      same = same_refl c;
      here = here;
      coming =
          passes-all c.size (at c.parents) (terms_in c) (activation_of c) next (books c)
          (λ e h. kept.cached.reached.before_next e (omega arith));
    }

module _ {c₀ c : Contents} {next : ℕ} (ahead : Ahead c₀ c next) where
  ends : along c₀ (activation_of c₀) (books c₀) ≡ books c → BookedAhead c₀ c
  ends e = record { kept = ahead.kept; same = ahead.same; books = sym e }

  -- the whole order is booked
  pub ahead-end : c.size ≤ next → BookedAhead c₀ c
  unfolding activate
  ahead-end h =
      let size = ahead.kept.invariant.valid.whole in
      let w = ahead.kept.cached.reached.within in
      let e = ahead.here in
      let none : drop next (activation_of c) ≡ [] =
      ap (λ (m : ℕ). drop m (activation_of c)) (let f : next ≡ length (activation_of c) = omega arith in f)
      ∙ drop-length (activation_of c)
      in
      ends (ahead.coming ∙ ap (λ (l : List ℕ). along c l (books c)) none)

  -- there is a next task
  module _ (sizes : Lengths c) (more : next < c.size) where
    low : c.next < c.size
    low = let e = ahead.here in omega arith

    goes : along c₀ (activation_of c₀) (books c₀) ≡ along c (next_task c ∷ drop (suc c.next) (activation_of c)) (books c)
    goes =
        ahead.coming
        ∙ ap (λ (m : ℕ). along c (drop m (activation_of c)) (books c)) ahead.here
        ∙ ap (λ (l : List ℕ). along c l (books c)) (rest (turn ahead.kept sizes low))

    -- it does not fit
    pub ahead-stop : allows_next c ≡ false → BookedAhead c₀ c
    ahead-stop over =
        ends
        (goes
        ∙ activate-stop c.size (at c.parents) (terms_in c) (next_task c)
        (drop (suc c.next) (activation_of c)) (books c)
        (eq-eqb (at (books c).standings (next_task c)) waiting (waits (turn ahead.kept sizes low))) over)

    -- it is booked
    pub ahead-next : {c' : Contents} → allows_next c ≡ true → NextBooked c c' → Ahead c₀ c' (next + 1)
    ahead-next {c'} fits booked =
        let s = booked.same in
        record {
          kept = booked.kept;
          same = same-trans ahead.same s;
          here = (let e = ahead.here in let o = booked.onward in omega arith);
          coming =
              goes
              ∙ activate-book c.size (at c.parents) (terms_in c) (next_task c)
              (drop (suc c.next) (activation_of c)) (books c)
              (eq-eqb (at (books c).standings (next_task c)) waiting (waits (turn ahead.kept sizes low))) fits
              ∙ ap₂ (λ (m : ℕ) (k : Books). along c (drop m (activation_of c)) k)
              (let e = ahead.here in let f : suc c.next ≡ next + 1 = omega arith in f) (sym booked.books)
              ∙ sym
              (λ z.
              activate (s.size z) (at (s.parents z)) (terms-same s z)
              (drop (next + 1) (take (s.size z) (s.activation z))) (books c'));
        }
