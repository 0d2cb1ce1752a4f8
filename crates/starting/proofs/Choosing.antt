-- The first place of the ready set has the task that the rules start next.
use mathlib.Core.Path.{◌≡◌, refl, sym, ap, ◌∙◌}
use mathlib.Core.Bool.{Bool, true, false, ◌&&◌}
use mathlib.Core.List.{List, [], ◌∷◌}
use Rattle.std.specs.Prelude.{None, Some}
use Prim.Native.Nat.{ℕ, suc, ◌<◌}
use native.Mathlib.Omega.{arith}
use lib.Dec.{ltb}
use lib.ListN.{length}
use borrow.Author.Tests.{lt-ltb, ltb-true}
use Rattle.numbers.specs.Lists.{at, first}
use Rattle.books.specs.Booking.{ready}
use Rattle.numbers.proofs.Tests.{and-true}
use Rattle.books.proofs.Branches.{first-later, first-at}
use Rattle.words.specs.Layout.{entries}
use Rattle.words.specs.Contents.{Contents}
use Rattle.words.specs.Marks.{FirstMarked}
use Rattle.ready.proofs.Digits.{first-before, first-there}
use Rattle.store.specs.Rows.{books, execution_of}
use Rattle.store.specs.Cached.{is_ready_at}
use Rattle.store.specs.Kept.{Kept}

-- no entry of a list passes
first-nowhere :
    (test : ℕ → Bool) (l : List ℕ) → ((k : ℕ) → k < length l → test (at l k) ≡ false) → first test l ≡ 0
unfolding first
first-nowhere test [] none = refl
first-nowhere test (x ∷ l) none =
    first-later test x l (none 0 (omega arith)) ∙ first-nowhere test l (λ k p. none (suc k) (omega arith))

-- a place with a ready task
pub ready-in :
    (n : ℕ) (par : ℕ → ℕ) (execution st : List ℕ) (e : ℕ)
    → is_ready_at n par execution st e ≡ true
    → (e < n) × (ready n par st (at execution e) ≡ true)
unfolding is_ready_at
ready-in n par execution st e h =
    let both = and-true (ltb e n) (ready n par st (at execution e)) h in
    (ltb-true e n both.0, both.1)

module _ {c : Contents} (kept : Kept c) where
  -- who is ready, and at which places
  abbrev is_ready : ℕ → Bool
  is_ready = ready c.size (at c.parents) (books c).standings

  abbrev ready_at : ℕ → Bool
  ready_at = is_ready_at c.size (at c.parents) (execution_of c) (books c).standings

  ready-there : (e : ℕ) → ready_at e ≡ true → (e < c.size) × (is_ready (at (execution_of c) e) ≡ true)
  ready-there = ready-in c.size (at c.parents) (execution_of c) (books c).standings

  not_ready : (e : ℕ) → e < c.size → ready_at e ≡ false → is_ready (at (execution_of c) e) ≡ false
  unfolding is_ready_at
  not_ready e h none = sym (ap (λ (b : Bool). b && is_ready (at (execution_of c) e)) (lt-ltb e c.size h)) ∙ none

  -- the set is empty: nobody is ready
  pub none-ready : FirstMarked c None → first is_ready (execution_of c) ≡ 0
  none-ready found =
      let all = found.first ready_at kept.cached.marks in
      let s = kept.invariant.small in
      let w = kept.cached.placed.whole in
      first-nowhere is_ready (execution_of c)
      (λ k h. not_ready k (omega arith) (first-before ready_at entries k (omega arith)))

  -- else the task at the place is the first that is
  module _ {place : ℕ} (found : FirstMarked c (Some place)) where
    pub place-ready : ready_at place ≡ true
    place-ready =
        let e = found.first ready_at kept.cached.marks in
        ap ready_at e.0 ∙ first-there ready_at entries (omega arith)

    pub chosen-first : first is_ready (execution_of c) ≡ at (execution_of c) place
    chosen-first =
        let here = ready-there place place-ready in
        let in_size = here.0 in
        let w = kept.cached.placed.whole in
        let e = found.first ready_at kept.cached.marks in
        first-at is_ready (execution_of c) place (omega arith)
        (λ k h. not_ready k (omega arith) (first-before ready_at entries k (omega arith))) here.1
