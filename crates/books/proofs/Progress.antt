-- Somebody runs: where nobody runs and nobody can start, the first waiting task fits.
use mathlib.Core.Path.{◌≡◌, refl, sym, ◌∙◌}
use mathlib.Core.Bool.{Bool, not, ◌||◌}
use mathlib.Core.Logic.{⊎_elim}
use Prim.Native.Nat.{ℕ, zero, suc, ◌+◌, ◌≤◌, ◌<◌}
use native.Mathlib.Omega.{arith}
use lib.Dec.{eqb}
use borrow.Author.Tests.{eq-eqb, ne_eqb}
use Rattle.numbers.specs.Sums.{only}
use Rattle.tree.specs.Need.{resident}
use Rattle.books.specs.Booking.{total, missing}
use Rattle.books.specs.Standing.{waiting, activated, running, finished}
use Rattle.tree.specs.Tree.{Tree}
use Rattle.books.specs.Invariant.{Shape, Balanced, Roomy, arrived}
use Rattle.numbers.proofs.Tests.{same_or_not}
use Rattle.numbers.proofs.Sums.{Task, sum-change, only-true, only-false}
use Rattle.tree.proofs.Children.{resident-by-parent}
use Rattle.books.proofs.Shape.{child-before, child-not-waiting}
use Rattle.books.proofs.Balance.{arrived-pending}

-- the tasks that have ended, and those with x beside them
abbrev pub ended : (ℕ → ℕ) → ℕ → Bool
ended st i = eqb (st i) finished

abbrev pub ended_or : (ℕ → ℕ) → ℕ → ℕ → Bool
ended_or st x i = eqb i x || eqb (st i) finished

-- nobody runs, and each booked task has a child that has not ended
pub record Stuck (n : ℕ) (par st : ℕ → ℕ) : Type 0 where
  pub idle : (i : ℕ) → Task n i → st i ≡ running → ⊥
  pub unfed : (i : ℕ) → Task n i → st i ≡ activated → ((c : ℕ) → Task n c → par c ≡ i → st c ≡ finished) → ⊥

module _ (n : ℕ) (par rank : ℕ → ℕ) (tree : Tree n par rank) (st : ℕ → ℕ) (shape : Shape n par rank st)
    (stuck : Stuck n par st) where
  -- then nobody is booked: the first in rank would have all its children ended
  none-booked-below : (m i : ℕ) → Task n i → rank i < m → st i ≡ activated → ⊥
  none-booked-below zero i t h e = omega arith
  none-booked-below (suc m) i t h e =
      stuck.unfed i t e
      (λ c u q.
      let before = child-before n par rank tree st shape i c t u q in
      let not-waiting = child-not-waiting n par rank tree st shape i c t u q (λ w. omega arith) in
      let not-booked : st c ≡ activated → ⊥ = none-booked-below m c u (omega arith) in
      let not-running = stuck.idle c u in
      let four = shape.four c u in
      omega arith)

  pub waits-or-ended : (i : ℕ) → Task n i → (st i ≡ waiting → ⊥) → st i ≡ finished
  waits-or-ended i t d =
      let below = tree.below i t in
      let not-booked : st i ≡ activated → ⊥ = none-booked-below n i t below in
      let not-running = stuck.idle i t in
      let four = shape.four i t in
      omega arith

  -- the trays booked are the outs of ended tasks whose parent waits, so that the sum of the peak at x is what x would make of them
  module _ (need out b : ℕ → ℕ) (roomy : Roomy n par need out) (books : Balanced n par need out st b) (x : ℕ)
      (task : Task n x) (waits : st x ≡ waiting) where
    held-there : (i : ℕ) → Task n i → (i ≡ x → ⊥) → b i ≡ only (not (ended_or st x i)) (arrived n par out st i)
    held-there i t d =
        ⊎_elim
        (λ w.
        books.waits i t w
        ∙ sym (only-true (not (ended_or st x i)) (arrived n par out st i) (rw (ne_eqb i x d, ne_eqb (st i) finished (λ q. omega arith)) refl)))
        (λ v.
        let e = waits-or-ended i t v in
        books.empty i t e
        ∙ sym (only-false (not (ended_or st x i)) (arrived n par out st i) (rw (ne_eqb i x d, eq-eqb (st i) finished e) refl)))
        (same_or_not (st i) waiting)

    pub fits : total n b + missing n par need st b x ≤ need x + resident n par out (ended st) (ended_or st x)
    unfolding total missing arrived
    fits =
        let resides = resident-by-parent n par out (ended st) (ended_or st x) tree.within in
        let own : ℕ → ℕ = λ i. only (not (ended_or st x i)) (arrived n par out st i) in
        let sum =
        sum-change own b n x (b x) task
        (let z = only-false (not (ended_or st x x)) (arrived n par out st x) (rw (eq-eqb x x refl) refl) in omega arith)
        (λ i t d. held-there i t d)
        in
        let held = books.waits x task waits in
        let parts = arrived-pending n par out st x in
        let room = roomy x task in
        omega arith
