-- The needs of running tasks and the outs of ended ones whose parent has not begun never exceed trays booked, task by task.
use mathlib.Core.Path.{◌≡◌, refl}
use mathlib.Core.Bool.{Bool, true, false, not, ◌&&◌}
use mathlib.Core.Logic.{⊎_elim}
use Prim.Native.Nat.{ℕ, ◌+◌, ◌≤◌, ◌<◌}
use native.Mathlib.Omega.{arith}
use lib.Dec.{eqb, leb}
use borrow.Author.Tests.{eq-eqb, ne_eqb, le-leb, lt-leb}
use Rattle.numbers.specs.Sums.{only}
use Rattle.tree.specs.Need.{need, in_process}
use Rattle.tree.specs.Tree.{children, Tree}
use Rattle.books.specs.Booking.{total}
use Rattle.books.specs.Standing.{waiting, activated, running, finished}
use Rattle.books.specs.Invariant.{Shape, Balanced, arrived}
use Rattle.numbers.proofs.Tests.{same_or_not, le-or-lt}
use Rattle.numbers.proofs.Sums.{Task, sum-le, sum-add}
use Rattle.tree.proofs.Children.{resident-by-parent}
use Rattle.books.proofs.Balance.{running-holds-need}

-- a task has ended, and a task has begun, as its standing says
abbrev pub has_ended : (ℕ → ℕ) → ℕ → Bool
has_ended st i = eqb (st i) finished

abbrev pub has_begun : (ℕ → ℕ) → ℕ → Bool
has_begun st i = leb running (st i)

module _ (n : ℕ) (par rank : ℕ → ℕ) (tree : Tree n par rank) (work out st b : ℕ → ℕ) (shape : Shape n par rank st)
    (books : Balanced n par (need n par work out) out st b) where
  -- what a running task needs, or what a task that has not begun keeps for its ended children
  charge : ℕ → ℕ
  charge i =
      only (has_begun st i && not (has_ended st i)) (need n par work out i)
      + only (not (has_begun st i)) (arrived n par out st i)

  charge-within : (i : ℕ) → Task n i → charge i ≤ b i
  unfolding charge
  charge-within i t =
      let four = shape.four i t in
      ⊎_elim
      (λ (low : st i ≤ activated).
      let idle : leb running (st i) ≡ false = lt-leb running (st i) (omega arith) in
      let runs : only (has_begun st i && not (has_ended st i)) (need n par work out i) ≡ 0 = rw idle refl in
      let keeps : only (not (has_begun st i)) (arrived n par out st i) ≡ arrived n par out st i = rw idle refl in
      ⊎_elim (λ w. let h = books.waits i t w in omega arith)
      (λ d. let h = books.keeps i t (omega arith) in omega arith) (same_or_not (st i) waiting))
      (λ (high : activated < st i).
      let begun : leb running (st i) ≡ true = le-leb running (st i) (omega arith) in
      let keeps : only (not (has_begun st i)) (arrived n par out st i) ≡ 0 = rw begun refl in
      ⊎_elim
      (λ e.
      let runs : only (has_begun st i && not (has_ended st i)) (need n par work out i) ≡ 0 =
      rw (begun, eq-eqb (st i) finished e) refl
      in
      omega arith)
      (λ d.
      let runs : only (has_begun st i && not (has_ended st i)) (need n par work out i) ≡ need n par work out i =
      rw (begun, ne_eqb (st i) finished d) refl
      in
      let exact = running-holds-need n par rank tree (need n par work out) out st b shape books i t (omega arith) in
      omega arith)
      (same_or_not (st i) finished))
      (le-or-lt (st i) activated)

  -- all of them are at most what is booked
  pub in-process-within : in_process n par work out (has_ended st) (has_begun st) ≤ total n b
  unfolding in_process total charge arrived
  in-process-within =
      let resides = resident-by-parent n par out (has_ended st) (has_begun st) tree.within in
      let parts =
      sum-add (λ i. only (has_begun st i && not (has_ended st i)) (need n par work out i))
      (λ i. only (not (has_begun st i)) (children n par (λ c. only (has_ended st c) (out c)) i)) n
      in
      let within = sum-le charge b n charge-within in
      omega arith
