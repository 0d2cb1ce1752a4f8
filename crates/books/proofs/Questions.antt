-- What may be asked of a plan, said otherwise: trays in use by the order of the standings.
use mathlib.Core.Path.{◌≡◌, refl, ap₂}
use mathlib.Core.Bool.{Bool, not, ◌&&◌, ◌||◌}
use mathlib.Core.Logic.{⊎_elim}
use Prim.Native.Nat.{ℕ, ◌+◌, ◌≤◌}
use native.Mathlib.Omega.{arith}
use lib.Dec.{eqb}
use borrow.Author.Tests.{ne_eqb, lt-leb}
use Rattle.numbers.specs.Sums.{Task, only}
use Rattle.tree.specs.Need.{need, in_process}
use Rattle.books.specs.Standing.{running, finished}
use Rattle.numbers.proofs.Tests.{same_or_not}
use Rattle.numbers.proofs.Sums.{sum-cong}
use Rattle.tree.proofs.Peaks.{resident-cong}
use Rattle.books.proofs.Usage.{has_ended, has_begun}

-- a task runs or has ended
abbrev pub runs_or_ended : (ℕ → ℕ) → ℕ → Bool
runs_or_ended st i = eqb (st i) running || eqb (st i) finished

-- one of four standings is running or ended just where it is not below running
named : (st : ℕ → ℕ) (i : ℕ) → st i ≤ finished → runs_or_ended st i ≡ has_begun st i
named st i four =
    ⊎_elim (λ (e : st i ≡ running). rw e)
    (λ r.
    ⊎_elim (λ (e : st i ≡ finished). rw e)
    (λ f. rw (ne_eqb (st i) running r, ne_eqb (st i) finished f, lt-leb running (st i) (omega arith)))
    (same_or_not (st i) finished))
    (same_or_not (st i) running)

-- so as much is in process either way
pub in-process-named :
    (n : ℕ) (par work out st : ℕ → ℕ)
    → ((i : ℕ) → Task n i → st i ≤ finished)
    → ((i : ℕ) → Task n i → par i ≤ n)
    → in_process n par work out (has_ended st) (runs_or_ended st) ≡ in_process n par work out (has_ended st) (has_begun st)
unfolding in_process
in-process-named n par work out st four within =
    ap₂ (λ (a b : ℕ). a + b)
    (sum-cong (λ i. only (runs_or_ended st i && not (has_ended st i)) (need n par work out i))
    (λ i. only (has_begun st i && not (has_ended st i)) (need n par work out i)) n
    (λ i t. rw (named st i (four i t))))
    (resident-cong n par out (has_ended st) (has_ended st) (runs_or_ended st) (has_begun st) (λ i t. refl)
    (λ i t d. let w = within i t in named st (par i) (four (par i) (record { low = omega arith; high = w }))))
