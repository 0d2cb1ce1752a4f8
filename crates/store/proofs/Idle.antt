-- Laws of standings that differ only in who waits and who is booked: nobody starts, nobody ends.
use mathlib.Core.Path.{◌≡◌, sym, ap, ap₂, ◌∙◌}
use mathlib.Core.Bool.{Bool, not, ◌&&◌}
use mathlib.Core.Logic.{◌⊎◌, ⊎_elim}
use Prim.Native.Nat.{ℕ, ◌+◌, ◌≤◌, ◌<◌}
use native.Mathlib.Omega.{arith}
use lib.Dec.{eqb, leb}
use borrow.Author.Tests.{ne_eqb, lt-leb}
use Rattle.numbers.specs.Sums.{Task, only, count_to}
use Rattle.tree.specs.Need.{need, in_process}
use Rattle.books.specs.Standing.{activated, running, finished, count}
use Rattle.numbers.proofs.Sums.{sum-cong}
use Rattle.tree.proofs.Peaks.{resident-cong}
use Rattle.books.proofs.Usage.{has_ended, has_begun}
use Rattle.store.specs.Cached.{in_process_by}

abbrev pub Idle : (n : ℕ) (st st' : ℕ → ℕ) → Type 0
Idle n st st' = (i : ℕ) → Task n i → (st' i ≡ st i) ⊎ ((st i ≤ activated) × (st' i ≤ activated))

module _ (n : ℕ) (st st' : ℕ → ℕ) (idle : Idle n st st') where
  pub same_ended : (i : ℕ) → Task n i → has_ended st' i ≡ has_ended st i
  same_ended i t =
      ⊎_elim (λ e. ap (λ (v : ℕ). eqb v finished) e)
      (λ h. ne_eqb (st' i) finished (λ q. omega (arith, h.1)) ∙ sym (ne_eqb (st i) finished (λ q. omega (arith, h.0)))) (idle i t)

  pub same-begun : (i : ℕ) → Task n i → has_begun st' i ≡ has_begun st i
  same-begun i t =
      ⊎_elim (λ e. ap (leb running) e)
      (λ h. lt-leb running (st' i) (omega (arith, h.1)) ∙ sym (lt-leb running (st i) (omega (arith, h.0)))) (idle i t)

  -- as many run, and as many have ended
  pub count_same : (which : ℕ) → activated < which → count n st' which ≡ count n st which
  unfolding count count_to
  count_same which h =
      sum-cong (λ i. only (eqb (st' i) which) 1) (λ i. only (eqb (st i) which) 1) n
      (λ i t.
      ap (λ (b : Bool). only b 1)
      (⊎_elim (λ e. ap (λ (v : ℕ). eqb v which) e)
      (λ l. ne_eqb (st' i) which (λ q. omega (arith, l.1)) ∙ sym (ne_eqb (st i) which (λ q. omega (arith, l.0)))) (idle i t)))

  -- as much is in use
  pub used-same :
      (par work out : ℕ → ℕ)
      → ((i : ℕ) → Task n i → par i ≤ n)
      → in_process_by n par work out st' ≡ in_process_by n par work out st
  unfolding in_process
  used-same par work out within =
      ap₂ (λ (a b : ℕ). a + b)
      (sum-cong (λ i. only (has_begun st' i && not (has_ended st' i)) (need n par work out i))
      (λ i. only (has_begun st i && not (has_ended st i)) (need n par work out i)) n
      (λ i t. ap₂ (λ (a b : Bool). only (a && not b) (need n par work out i)) (same-begun i t) (same_ended i t)))
      (resident-cong n par out (has_ended st') (has_ended st) (has_begun st') (has_begun st) same_ended
      (λ i t d. let w = within i t in same-begun (par i) (omega arith)))
