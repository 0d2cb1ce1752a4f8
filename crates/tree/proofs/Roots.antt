-- The root: there is one.
use mathlib.Core.Path.{◌≡◌, refl, sym}
use mathlib.Core.Bool.{Bool, not, ◌&&◌}
use mathlib.Core.Logic.{⊎_elim}
use Prim.Native.Nat.{ℕ}
use native.Mathlib.Omega.{arith}
use lib.Dec.{eqb}
use borrow.Author.Tests.{eqb-true, eq-eqb, ne_eqb}
use Rattle.tree.specs.Tree.{roots, root}
use Rattle.numbers.proofs.Tests.{clash, same_or_not}
use Rattle.numbers.proofs.Sums.{Task, none-counted}
use Rattle.numbers.proofs.Counts.{count-change}
use Rattle.numbers.proofs.Lowest.{lowest-found}

-- the root is a task without a parent
pub root-task : (n : ℕ) (par : ℕ → ℕ) → roots n par ≡ 1 → Task n (root n par)
unfolding roots root
root-task n par one = (lowest-found (λ i. eqb (par i) 0) n (omega arith)).task

pub root-parent : (n : ℕ) (par : ℕ → ℕ) → roots n par ≡ 1 → par (root n par) ≡ 0
unfolding roots root
root-parent n par one = eqb-true (par (root n par)) 0 (lowest-found (λ i. eqb (par i) 0) n (omega arith)).passes

pub some-root : (n : ℕ) (par : ℕ → ℕ) → roots n par ≡ 1 → (r : ℕ) × Task n r × (par r ≡ 0)
some-root n par one = (root n par, root-task n par one, root-parent n par one)

-- one root only
pub one-root :
    (n : ℕ) (par : ℕ → ℕ) → roots n par ≡ 1 → (i j : ℕ) → Task n i → Task n j → par i ≡ 0 → par j ≡ 0 → i ≡ j
unfolding roots
one-root n par one i j t u p q =
    let other : ℕ → Bool = λ k. not (eqb k i) && eqb (par k) 0 in
    let more =
    count-change other (λ k. eqb (par k) 0) n i t (rw (eq-eqb i i refl)) (eq-eqb (par i) 0 p) (λ k _ d. rw (ne_eqb k i d))
    in
    ⊎_elim (λ e. e)
    (λ d.
    absurd
    (clash (rw (ne_eqb j i (λ e. d (sym e)), eq-eqb (par j) 0 q) refl) (none-counted other n (omega arith) j u)))
    (same_or_not i j)
