-- Laws of counts over the tasks 1 to n: one more of them, one more that passes, and a count of all.
use mathlib.Core.Path.{◌≡◌, refl, ap, ◌∙◌}
use mathlib.Core.Bool.{Bool, true, false, not}
use mathlib.Core.Logic.{⊎_elim}
use Prim.Native.Nat.{ℕ, zero, suc, ◌+◌}
use native.Mathlib.Omega.{arith}
use native.Mathlib.Numerals.{add-one}
use Rattle.numbers.specs.Sums.{only, sum_to, count_to}
use Rattle.numbers.proofs.Tests.{decide}
use Rattle.numbers.proofs.Sums.{Task, sum-cong, sum-add, sum-change, term-le, only-true, only-false}

-- one task more, which passes or does not
pub count_yes : (test : ℕ → Bool) (n : ℕ) → test (n + 1) ≡ true → count_to test (n + 1) ≡ count_to test n + 1
unfolding count_to sum_to
count_yes test n e = rw (add-one n) (omega (arith, only-true (test (suc n)) 1 (rw (add-one n) at e)))

pub count_no : (test : ℕ → Bool) (n : ℕ) → test (n + 1) ≡ false → count_to test (n + 1) ≡ count_to test n
unfolding count_to sum_to
count_no test n e = rw (add-one n) (omega (arith, only-false (test (suc n)) 1 (rw (add-one n) at e)))

-- where the tests agree as many are counted
pub count-cong :
    (test test' : ℕ → Bool) (n : ℕ) → ((i : ℕ) → Task n i → test i ≡ test' i) → count_to test n ≡ count_to test' n
unfolding count_to
count-cong test test' n h =
    sum-cong (λ i. only (test i) 1) (λ i. only (test' i) 1) n (λ i t. ap (λ (b : Bool). only b 1) (h i t))

-- one more is counted
pub count-change :
    (test test' : ℕ → Bool) (n x : ℕ)
    → Task n x
    → test x ≡ false
    → test' x ≡ true
    → ((i : ℕ) → Task n i → (i ≡ x → ⊥) → test' i ≡ test i)
    → count_to test' n ≡ count_to test n + 1
unfolding count_to
count-change test test' n x t old new other =
    sum-change (λ i. only (test i) 1) (λ i. only (test' i) 1) n x 1 t (rw (old, new) (omega arith))
    (λ i u d. ap (λ (b : Bool). only b 1) (other i u d))

-- a sum of ones
ones : (n : ℕ) → sum_to (λ _. 1) n ≡ n
unfolding sum_to
ones zero = refl
ones (suc n) = omega (arith, ones n)

-- a count that comes to n leaves no task out
pub count-full : (test : ℕ → Bool) (n : ℕ) → count_to test n ≡ n → (i : ℕ) → Task n i → test i ≡ true
unfolding count_to
count-full test n full i t =
    ⊎_elim (λ e. e)
    (λ e.
    let left_out : sum_to (λ k. only (test k) 1 + only (not (test k)) 1) n
    ≡ sum_to (λ k. only (test k) 1) n + sum_to (λ k. only (not (test k)) 1) n
    = sum-add (λ k. only (test k) 1) (λ k. only (not (test k)) 1) n in
    let all : sum_to (λ k. only (test k) 1 + only (not (test k)) 1) n ≡ n
    = sum-cong (λ k. only (test k) 1 + only (not (test k)) 1) (λ _. 1) n (λ k _. one (test k)) ∙ ones n in
    let here : only (not (test i)) 1 ≡ 1 = only-true (not (test i)) 1 (ap not e) in
    absurd (omega (arith, term-le (λ k. only (not (test k)) 1) n i t)))
    (decide (test i))
  where
    one : (b : Bool) → only b 1 + only (not b) 1 ≡ 1
    one true = refl
    one false = refl
