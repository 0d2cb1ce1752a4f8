-- How many tasks pass a test, as they are counted among the numbers from 1 on.
use mathlib.Core.Path.{◌≡◌, refl}
use mathlib.Core.Bool.{Bool, true}
use mathlib.Core.Logic.{⊎_elim}
use Prim.Native.Nat.{ℕ, zero, suc, ◌+◌}
use native.Mathlib.Omega.{arith}
use lib.ListN.{length}
use Rattle.std.specs.List.{filter, range_with_len}
use Rattle.numbers.specs.Sums.{count_to, sum_to}
use Rattle.numbers.proofs.Counts.{count_yes, count_no}
use Rattle.numbers.proofs.Tests.{decide}

-- behind the first k, n more
counted-behind :
    (test : ℕ → Bool) (k n : ℕ) → length (filter test (range_with_len (k + 1) n)) + count_to test k ≡ count_to test (k + n)
counted-behind test k zero = let all : k + 0 ≡ k = omega arith in rw all (omega arith)
counted-behind test k (suc n) =
    let next : k + 1 + n ≡ k + suc n = omega arith in
    let later = rw next at (counted-behind test (k + 1) n) in
    ⊎_elim
    (λ (e : test (k + 1) ≡ true). rw e (omega (arith, count_yes test k e)))
    (λ e. rw e (omega (arith, count_no test k e))) (decide (test (k + 1)))

pub counted : (test : ℕ → Bool) (n : ℕ) → length (filter test (range_with_len 1 n)) ≡ count_to test n
unfolding count_to sum_to
counted test n =
    let none : count_to test 0 ≡ 0 = refl in
    let all : 0 + n ≡ n = omega arith in
    omega (arith, rw all at (counted-behind test 0 n))
