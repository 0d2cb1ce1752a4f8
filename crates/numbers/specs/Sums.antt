-- Sums and counts over the tasks 1 to n.
use Rattle.std.specs.Prelude.{Bool, true, false, cond, ◌&&◌, ℕ, zero, suc, ◌+◌, ◌≤◌, eqb, leb}

-- "n steps, numbered 1 to n": i is one of them
pub record Task (n i : ℕ) : Type 0 where
  pub low : 1 ≤ i
  pub high : i ≤ n

-- the same as a test: a number from 1 to a limit
abbrev pub within : ℕ → ℕ → Bool
within x limit = leb 1 x && leb x limit

-- the value where the test holds, 0 elsewhere
abbrev pub only : Bool → ℕ → ℕ
only true x = x
only false x = 0

-- f 1 + .. + f n
unfoldable pub sum_to : (ℕ → ℕ) → ℕ → ℕ
sum_to f zero = 0
sum_to f (suc n) = sum_to f n + f (suc n)

-- each of 1 to n passes the test
unfoldable pub every_to : (ℕ → Bool) → ℕ → Bool
every_to test zero = true
every_to test (suc n) = every_to test n && test (suc n)

-- how many of 1 to n pass the test
unfoldable pub count_to : (ℕ → Bool) → ℕ → ℕ
count_to test n = sum_to (λ i. only (test i) 1) n

-- the lowest of 1 to n that passes the test, 0 where none does
unfoldable pub lowest_to : (ℕ → Bool) → ℕ → ℕ
lowest_to test zero = 0
lowest_to test (suc n) = cond (eqb (lowest_to test n) 0) (only (test (suc n)) (suc n)) (lowest_to test n)
