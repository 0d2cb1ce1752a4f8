-- A set of places as the binary digits of a number.
use Rattle.std.specs.Prelude.{Bool, cond, ℕ, zero, suc, ◌+◌, ◌*◌}
use Rattle.numbers.specs.Sums.{only}

-- the number whose lowest digits are f 0, f 1, .., so many of them
unfoldable pub digits : (ℕ → Bool) → ℕ → ℕ
digits f zero = 0
digits f (suc count) = only (f 0) 1 + 2 * digits (λ k. f (suc k)) count

-- the first place below the count where f holds, or the count
unfoldable pub first_in : (ℕ → Bool) → ℕ → ℕ
first_in f zero = 0
first_in f (suc count) = cond (f 0) 0 (suc (first_in (λ k. f (suc k)) count))
