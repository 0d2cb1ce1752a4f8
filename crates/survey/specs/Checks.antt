-- What the passes of a survey count.
use Rattle.std.specs.Prelude.{Bool, not, ◌&&◌, ℕ, ◌≤◌, eqb, leb}
use Rattle.numbers.specs.Sums.{Task}
use Rattle.numbers.specs.Limits.{max_tasks}

-- n tasks, and a parent of each that is a task or nobody
pub record Parented (n : ℕ) (par : ℕ → ℕ) : Type 0 where
  pub small : n ≤ max_tasks
  pub inside : (i : ℕ) → Task n i → par i ≤ n

-- i has a parent, which does not stand later
unfoldable pub is_late : (par rank : ℕ → ℕ) → ℕ → Bool
is_late par rank i = not (eqb (par i) 0) && leb (rank (par i)) (rank i)
