-- The tasks met along links, written to the front of a list.
use Rattle.std.specs.Prelude.{◌≡◌, true, List, [], ◌∷◌, ℕ, zero, suc, ◌≤◌, length}
use Rattle.numbers.specs.Lists.{mem}
use Rattle.numbers.specs.Limits.{max_tasks}
use Rattle.children.specs.Scratch.{head, after, field}

-- so many tasks, from one on
unfoldable pub met : ℕ → (link : ℕ → ℕ) → ℕ → List ℕ
met zero link from = []
met (suc count) link from = from ∷ met count link (link from)

-- the order of a task's subtree: so many tasks, from its head on
abbrev pub order_from : ℕ → List ℕ → ℕ → List ℕ
order_from n w root = met n (field after w) (field head w root)

pub record MayWrite (n : ℕ) (w : List ℕ) (root : ℕ) (list : List ℕ) : Type 0 where
  pub low : root ≤ max_tasks
  pub room : n ≤ length list
  pub each : (x : ℕ) → mem x (order_from n w root) ≡ true → x ≤ max_tasks
