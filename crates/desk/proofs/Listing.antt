-- The entries of an order: one more of them, and each a task.
use mathlib.Core.Path.{◌≡◌}
use mathlib.Core.Bool.{Bool, true}
use mathlib.Core.List.{List, [], ◌∷◌, ◌++◌}
use Prim.Native.Nat.{ℕ, ◌+◌, ◌<◌}
use native.Mathlib.Numerals.{add-one}
use lib.ListN.{length, take}
use lib.Seq.{take-suc}
use Rattle.numbers.specs.Lists.{at, every}
use Rattle.numbers.proofs.Sums.{Task}
use Rattle.tree.proofs.Orders.{within-task, mem-at, every-mem}
use Rattle.desk.specs.Room.{Listed}

-- one entry more
pub take_more : (l : List ℕ) (k : ℕ) → k < length l → take (k + 1) l ≡ take k l ++ at l k ∷ []
take_more l k h = rw (add-one k) (take-suc l k 0 h)

-- where each entry passes, so does the one at k
every-at : (test : ℕ → Bool) (l : List ℕ) (k : ℕ) → k < length l → every test l ≡ true → test (at l k) ≡ true
every-at test l k h all = every-mem test l (at l k) all (mem-at l k h)

-- an entry of an order is a task
pub entry-task : (order : List ℕ) (k : ℕ) → Listed order → k < length order → Task (length order) (at order k)
entry-task order k listed h = within-task (length order) (at order k) (every-at _ order k h listed.inside)
