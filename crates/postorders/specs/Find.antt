-- "Find a good activation order. Our planners type the activation order themselves and often get refused for its peak. From the steps
-- alone, write into a lent list of step numbers the order that finishes each subtree before turning to its neighbour .."
use Rattle.std.specs.Prelude.{Bool, cond, List, ℕ, eqb, leb, length}
use Rattle.numbers.specs.Sums.{every_to}
use Rattle.numbers.specs.Lists.{at, mem}
use Rattle.tree.specs.Tree.{roots, root, chain}
use Rattle.rules.specs.Phase
use Rattle.rules.specs.State.{State, root_of}
use Rattle.rules.specs.Grounds.{demand}
use Rattle.postorders.specs.Postorder.{best_postorder}
use Rattle.streams.specs.Write.{Wrote, untouched, at_front}

-- the chain of parents of each task reaches the root. Of n tasks it does so among the first n or never (`Ascending.reaches-soon`)
unfoldable pub all_reach : (n : ℕ) (par : ℕ → ℕ) → Bool
all_reach n par = every_to (λ i. mem (root n par) (chain n par i)) n

-- the order that is found for the subtree of a task, which has no more than n levels
unfoldable pub found_below : State → ℕ → List ℕ
found_below s = best_postorder s.size s.size (at s.parents) (at s.stores.chilled.works) (at s.stores.chilled.outs)

-- the order that is found: all tasks are of the root's subtree
unfoldable pub found : State → List ℕ
found s = found_below s (root_of s)

-- "3 until all steps are given; then 7; then 12 if some step's chain of parents never reaches the root; then 11 if the list has fewer
-- than n entries"
unfoldable pub find_ground : State → (entries : ℕ) → ℕ
find_ground s entries =
    demand (leb Phase.orders s.phase) 3
    (demand (eqb (roots s.size (at s.parents)) 1) 7
    (demand (all_reach s.size (at s.parents)) 12 (demand (leb s.size entries) 11 0)))

-- "Entries past the n-th are untouched, and on a refusal all are."
unfoldable pub find_order : State → List ℕ → Wrote
find_order s list =
    cond (eqb (find_ground s (length list)) 0) (at_front (found s) list) (untouched (find_ground s (length list)) list)
