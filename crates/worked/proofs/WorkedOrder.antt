-- Orders found for small plans, and the refusals in their order. A statement that promises more is false.
use mathlib.Core.Path.{◌≡◌, refl}
use mathlib.Core.List.{List, [], ◌∷◌, ◌++◌, map}
use Prim.Native.Nat.{ℕ, ◌≤◌}
use native.Mathlib.Omega.{arith}
use lib.ListN.{replicate}
use Rattle.numbers.specs.Lists.{at, every, distinct}
use Rattle.rules.specs.State.{State, none}
use Rattle.format.specs.Command.{Command, plan, task, activation, begin}
use Rattle.rules.specs.Day.{after}
use Rattle.tree.specs.Tree.{Valid}
use Rattle.rules.specs.Reachable.{Reachable}
use Rattle.postorders.specs.Find.{found, find_order}
use Rattle.postorders.specs.FindHolds.{peak_by, Rooted}
use Rattle.worked.specs.Marked.{ask, asks, in_order, last, tasks_a, plan_a, ready_a, over_a, plan_c}
use Rattle.worked.proofs.Computing.{computing}
use Rattle.rules.proofs.Reaching.{reachable}
use Rattle.postorders.proofs.Find.{test-reaches}

-- plan A once its tasks are given, into a list with one entry more than is needed: equal ones by lower number
pub found-A : find_order (after none (asks (tasks_a 7))) (replicate 4 99) ≡ record { number = 0; count = 3; list = 1 ∷ 2 ∷ 3 ∷ 99 ∷ [] }
unfolding computing asks tasks_a ask
found-A = refl

-- plan C: task 2 frees 2 of its peak of 3, and task 1 frees 1 of as much
pub found-C : find_order (after none (asks plan_c)) (replicate 5 99) ≡ record { number = 0; count = 4; list = 2 ∷ 1 ∷ 3 ∷ 4 ∷ 99 ∷ [] }
unfolding computing asks plan_c in_order ask
found-C = refl

-- plan A once it is over, into a list that is just long enough
pub found-over : find_order (after none (asks over_a)) (replicate 3 99) ≡ record { number = 0; count = 3; list = 1 ∷ 2 ∷ 3 ∷ [] }
unfolding computing asks tasks_a plan_a ready_a over_a in_order ask
found-over = refl

-- task 1 leaves much, and task 2 takes much and leaves little
unfoldable pub uneven : List Command
uneven = plan 3 1 12 ∷ task 3 0 5 ∷ task 3 9 1 ∷ task 0 0 0 ∷ []

-- by their numbers they are refused for their peak of 15
pub by_number : (last (uneven ++ map activation (1 ∷ 2 ∷ 3 ∷ [])) begin).answer.number ≡ 9
unfolding computing last asks uneven ask
by_number = refl

-- the order found has a peak of 10, while task 2 runs
pub found-uneven : found (after none (asks uneven)) ≡ 2 ∷ 1 ∷ 3 ∷ []
unfolding computing asks uneven ask
found-uneven = refl

pub by-found : (last (uneven ++ map activation (found (after none (asks uneven)))) begin).answer.peaks.chilled ≡ record { trays = 10; task = 2 }
unfolding computing last asks uneven ask
by-found = refl

-- tasks with these parents
unfoldable pub with_parents : ℕ → List ℕ → List Command
with_parents n parents = plan n 1 0 ∷ map (λ parent. task parent 0 0) parents

-- the numbers that refuse, in their order: the last task is not given; two roots, and beside them a task that is its own parent; no root;
-- two tasks that are each other's parent, whatever the list; and a list that is one entry short
pub found-numbers :
    map (λ parents. (find_order (after none (asks (with_parents 4 parents))) (replicate 3 99)).number)
    ((0 ∷ 0 ∷ 3 ∷ []) ∷ (0 ∷ 0 ∷ 3 ∷ 1 ∷ []) ∷ (2 ∷ 3 ∷ 4 ∷ 1 ∷ []) ∷ (0 ∷ 3 ∷ 2 ∷ 1 ∷ []) ∷ (0 ∷ 1 ∷ 2 ∷ 3 ∷ []) ∷ [])
    ≡ 3 ∷ 7 ∷ 7 ∷ 12 ∷ 11 ∷ []
unfolding computing asks with_parents ask
found-numbers = refl

-- a refusal leaves the list as it was
pub found-short :
    find_order (after none (asks (with_parents 4 (0 ∷ 1 ∷ 2 ∷ 3 ∷ [])))) (replicate 3 99)
    ≡ record { number = 11; count = 0; list = replicate 3 99 }
unfolding computing asks with_parents ask
found-short = refl

-- two subtrees, each of which takes much at first and leaves little until its last task
unfoldable pub twins : List Command
twins = plan 5 1 12 ∷ task 3 10 1 ∷ task 4 10 1 ∷ task 5 0 5 ∷ task 5 0 5 ∷ task 0 0 0 ∷ []

-- BEGIN refuses the order found, and takes the one by number, which hops between them
pub twins-found : (last (twins ++ map activation (found (after none (asks twins)))) begin).answer.number ≡ 9
unfolding computing last asks twins ask
twins-found = refl

pub twins-by-number : (last (twins ++ map activation (1 ∷ 2 ∷ 3 ∷ 4 ∷ 5 ∷ [])) begin).answer.peaks.chilled.trays ≡ 12
unfolding computing last asks twins ask
twins-by-number = refl

-- wrong: "no order has a lower peak"
abbrev pub Best : Type 0
Best =
    (s : State)
    → Reachable s
    → Rooted s
    → (l : List ℕ)
    → Valid s.size (at s.parents) l
    → peak_by s (found s) ≤ peak_by s l

-- "Orders that hop between subtrees may do better": 12 by number, and 16 by the order found
pub not-best : Best → ⊥
unfolding computing asks twins ask every distinct
not-best h =
    let s = after none (asks twins) in
    let rooted : Rooted s = record { whole = omega arith; one = refl; reach = test-reaches s refl } in
    let valid : Valid 5 (at s.parents) (1 ∷ 2 ∷ 3 ∷ 4 ∷ 5 ∷ []) = record { inside = refl; once = refl; whole = refl; upward = refl } in
    let low : 16 ≤ 12 = h s (reachable (asks twins)) rooted (1 ∷ 2 ∷ 3 ∷ 4 ∷ 5 ∷ []) valid in
    omega arith
