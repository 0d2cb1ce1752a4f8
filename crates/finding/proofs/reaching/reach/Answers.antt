-- The queue has the children of the tasks passed.
use Rattle.std.proofs.Common.{arith}
use Rattle.finding.proofs.Reached.{reaching-none, reaching-few, may-append, reaching-next, reaching-all}
use Rattle.finding.proofs.reaching.reach.Goals as goal

pub loop-k-init : goal.loop-k-init
loop-k-init c = reaching-none _ _ _ c.requires _ c.get-root.ensures.0 _ c.put.ensures

pub get-task-requires : goal.get-task-requires
get-task-requires c =
    let few = reaching-few _ _ _ _ _ _ _ c.loop-k.invariant in
    omega (arith, c.loop-k.invariant.small)

pub reach_children-count-requires : goal.reach_children-count-requires
reach_children-count-requires c =
    rw c.get-task.ensures.0 (may-append _ _ _ _ _ _ _ c.loop-k.invariant c.loop-k-test.true)

pub overflow_add-k : goal.overflow_add-k
overflow_add-k c =
    let few = reaching-few _ _ _ _ _ _ _ c.loop-k.invariant in
    omega (arith, c.loop-k.invariant.small)

pub loop-k-smaller : goal.loop-k-smaller
loop-k-smaller c = let few = reaching-few _ _ _ _ _ _ _ c.loop-k.invariant in omega arith

pub loop-k-preserved : goal.loop-k-preserved
loop-k-preserved c =
    reaching-next _ _ _ _ _ _ _ c.loop-k.invariant c.loop-k-test.true _ _
    (rw c.get-task.ensures.0 at c.reach_children-count.ensures)

pub returns : goal.returns
returns c =
    reaching-all _ _ _ _ _ _ _ c.loop-k.invariant _ c.requires c.get-root.ensures.0 c.put.ensures c.loop-k-test.false
