use Rattle.std.proofs.Common.{arith}
use Rattle.children.proofs.Walking.{walking-task}
use Rattle.finding.proofs.Queueing.{queueing-none, queueing-room, queueing-next, queueing-less, queueing-end}
use Rattle.finding.proofs.reaching.reach_children.Goals as goal

pub loop-child-init : goal.loop-child-init
loop-child-init c = queueing-none _ _ _ c.requires _ c.get-child.ensures.0

pub put-requires : goal.put-requires
put-requires c =
    let room = queueing-room _ _ _ c.requires _ _ _ c.loop-child.invariant c.loop-child-test.true in
    let t = walking-task _ _ _ c.loop-child.invariant.walk c.loop-child-test.true in
    (omega arith, omega arith)

pub overflow_add-next : goal.overflow_add-next
overflow_add-next c = omega (arith, queueing-room _ _ _ c.requires _ _ _ c.loop-child.invariant c.loop-child-test.true)

pub get-child-requires-in-loop-child : goal.get-child-requires-in-loop-child
get-child-requires-in-loop-child c = omega (arith, walking-task _ _ _ c.loop-child.invariant.walk c.loop-child-test.true)

pub loop-child-smaller : goal.loop-child-smaller
loop-child-smaller c =
    queueing-less _ _ _ c.requires _ _ _ c.loop-child.invariant c.loop-child-test.true _ c.put.ensures _
    c.get-child-in-loop-child.ensures.0

pub loop-child-preserved : goal.loop-child-preserved
loop-child-preserved c =
    queueing-next _ _ _ c.requires _ _ _ c.loop-child.invariant c.loop-child-test.true _ c.put.ensures _
    c.get-child-in-loop-child.ensures.0

pub returns : goal.returns
returns c = queueing-end _ _ _ c.requires _ _ _ c.loop-child.invariant c.loop-child-test.false
