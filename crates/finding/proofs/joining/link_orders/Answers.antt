use Rattle.std.proofs.Common.{arith}
use Rattle.children.proofs.Walking.{walking-task}
use Rattle.finding.proofs.Linking.{linking-none, linking-low, linking-next, linking-less, linking-end}
use Rattle.finding.proofs.joining.link_orders.Goals as goal

pub loop-child-init : goal.loop-child-init
loop-child-init c = linking-none _ _ _ c.requires.0 c.requires.1 c.get-child.ensures.0

pub get-head-requires : goal.get-head-requires
get-head-requires c = omega (arith, walking-task _ _ _ c.loop-child.invariant.walk c.loop-child-test.true)

pub put-requires : goal.put-requires
put-requires c = (omega (arith, linking-low _ _ _ _ _ c.requires.0 c.loop-child.invariant), c.get-head.ensures.1)

pub get-child-requires-in-loop-child : goal.get-child-requires-in-loop-child
get-child-requires-in-loop-child c = omega (arith, walking-task _ _ _ c.loop-child.invariant.walk c.loop-child-test.true)

pub loop-child-smaller : goal.loop-child-smaller
loop-child-smaller c =
    linking-less _ _ _ _ _ c.requires.0 c.loop-child.invariant c.loop-child-test.true _
    (rw c.get-head.ensures.0 at c.put.ensures) _ c.get-child-in-loop-child.ensures.0

pub loop-child-preserved : goal.loop-child-preserved
loop-child-preserved c =
    linking-next _ _ _ _ _ c.requires.0 c.loop-child.invariant c.loop-child-test.true _
    (rw c.get-head.ensures.0 at c.put.ensures) _ c.get-child-in-loop-child.ensures.0

pub put-requires-2 : goal.put-requires-2
put-requires-2 c =
    let t = c.requires.0.task in
    (omega (arith, linking-low _ _ _ _ _ c.requires.0 c.loop-child.invariant), omega arith)

pub returns : goal.returns
returns c =
    linking-end _ _ _ _ _ c.requires.0 c.loop-child.invariant c.loop-child-test.false _ c.put-2.ensures _
    (rw (← c.get-head-2.ensures.0) c.put-3.ensures)
