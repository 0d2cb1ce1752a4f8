use Rattle.std.proofs.Common.{arith}
use Rattle.finding.proofs.Written.{written_none, written_low, written_next, written_all}
use Rattle.finding.proofs.arranging.write_order.Goals as goal

pub loop-place-init : goal.loop-place-init
loop-place-init c = written_none _ _ _ _ c.requires _ c.get-task.ensures.0

pub overflow_cast-list : goal.overflow_cast-list
overflow_cast-list c =
    omega (arith, written_low _ _ _ _ c.requires _ _ _ c.loop-place.invariant c.loop-place-test.true)

pub get-task-requires-in-loop-place : goal.get-task-requires-in-loop-place
get-task-requires-in-loop-place c =
    omega (arith, written_low _ _ _ _ c.requires _ _ _ c.loop-place.invariant c.loop-place-test.true)

pub loop-place-preserved : goal.loop-place-preserved
loop-place-preserved c =
    written_next _ _ _ _ c.requires _ _ _ c.loop-place.invariant c.loop-place-test.true _ c.get-task-in-loop-place.ensures.0

pub returns : goal.returns
returns c = written_all _ _ _ _ c.requires _ _ _ c.loop-place.invariant c.loop-place-test.false
