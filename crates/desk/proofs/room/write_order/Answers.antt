-- The entries passed are written, with the ranks of their tasks.
use Rattle.std.proofs.Common.{refl, arith}
use Rattle.desk.proofs.Ranking.{writing-none, writing-task, writing-next, writing-all}
use Rattle.desk.proofs.room.write_order.Goals as goal

pub loop-place-init : goal.loop-place-init
loop-place-init c = writing-none c.requires

pub set_entry-requires : goal.set_entry-requires
set_entry-requires c = omega (arith, c.loop-place.invariant.may.listed.few)

pub overflow_cast-place : goal.overflow_cast-place
overflow_cast-place c = omega (arith, c.loop-place.invariant.may.listed.few)

pub set_cell-requires : goal.set_cell-requires
set_cell-requires c =
    let task = writing-task c.loop-place.invariant c.loop-place-test.true in
    (omega arith, omega arith)

pub loop-place-preserved : goal.loop-place-preserved
loop-place-preserved c =
    writing-next c.loop-place.invariant c.loop-place-test.true refl c.set_entry.ensures c.set_cell.ensures

pub returns : goal.returns
returns c = writing-all c.loop-place.invariant c.loop-place-test.false
