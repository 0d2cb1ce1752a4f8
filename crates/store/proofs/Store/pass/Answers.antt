-- `pass` meets its contract: two words of a row are written.
use Prim.Native.Nat.{◌+◌, ◌-◌}
use native.Mathlib.Omega.{arith}
use Rattle.numbers.specs.Lists.{at}
use Rattle.words.specs.Layout.{kind_at}
use Rattle.words.specs.Contents.{contents}
use Rattle.store.specs.Store.{store_at, with_store, with_holdings, gift, passed}
use Rattle.store.proofs.Writing.{row_at, holds, booked-written, figure-written}
use Rattle.store.proofs.Store.pass.Goals as goal

pub overflow_sub-figure : goal.overflow_sub-figure
overflow_sub-figure c = let r = row_at c.args.plan.now.words c.requires.at_task in omega arith

pub overflow_add-booked : goal.overflow_add-booked
unfolding gift
overflow_add-booked c = let r = row_at c.args.plan.now.words c.requires.at_task in omega arith

pub overflow_sub-result : goal.overflow_sub-result
unfolding gift
overflow_sub-result c = let r = row_at c.args.plan.now.words c.requires.at_task in omega arith

pub returns : goal.returns
unfolding with_store with_holdings gift passed
returns c =
    let here = c.requires.at_task in
    let r = row_at c.args.plan.now.words here in
    let x = c.args.task in
    let was = store_at c.args.self.offset (contents c.args.plan.now.words) in
    let given = gift x c.args.left was in (
      (figure-written
          (booked-written (holds c.args.plan.now.words (kind_at c.args.self.offset) here.long) here.offset (at was.booked x + given)
          (omega arith) x here.task_in c.set_cell.ensures)
          here.offset (at was.figures x - c.args.left + given) (omega arith) x here.task_in c.set_cell-2.ensures).same,
      omega arith,
    )
