-- `rest` meets its contract: one figure is written.
use Prim.Native.Nat.{◌-◌}
use native.Mathlib.Omega.{arith}
use Rattle.numbers.specs.Lists.{at}
use Rattle.words.specs.Layout.{kind_at}
use Rattle.words.specs.Contents.{contents}
use Rattle.store.specs.Store.{store_at, rested}
use Rattle.store.proofs.Writing.{row_at, holds, figure-written}
use Rattle.store.proofs.Store.rest.Goals as goal

pub overflow_sub-figure : goal.overflow_sub-figure
overflow_sub-figure c = let r = row_at c.args.plan.now.words c.requires.0 in omega arith

pub returns : goal.returns
unfolding rested
returns c =
    let here = c.requires.0 in
    let r = row_at c.args.plan.now.words here in
    (figure-written (holds _ (kind_at c.args.self.offset) here.long) here.offset
    (at (store_at c.args.self.offset (contents c.args.plan.now.words)).figures c.args.task - c.args.left) (omega arith) c.args.task
    here.task_in c.set_cell.ensures).same
