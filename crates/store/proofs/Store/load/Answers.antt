-- `load` meets its contract: one word of the head is written.
use Prim.Native.Nat.{◌+◌}
use native.Mathlib.Omega.{arith}
use Rattle.numbers.specs.Lists.{at}
use Rattle.words.specs.Layout.{kind_at}
use Rattle.words.specs.Contents.{contents}
use Rattle.store.specs.Store.{store_at, loaded}
use Rattle.store.proofs.Writing.{row_at, head_at, holds, used-written}
use Rattle.store.proofs.Store.load.Goals as goal

pub overflow_add-work : goal.overflow_add-work
overflow_add-work c = let r = row_at c.args.plan.now.words c.requires.0 in omega arith

pub overflow_add-used : goal.overflow_add-used
overflow_add-used c =
    let r = row_at c.args.plan.now.words c.requires.0 in
    let h = head_at c.args.plan.now.words c.requires.0.offset in
    omega arith

pub returns : goal.returns
unfolding loaded
returns c =
    let r = row_at c.args.plan.now.words c.requires.0 in
    let h = head_at c.args.plan.now.words c.requires.0.offset in
    let was = store_at c.args.self.offset (contents c.args.plan.now.words) in
    (used-written (holds _ (kind_at c.args.self.offset) c.requires.0.long) c.requires.0.offset
    (was.used + (at was.works c.args.task + at was.outs c.args.task)) (omega arith) c.set_cell.ensures).same
