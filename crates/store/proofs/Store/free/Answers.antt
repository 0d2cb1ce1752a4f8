-- `free` meets its contract: one word of the head is written.
use native.Mathlib.Omega.{arith}
use Rattle.words.specs.Layout.{kind_at}
use Rattle.store.specs.Store.{freed}
use Rattle.store.proofs.Writing.{head_at, holds, total-written}
use Rattle.store.proofs.Store.free.Goals as goal

pub overflow_sub-total : goal.overflow_sub-total
overflow_sub-total c = let r = head_at c.args.plan.now.words c.requires.0.offset in omega arith

pub returns : goal.returns
unfolding freed
returns c =
    let r = head_at c.args.plan.now.words c.requires.0.offset in
    (total-written (holds _ (kind_at c.args.self.offset) c.requires.1) c.requires.0.offset _ (omega arith) c.set_cell.ensures).same
