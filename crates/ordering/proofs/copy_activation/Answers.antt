-- `copy_activation` meets its contract: the entries passed so far stand in both orders.
use Rattle.std.proofs.Common.{arith, ◌≡◌}
use Rattle.words.specs.Contents.{contents}
use Rattle.ordering.proofs.Copying.{copied_none, copied_all, entry-may, entry-copied}
use Rattle.ordering.proofs.copy_activation.Goals as goal

pub loop-k-init : goal.loop-k-init
loop-k-init c = copied_none c.requires.0 c.requires.1

pub entry-task-requires : goal.entry-task-requires
unfolding contents
entry-task-requires c = omega (arith, c.requires.0.sound.small)

pub write_next-requires : goal.write_next-requires
unfolding contents
write_next-requires c =
    entry-may c.requires.0 c.requires.1 c.loop-k.k (omega arith) c.loop-k.invariant (rw c.base.ensures at c.entry-task.ensures)

pub loop-k-preserved : goal.loop-k-preserved
unfolding contents
loop-k-preserved c =
    entry-copied c.requires.0 c.requires.1 c.loop-k.k (omega arith) c.loop-k.invariant (rw c.base.ensures at c.entry-task.ensures)
    c.write_next.ensures

pub returns : goal.returns
unfolding contents
returns c =
    let n : c.loop-k.k ≡ (contents c.args.plan.now.words).size = omega arith in
    copied_all c.requires.0 c.requires.1 (rw n at c.loop-k.invariant)
