-- `write_order` meets its contract.
use Rattle.std.proofs.Common.{arith, ◌≡◌, ◌+◌, ◌<◌, ◌∙◌}
use mathlib.Core.List.{flat_map}
use Rattle.numbers.specs.Lists.{at}
use Rattle.words.specs.Kept.{order_base, next_in}
use Rattle.words.specs.Layout.{entries}
use Rattle.words.specs.Views.{part}
use Rattle.words.specs.Contents.{contents}
use Rattle.words.proofs.Views.{part_length, part_at}
use Rattle.put.proofs.Pages.{nothing}
use Rattle.writer.proofs.Turning.{entry-turn}
use Rattle.writer.proofs.write_order.Goals as goal

pub loop-k-init : goal.loop-k-init
unfolding flat_map
loop-k-init c = nothing _

pub entry-task-requires : goal.entry-task-requires
unfolding contents
entry-task-requires c = omega (arith, c.base.ensures, c.requires.small, c.requires.inside)

pub overflow_cast-task : goal.overflow_cast-task
unfolding contents
overflow_cast-task c =
    let e = rw c.base.ensures at c.entry-task.ensures in
    omega (arith, c.requires.tasks c.loop-k.k (omega arith))

pub loop-k-preserved : goal.loop-k-preserved
unfolding contents
loop-k-preserved c =
    let w = c.args.plan.now.words in
    let base = order_base c.args.order in
    let inside : c.loop-k.k < entries = omega (arith, c.requires.small) in
    let there : c.entry-task.result ≡ at (part base entries w) c.loop-k.k =
    rw c.base.ensures at c.entry-task.ensures ∙ part_at base entries w c.loop-k.k inside in
    entry-turn (next_in c.args.order) (part base entries w) c.loop-k.k (rw (part_length base entries w) inside) there c.loop-k.invariant
    c.write_entry.ensures

pub returns : goal.returns
unfolding contents
returns c =
    let all : c.loop-k.k ≡ (contents c.args.plan.now.words).size = omega arith in
    rw all at c.loop-k.invariant
