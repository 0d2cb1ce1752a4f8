-- `root` meets its contract: the last entry of the activation order.
use Rattle.std.proofs.Common.{arith, ap, ℕ, ◌+◌, ◌-◌, ◌∙◌}
use Rattle.numbers.specs.Lists.{at}
use Rattle.words.specs.Layout.{activation_base, entries}
use Rattle.words.specs.Contents.{contents}
use Rattle.words.proofs.Views.{part_at}
use Rattle.day.proofs.Fetching.{root-task, last_entry}
use Rattle.day.proofs.fetch.root.Goals as goal

pub overflow_sub-size : goal.overflow_sub-size
unfolding contents
overflow_sub-size c =
    let t = root-task (contents c.args.plan.now.words) c.requires.0.reached c.requires.0.sound c.requires.1 in
    omega (arith, t.low, t.high, c.cell-size.ensures)

pub entry-requires : goal.entry-requires
unfolding contents
entry-requires c = omega (arith, c.requires.0.sound.small, c.cell-size.ensures)

pub returns : goal.returns
unfolding contents
returns c =
    let w = c.args.plan.now.words in
    let t = root-task (contents w) c.requires.0.reached c.requires.0.sound c.requires.1 in
    let small = c.requires.0.sound.small in
    let low = t.low in
    let high = t.high in
    c.entry.ensures
    ∙ ap (λ (k : ℕ). at w (activation_base + (k - 1))) c.cell-size.ensures
    ∙ part_at activation_base entries w ((contents w).size - 1) (omega arith)
    ∙ last_entry (contents w) c.requires.0.reached c.requires.0.sound c.requires.1
