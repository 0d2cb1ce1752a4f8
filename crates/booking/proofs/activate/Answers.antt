-- `activate` meets its contract: the standing is written, and the place is added where nothing is waited for.
use mathlib.Core.Path.{sym, ◌∙◌}
use Rattle.words.specs.Contents.{contents}
use Rattle.booking.proofs.Activating.{unended-read, place_read, may-insert, fed, unfed}
use Rattle.booking.proofs.activate.Goals as goal

pub insert-requires : goal.insert-requires
insert-requires c =
    let w = c.args.plan.now.words in
    rw (c.cell-place.ensures ∙ place_read w c.requires c.set_standing.ensures) (may-insert w c.requires c.set_standing.ensures)

pub returns-then-cell-eq0 : goal.returns-then-cell-eq0
returns-then-cell-eq0 c =
    let w = c.args.plan.now.words in
    fed w c.requires c.set_standing.ensures (contents c.insert.new.plan.words)
    (sym (c.cell.ensures ∙ unended-read w c.requires c.set_standing.ensures) ∙ c.if-cell-eq0.true)
    (rw (c.cell-place.ensures ∙ place_read w c.requires c.set_standing.ensures) at c.insert.ensures)

pub returns-else-cell-eq0 : goal.returns-else-cell-eq0
returns-else-cell-eq0 c =
    let w = c.args.plan.now.words in
    unfed w c.requires c.set_standing.ensures
    (λ e. c.if-cell-eq0.false (c.cell.ensures ∙ unended-read w c.requires c.set_standing.ensures ∙ e))
