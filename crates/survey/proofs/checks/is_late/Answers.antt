use Rattle.std.proofs.Common.{ℕ, ◌+◌, ◌*◌, ◌∙◌, ap, arith, sym, eq-eqb, ne_eqb}
use Rattle.numbers.specs.Lists.{at}
use Rattle.words.specs.Layout.{row}
use Rattle.words.specs.Contents.{contents}
use Rattle.survey.specs.Checks.{is_late}
use Rattle.survey.proofs.Reading.{parent-at, rank-at}
use Rattle.survey.proofs.checks.is_late.Goals as goal

-- the first word read is the parent
pub cell-requires : goal.cell-requires
cell-requires c =
    let parent = c.cell-parent.ensures ∙ parent-at _ c.args.task (omega arith) in
    (omega arith, omega arith)

pub returns-then-parent-ne0 : goal.returns-then-parent-ne0
unfolding is_late
returns-then-parent-ne0 c =
    let w = c.args.plan.now.words in
    let up = at (contents w).parents c.args.task in
    let parent = c.cell-parent.ensures ∙ parent-at w c.args.task (omega arith) in
    let above = c.cell.ensures ∙ ap (λ (q : ℕ). at w (row * q + 1)) parent ∙ rank-at w up (omega arith) in
    let own = c.cell-then-parent-ne0.ensures ∙ rank-at w c.args.task (omega arith) in
    rw (above, own, ne_eqb up 0 (λ e. c.if-parent-ne0.true (parent ∙ e)))

pub returns-else-parent-ne0 : goal.returns-else-parent-ne0
unfolding is_late
returns-else-parent-ne0 c =
    let parent = c.cell-parent.ensures ∙ parent-at _ c.args.task (omega arith) in
    rw (c.if-parent-ne0.false, eq-eqb _ 0 (sym parent ∙ c.if-parent-ne0.false))
