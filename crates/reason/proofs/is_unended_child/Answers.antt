-- `is_unended_child` meets its contract: the two words are the child's parent and its standing.
use Rattle.std.proofs.Common.{arith, sym, ◌∙◌}
use Rattle.std.proofs.lemmas.Bool.{eq-eqb, ne_eqb}
use Rattle.words.specs.Contents.{contents}
use Rattle.words.proofs.Views.{column-at}
use Rattle.reason.proofs.is_unended_child.Goals as goal

pub returns-then-cell-task : goal.returns-then-cell-task
unfolding contents
returns-then-cell-task c =
    let w = c.args.plan.now.words in
    rw (
      eq-eqb _ c.args.task (sym (c.cell.ensures ∙ column-at 0 w c.args.child (omega arith)) ∙ c.if-cell-task.true),
      ← column-at 4 w c.args.child (omega arith),
      ← c.stands.ensures,
    )

-- another task's child
pub returns-else-cell-task : goal.returns-else-cell-task
unfolding contents
returns-else-cell-task c =
    let parent = c.cell.ensures ∙ column-at 0 c.args.plan.now.words c.args.child (omega arith) in
    rw (ne_eqb _ c.args.task (λ e. c.if-cell-task.false (parent ∙ e)), ne_eqb _ c.args.task c.if-cell-task.false)
