-- `write_task` meets its contract: what is read is the task's parent, work and out.
use Rattle.std.proofs.Common.{arith, ◌∙◌}
use Rattle.books.specs.Kind.{chilled}
use Rattle.rules.proofs.Reaching.{lives}
use Rattle.writer.proofs.Reading.{parent-read, work-read, out-read}
use Rattle.writer.proofs.write_task.Goals as goal

-- each count is in its limits
pub overflow_cast-parent : goal.overflow_cast-parent
overflow_cast-parent c =
    let e = c.cell-parent.ensures ∙ parent-read c.requires in
    omega (arith, (lives c.requires.plan.valid.reached).formed.given.parents.limited c.args.task, c.requires.plan.valid.sound.small)

pub overflow_cast-work : goal.overflow_cast-work
overflow_cast-work c =
    let e = c.cell-work.ensures ∙ work-read c.requires in
    omega (arith, ((lives c.requires.plan.valid.reached).formed.stores chilled).works.limited c.args.task)

pub overflow_cast-out : goal.overflow_cast-out
overflow_cast-out c =
    let e = c.cell-out.ensures ∙ out-read c.requires in
    omega (arith, ((lives c.requires.plan.valid.reached).formed.stores chilled).outs.limited c.args.task)

pub returns : goal.returns
returns c =
    rw (
      ← (c.cell-parent.ensures ∙ parent-read c.requires),
      ← (c.cell-work.ensures ∙ work-read c.requires),
      ← (c.cell-out.ensures ∙ out-read c.requires),
    )
    c.encode.ensures
