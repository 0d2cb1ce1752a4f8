-- The first tasks are put.
use Rattle.std.proofs.Common.{take}
use Rattle.texts.specs.Text.{spaced}
use Rattle.put.specs.Pages.{Puts}
use Rattle.lines.proofs.tail.spaced.Given as goal

abbrev pub invariant-loop-task : goal.invariant-loop-task
invariant-loop-task l = Puts (spaced (take l.task-index l.tasks)) l.initial.page l.page
