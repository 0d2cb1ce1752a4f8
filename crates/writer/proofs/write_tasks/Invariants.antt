-- The tasks passed so far are written.
use mathlib.Core.List.{flat_map}
use Rattle.std.proofs.Common.{◌-◌}
use Rattle.format.specs.Command.{bytes}
use Rattle.streams.specs.Instance.{instance_of, tasks_to}
use Rattle.answer.specs.Meaning.{plan_of}
use Rattle.put.specs.Pages.{Puts}
use Rattle.writer.proofs.write_tasks.Given as goal

abbrev pub invariant-loop-task : goal.invariant-loop-task
invariant-loop-task l =
    Puts (flat_map bytes (tasks_to (instance_of (plan_of l.plan.words)) (l.task - 1))) l.fn.page l.page
