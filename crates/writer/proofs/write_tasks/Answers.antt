-- `write_tasks` meets its contract.
use Rattle.std.proofs.Common.{arith, ◌≡◌, ◌+◌, ◌-◌}
use Rattle.words.specs.Contents.{contents}
use Rattle.streams.specs.Instance.{tasks_to}
use Rattle.put.proofs.Pages.{nothing}
use Rattle.writer.proofs.Turning.{task-turn}
use Rattle.writer.proofs.write_tasks.Goals as goal
use mathlib.Core.List.{flat_map}

pub loop-task-init : goal.loop-task-init
unfolding tasks_to flat_map
loop-task-init c = nothing _

pub write_task-requires : goal.write_task-requires
unfolding contents
write_task-requires c = record { plan = c.requires; is_task = record { low = omega arith; high = omega arith } }

pub loop-task-preserved : goal.loop-task-preserved
loop-task-preserved c =
    let next : c.loop-task.task - 1 + 1 ≡ c.loop-task.task = omega arith in
    let later : c.loop-task.task + 1 - 1 ≡ c.loop-task.task - 1 + 1 = omega arith in
    rw later (task-turn _ (c.loop-task.task - 1) c.loop-task.invariant (rw next c.write_task.ensures))

pub returns : goal.returns
unfolding contents
returns c =
    let all : c.loop-task.task - 1 ≡ (contents c.args.plan.now.words).size = omega arith in
    rw all at c.loop-task.invariant
