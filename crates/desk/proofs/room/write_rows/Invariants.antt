use Rattle.peaks.specs.Desk.{desk_tasks}
use Rattle.desk.specs.Records.{step_records}
use Rattle.desk.proofs.Rowing.{Rowing}
use Rattle.desk.proofs.room.write_rows.Given as goal

abbrev pub invariant-loop-place : goal.invariant-loop-place
invariant-loop-place l = Rowing (desk_tasks (step_records l.records)) l.room.words l.place
