-- The caller's records, and what the desk is answered, as those of the rules.
use Rattle.std.specs.Prelude.{List, map, Result, Ok, Err}
use Rattle.peaks.specs.Desk as rules
use Rattle.peaks.specs.Desk.{StepRecord}
use Rattle.refusal.specs.declared.Refusal.{Refusal}
use Rattle.refusal.specs.Number.{number_of}
use Rattle.survey.specs.declared.level.Peaked.{Peaked}
use Rattle.desk.specs.declared.TaskRecord.{TaskRecord}
use Rattle.desk.specs.declared.DeskAnswer.{DeskAnswer}

-- "A record is parent, work and out"
abbrev pub step_record : TaskRecord → StepRecord
step_record r = record { parent = r.parent; work = r.work; out = r.out }

unfoldable pub step_records : List TaskRecord → List StepRecord
step_records records = map step_record records

-- the peak comes with its task
abbrev pub answer_of : DeskAnswer → rules.DeskAnswer
answer_of r = record { number = r.number; peak = record { trays = r.peak; task = r.by } }

-- what is told of an outcome as plain numbers: "A refusal answers its number and peak 0"
abbrev pub told : Result Peaked Refusal → DeskAnswer
told (Ok p) = record { number = 0; peak = p.trays; by = p.task }
told (Err refusal) = record { number = number_of refusal; peak = 0; by = 0 }
