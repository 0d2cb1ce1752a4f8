-- The tasks of the records: each has the numbers of its record, and nobody has any.
use mathlib.Core.Path.{◌≡◌, refl, sym, ap, ◌∙◌}
use mathlib.Core.Logic.{⊎_elim}
use mathlib.Core.List.{List, map}
use Prim.Native.Nat.{ℕ, zero, suc, ◌+◌, ◌≤◌, ◌<◌}
use native.Mathlib.Numerals.{add-one}
use native.Mathlib.Omega.{arith}
use lib.ListN.{length, get_or, length-map, get_or-map, get_or-eq_default}
use Rattle.numbers.specs.Lists.{at}
use Rattle.numbers.proofs.Sums.{Task}
use Rattle.numbers.proofs.Tests.{le-or-lt}
use Rattle.peaks.specs.Desk.{StepRecord, column, desk_answer, desk_tasks, desk}
use Rattle.desk.specs.declared.TaskRecord.{TaskRecord}
use Rattle.desk.specs.Records.{step_record, step_records}
use Rattle.desk.proofs.Rowing.{NoOthers}

pub length-steps : (records : List TaskRecord) → length (step_records records) ≡ length records
unfolding step_records
length-steps records = length-map records step_record

-- what the desk is answered for as many tasks as there are records
pub desk-is :
    (records : List TaskRecord) (activation : List ℕ)
    → desk (step_records records) activation
    ≡ desk_answer
    (record {
      size = length records;
      parent = (desk_tasks (step_records records)).parent;
      work = (desk_tasks (step_records records)).work;
      out = (desk_tasks (step_records records)).out;
    })
    activation
unfolding desk
desk-is records activation =
    ap
    (λ (n : ℕ).
    desk_answer
    (record {
      size = n;
      parent = (desk_tasks (step_records records)).parent;
      work = (desk_tasks (step_records records)).work;
      out = (desk_tasks (step_records records)).out;
    })
    activation)
    (length-steps records)

-- nobody has an entry in the column of the records
no-entry :
    (field : StepRecord → ℕ) (records : List StepRecord) (i : ℕ)
    → (Task (length records) i → ⊥)
    → at (column field records) i ≡ 0
unfolding column
no-entry field records zero other = refl
no-entry field records (suc i) other =
    ⊎_elim
    (λ (past : length records ≤ i). get_or-eq_default (map field records) 0 (let long = length-map records field in omega arith))
    (λ (under : i < length records). absurd (other (record { low = omega arith; high = omega arith })))
    (le-or-lt (length records) i)

pub no-others : (records : List StepRecord) → NoOthers (desk_tasks records)
no-others records =
    record {
      parents = no-entry (λ r. r.parent) records;
      works = no-entry (λ r. r.work) records;
      outs = no-entry (λ r. r.out) records;
    }

-- what a place past the records is read as
abbrev pub blank : TaskRecord
blank = record { parent = 0; work = 0; out = 0 }

-- the entry of a record
pub entry :
    (field : StepRecord → ℕ) (records : List TaskRecord)
    → field (step_record blank) ≡ 0
    → (i : ℕ)
    → field (step_record (get_or records i blank)) ≡ at (column field (step_records records)) (i + 1)
unfolding column step_records
entry field records none i =
    rw (add-one i)
    (sym
    (ap (λ (d : ℕ). get_or (map field (map step_record records)) i d) (sym none)
    ∙ get_or-map field (map step_record records) i (step_record blank)
    ∙ ap field (get_or-map step_record records i blank)))
