-- What is promised of the step that comes with the peak: "The peak shall always come with its step, the earliest in the activation order
-- where several are equal."
use Rattle.std.specs.Prelude.{◌≡◌, true, false, List, ◌∷◌, ◌++◌, ℕ, ◌<◌}
use Rattle.books.specs.Kind.{Kind, Each, of}
use Rattle.numbers.specs.Sums.{Task}
use Rattle.tree.specs.Peak.{Peaked, no_peak}
use Rattle.tree.specs.Tasks
use Rattle.tree.specs.Tasks.{Tasks}
use Rattle.rules.specs.State.{State, store_of, tasks_in}
use Rattle.rules.specs.Grounds.{no_peaks}
use Rattle.rules.specs.Answer.{Asking, Answered, command}
use Rattle.peaks.specs.Desk.{DeskAnswer, StepRecord, desk_tasks, desk}
use Rattle.rules.specs.Day.{begins_day}
use Rattle.rules.specs.Reachable.{Reachable}

-- the peak of an order, and the task that sets it
pub record SetsPeak (t : Tasks) (order : List ℕ) (p : Peaked) : Type 0 where
  pub highest : p.trays ≡ Tasks.peak t order
  -- one of the n tasks, where the peak is 0 too
  pub task : Task t.size p.task
  -- it stands in the order, and while it runs the store holds the peak
  pub earlier : List ℕ
  pub later : List ℕ
  pub stands : order ≡ earlier ++ p.task ∷ later
  pub sum : Tasks.sum_at t earlier p.task ≡ p.trays
  -- "the earliest .. where several are equal": while one of those ahead of it runs, the store holds less
  pub below :
      (pre : List ℕ) (x : ℕ) (post : List ℕ) → earlier ≡ pre ++ x ∷ post → Tasks.sum_at t pre x < p.trays

-- the same of the activation order of a plan, in every store
abbrev pub SetPeaksOf : State → Each Peaked → Type 0
SetPeaksOf s peaks = (k : Kind) → SetsPeak (tasks_in s (store_of s k)) s.activation (of peaks k)

-- of what one asking is answered: BEGIN, where it is accepted, tells the peak with its task; "Where no peak is answered, the step is 0."
pub record PeakHolds (s : State) (a : Asking) (r : Answered) : Type 0 where
  pub told : begins_day a r ≡ true → SetPeaksOf s r.answer.peaks
  pub none : begins_day a r ≡ false → r.answer.peaks ≡ no_peaks

-- of what the desk is answered
pub record DeskPeakHolds (records : List StepRecord) (activation : List ℕ) (r : DeskAnswer) : Type 0 where
  pub told : r.number ≡ 0 → SetsPeak (desk_tasks records) activation r.peak
  pub none : (r.number ≡ 0 → ⊥) → r.peak ≡ no_peak

-- "Everyone who uses the peak gets both: BEGIN, the desk's own list": of every plan that commands led to, and of every list
pub record EveryPeakHolds : Type 0 where
  pub begins : (s : State) → Reachable s → (a : Asking) → PeakHolds s a (command s a)
  pub desks : (records : List StepRecord) (activation : List ℕ) → DeskPeakHolds records activation (desk records activation)
