-- The answer to a command, and what it leaves.
use Rattle.std.specs.Prelude.{cond, List, ◌++◌, ℕ, eqb, ltb, length, drop}
use Rattle.numbers.specs.Limits.{least_starts}
use Rattle.books.specs.Kind.{Each}
use Rattle.tree.specs.Peak.{Peaked}
use Rattle.rules.specs.State.{State}
use Rattle.format.specs.Command.{Command, Decoded, refused, read, decode}
use Rattle.rules.specs.Grounds.{no_peaks, ground_for}
use Rattle.rules.specs.Obey.{Outcome, obey}

-- "An accepted command answers number 0, the bytes used and how many steps it starts. The peak is answered by BEGIN only, offers
-- by DONE only; elsewhere both are 0." "The peak shall always come with its step .. Where no peak is answered, the step is 0."
pub record Answer : Type 0 where
  pub number : ℕ
  pub used : ℕ
  pub starts : ℕ
  -- chilled first
  pub peaks : Each Peaked
  pub offers : ℕ

-- an answer, with the plan and the start list afterwards
pub record Answered : Type 0 where
  pub answer : Answer
  pub state : State
  pub list : List ℕ

-- "A refusal answers its number, with bytes used, starts and every other count 0, and the plan, the phase and the start list
-- remain what they were."
unfoldable pub refuse : ℕ → State → List ℕ → Answered
refuse k s list =
    record { answer = record { number = k; used = 0; starts = 0; peaks = no_peaks; offers = 0 }; state = s; list = list }

-- "writes the steps it starts, in order, to the front of that list and touches no later entry"
unfoldable pub front : List ℕ → List ℕ → List ℕ
front started list = started ++ drop (length started) list

unfoldable pub accept : Outcome → ℕ → List ℕ → Answered
accept o used list =
    record {
      answer =
          record { number = 0; used = used; starts = length o.started; peaks = o.peaks; offers = o.offers };
      state = o.state;
      list = front o.started list;
    }

-- a whole command, refused where there is a ground
unfoldable pub judge : State → Command → ℕ → List ℕ → Answered
judge s c used list = cond (eqb (ground_for s c) 0) (accept (obey s c) used list) (refuse (ground_for s c) s list)

-- a decoded command with a start list. 10 "the start list has fewer than 64 entries" comes first
unfoldable pub respond : State → Decoded → List ℕ → Answered
respond s d list =
    cond (ltb (length list) least_starts) (refuse 10 s list)
    (elim d [ refused k ↦ refuse k s list | read c used ↦ judge s c used list ])

-- one asking: a reader on some bytes, at a place, and the caller's start list
pub record Asking : Type 0 where
  pub stream : List ℕ
  pub place : ℕ
  pub list : List ℕ

-- "Order of checks: 10; no byte (1); 2; cut operands (1); 3; 4; then .."
unfoldable pub command : State → Asking → Answered
command s a = respond s (decode a.stream a.place) a.list
