-- A stream of commands, given to an empty plan one after another, each with a start list of 64 entries, up to the first that is
-- refused. The stream's end between commands refuses nothing.
use Rattle.std.specs.Prelude.{◌≡◌, Bool, true, false, ◌&&◌, List, [], ◌∷◌, ◌++◌, ℕ, zero, suc, ◌+◌, ◌≤◌, ◌<◌, eqb, leb, length, replicate}
use Rattle.numbers.specs.Limits.{least_starts}
use Rattle.rules.specs.State.{State, none}
use Rattle.format.specs.Command.{Command, Decoded, refused, read, decode}
use Rattle.rules.specs.Grounds.{ground_for}
use Rattle.rules.specs.Obey.{obey}
use Rattle.rules.specs.Answer.{Asking, command}
use Rattle.rules.specs.Day.{after}
use Rattle.rules.specs.Reachable.{Reachable}

-- what comes of a stream
pub record Run : Type 0 where
  -- 0 where the stream is accepted whole, else the number that refuses a command of it
  pub number : ℕ
  -- how far it came: the end, or the place of the command that is refused
  pub place : ℕ
  -- the commands accepted, in order, and the plan after them
  pub commands : List Command
  pub state : State

-- the command at a place, asked with a start list of 64 entries
abbrev pub asking : List ℕ → ℕ → Asking
asking stream place = record { stream = stream; place = place; list = replicate least_starts 0 }

-- no command is accepted any more
unfoldable pub stopped : ℕ → State → ℕ → Run
stopped number s place = record { number = number; place = place; commands = []; state = s }

-- commands accepted ahead of what comes of the rest
unfoldable pub prepend : List Command → Run → Run
prepend earlier r = record { number = r.number; place = r.place; commands = earlier ++ r.commands; state = r.state }

-- the command that was read
unfoldable pub read_in : Decoded → List Command
read_in (refused k) = []
read_in (read c used) = c ∷ []

-- what comes of a stream from a place on, turn after turn. A command uses a byte at least, so that as many turns as the stream has
-- bytes are enough
unfoldable pub run_from : ℕ → State → List ℕ → ℕ → Run
run_from zero s stream place = stopped 0 s place
run_from (suc turns) s stream place =
    elim (leb (length stream) place) [
      | true ↦ stopped 0 s place
      | false ↦
          let a = command s (asking stream place) in
          elim (eqb a.answer.number 0) [
            | true ↦ prepend (read_in (decode stream place)) (run_from turns a.state stream (place + a.answer.used))
            | false ↦ stopped a.answer.number s place
          ]
    ]

-- from an empty plan
unfoldable pub run : List ℕ → Run
run stream = run_from (length stream) none stream 0

-- the askings of such a run, the one that is refused included
unfoldable pub askings_from : ℕ → State → List ℕ → ℕ → List Asking
askings_from zero s stream place = []
askings_from (suc turns) s stream place =
    elim (leb (length stream) place) [
      | true ↦ []
      | false ↦
          let a = command s (asking stream place) in
          asking stream place
          ∷ elim (eqb a.answer.number 0) [
            | true ↦ askings_from turns a.state stream (place + a.answer.used)
            | false ↦ []
          ]
    ]

unfoldable pub askings : List ℕ → List Asking
askings stream = askings_from (length stream) none stream 0

-- the plan after commands that are obeyed one after another
unfoldable pub obey_all : State → List Command → State
obey_all s [] = s
obey_all s (c ∷ later) = obey_all (obey s c).state later

-- no ground refuses any of them in its turn
unfoldable pub accepts_all : State → List Command → Bool
accepts_all s [] = true
accepts_all s (c ∷ later) = eqb (ground_for s c) 0 && accepts_all (obey s c).state later

-- what is promised of a run over a stream that finds the plan s
pub record RunHolds (s : State) (stream : List ℕ) (r : Run) : Type 0 where
  -- a stream that is accepted whole is read to its end, and no stream further
  pub whole : r.number ≡ 0 → r.place ≡ length stream
  pub within : r.place ≤ length stream
  -- else the plan as it stands refuses the command at the place, with this number
  pub refusal :
      (r.number ≡ 0 → ⊥)
      → (r.place < length stream) × ((command r.state (asking stream r.place)).answer.number ≡ r.number)
  -- the plan is what the commands accepted make of it
  pub accepted : accepts_all s r.commands ≡ true
  pub obeyed : r.state ≡ obey_all s r.commands

-- of every stream, given to an empty plan; its plan is also what the list of its askings gives
pub record StreamHolds (stream : List ℕ) : Type 0 where
  pub runs : RunHolds none stream (run stream)
  pub asked : (run stream).state ≡ after none (askings stream)
  pub reached : Reachable (run stream).state
