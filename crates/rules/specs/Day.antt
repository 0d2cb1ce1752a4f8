-- "A day. Demand 3 takes any list of commands to a plan in phase empty, each asked of any reader on any bytes (cut short or none
-- left included), with any start list."
use Rattle.std.specs.Prelude.{Bool, true, false, cond, not, ◌&&◌, ◌||◌, List, [], ◌∷◌, ◌++◌, map, ℕ, eqb, take}
use Rattle.numbers.specs.Lists.{mem}
use Rattle.rules.specs.State.{State}
use Rattle.format.specs.Command.{plan_byte, begin_byte, done_byte, fetch_byte, places_byte, byte_of, operands_of, Decoded, refused, read, decode}
use Rattle.rules.specs.Answer.{Asking, Answered, command}

-- "Each finds the plan as the one before left it": the plan after a list of askings
unfoldable pub after : State → List Asking → State
after s [] = s
after s (a ∷ later) = after (command s a).state later

-- what each of a list of askings is answered
unfoldable pub answers : State → List Asking → List Answered
answers s [] = []
answers s (a ∷ later) = command s a ∷ answers (command s a).state later

-- an answer accepts, and so the asking is accepted
abbrev pub accepts : Answered → Bool
accepts r = eqb r.answer.number 0

unfoldable pub accepted : State → Asking → Bool
accepted s a = accepts (command s a)

-- PLAN and BEGIN, which bound a day
unfoldable pub is_plan : Decoded → Bool
is_plan (refused k) = false
is_plan (read c used) = eqb (byte_of c) plan_byte

unfoldable pub is_begin : Decoded → Bool
is_begin (refused k) = false
is_begin (read c used) = eqb (byte_of c) begin_byte

-- "In it a step starts where an accepted command writes it among its starts, ends with the accepted DONE for it (before that
-- command's starts), and runs in between"
pub data Event : Type 0 where
  started : ℕ → Event
  ended : ℕ → Event
  -- the trolley is fetched
  fetched : Event
  -- the cold room has another bound: "A day may hold such commands between its reports"
  bounded : ℕ → Event

-- what a command reports: DONE the end of its task, FETCH the fetch, and 08 the new bound
unfoldable pub reported : Decoded → List Event
reported (refused k) = []
reported (read c used) =
    cond (eqb (byte_of c) done_byte) (map ended (operands_of c))
    (cond (eqb (byte_of c) fetch_byte) (fetched ∷ []) (cond (eqb (byte_of c) places_byte) (map bounded (operands_of c)) []))

-- what happens with one asking, as its bytes, its answer and its start list say
abbrev pub happens : Asking → Answered → List Event
happens a r =
    cond (accepts r)
    (reported (decode a.stream a.place) ++ map started (take r.answer.starts r.list)) []

unfoldable pub events : State → Asking → List Event
events s a = happens a (command s a)

-- what happens with a list of askings, in order
unfoldable pub log : State → List Asking → List Event
log s [] = []
log s (a ∷ later) = events s a ++ log (command s a).state later

-- the tasks started, and the tasks ended, in order
unfoldable pub starts : List Event → List ℕ
starts [] = []
starts (started i ∷ later) = i ∷ starts later
starts (ended i ∷ later) = starts later
starts (fetched ∷ later) = starts later
starts (bounded m ∷ later) = starts later

unfoldable pub ends : List Event → List ℕ
ends [] = []
ends (started i ∷ later) = ends later
ends (ended i ∷ later) = i ∷ ends later
ends (fetched ∷ later) = ends later
ends (bounded m ∷ later) = ends later

-- a task has started and not ended, by what happened
unfoldable pub runs : List Event → ℕ → Bool
runs happened i = mem i (starts happened) && not (mem i (ends happened))

-- the trolley was fetched
unfoldable pub is_fetched : List Event → Bool
is_fetched [] = false
is_fetched (started i ∷ later) = is_fetched later
is_fetched (ended i ∷ later) = is_fetched later
is_fetched (fetched ∷ later) = true
is_fetched (bounded m ∷ later) = is_fetched later

-- "the bound in force": the last that was given, or the one found
unfoldable pub in_force : ℕ → List Event → ℕ
in_force found [] = found
in_force found (started i ∷ later) = in_force found later
in_force found (ended i ∷ later) = in_force found later
in_force found (fetched ∷ later) = in_force found later
in_force found (bounded m ∷ later) = in_force m later

-- "A day is an accepted BEGIN and all commands after it, until a next plan is opened or the list ends."
abbrev pub begins_day : Asking → Answered → Bool
begins_day a r = accepts r && is_begin (decode a.stream a.place)

unfoldable pub opens_day : State → Asking → Bool
opens_day s a = begins_day a (command s a)

abbrev pub begins_plan : Asking → Answered → Bool
begins_plan a r = accepts r && is_plan (decode a.stream a.place)

unfoldable pub opens_plan : State → Asking → Bool
opens_plan s a = begins_plan a (command s a)

-- a next plan is opened among these askings
unfoldable pub next_plan : State → List Asking → Bool
next_plan s [] = false
next_plan s (a ∷ later) = opens_plan s a || next_plan (command s a).state later
