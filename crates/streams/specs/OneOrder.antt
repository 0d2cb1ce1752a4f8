-- "A plan without an execution order. Most desks have no second order and copy the first." What BEGIN makes of such a plan, and that
-- "all streams accepted before get the same answers".
use Rattle.std.specs.Prelude.{◌≡◌, Bool, true, false, cond, ◌&&◌, List, [], ◌∷◌, map, ℕ, ◌≤◌, ◌<◌, eqb, leb, length}
use Rattle.numbers.specs.Limits.{least_starts}
use Rattle.rules.specs.Phase
use Rattle.rules.specs.State.{State}
use Rattle.format.specs.Command.{execution, begin, bytes, decode}
use Rattle.rules.specs.Grounds as grounds
use Rattle.rules.specs.Grounds.{in_turn, demand, no_execution, own_ground, peaks_of}
use Rattle.rules.specs.Obey.{Outcome, with_orders, completed, proceed, fresh, obey}
use Rattle.rules.specs.Answer.{Asking, Answered, refuse, accept, judge, command}
use Rattle.rules.specs.Day.{answers, accepts, is_begin}
use Rattle.streams.specs.Stream.{accepts_all, obey_all}
use Rattle.streams.specs.Instance.{instance_of}
use Rattle.streams.specs.Write.{untouched, is_whole, write}
use Rattle.rules.specs.Reachable.{Reachable}

-- "a full activation order and no 04 at all"
unfoldable pub one_order : State → Bool
one_order s = eqb s.phase Phase.orders && eqb (length s.activation) s.size && no_execution s

-- the ground against BEGIN as it was: "in turn in orders once both orders have n entries", then 7, 8 and 9
unfoldable pub ground_before : State → ℕ
ground_before s =
    demand (eqb s.phase Phase.orders && eqb (length s.activation) s.size && eqb (length s.execution) s.size) 3
    (own_ground s begin)

-- what it did: it booked ahead and started by the orders that were given
unfoldable pub outcome_before : State → Outcome
outcome_before s = proceed s Phase.running (fresh s.size) (peaks_of s) 0

-- what it was answered; BEGIN has no operands, so that it uses its byte
unfoldable pub begin_before : State → List ℕ → Answered
begin_before s list =
    cond (eqb (ground_before s) 0) (accept (outcome_before s) (length (bytes begin)) list) (refuse (ground_before s) s list)

-- BEGIN as it was before request 03, and all else as it is now
unfoldable pub command_before : State → Asking → Answered
command_before s a =
    cond (is_begin (decode a.stream a.place) && leb least_starts (length a.list)) (begin_before s a.list) (command s a)

-- what each of a list of askings was answered
unfoldable pub answers_before : State → List Asking → List Answered
answers_before s [] = []
answers_before s (a ∷ later) = command_before s a ∷ answers_before (command_before s a).state later

-- none of these answers is a refusal
unfoldable pub none_refused : List Answered → Bool
none_refused [] = true
none_refused (r ∷ later) = accepts r && none_refused later

-- what is promised of BEGIN where s is the plan that it finds, with a full activation order and no 04 at all
pub record OneOrderHolds (s : State) : Type 0 where
  -- "BEGIN with a full activation order and no 04 at all shall now be in turn"
  pub turn : in_turn s begin ≡ true
  -- "with the activation order used for both": 04 for its entries, one after another, leads to the completed plan, and BEGIN is taken
  -- or refused, and does, as it was and did with that one
  pub given : accepts_all s (map execution s.activation) ≡ true
  pub copied : obey_all s (map execution s.activation) ≡ completed s
  pub ground_for : grounds.ground_for s begin ≡ ground_before (completed s)
  pub outcome : obey s begin ≡ outcome_before (completed s)
  -- "Once it is accepted the execution order counts as complete, and the writer writes that order twice"
  pub whole : is_whole (obey s begin).state ≡ true
  pub twice : instance_of (obey s begin).state ≡ instance_of (with_orders s s.activation s.activation)
  -- "before that the writer still answers 3", and 04 is in turn; a refused BEGIN leaves it so
  pub early : (list : List ℕ) → write s list ≡ untouched 3 list
  pub still : (i : ℕ) → in_turn s (execution i) ≡ true
  pub refusal : (used : ℕ) (list : List ℕ) → (grounds.ground_for s begin ≡ 0 → ⊥) → (judge s begin used list).state ≡ s

pub record EveryOneOrderHolds : Type 0 where
  -- an execution order that was given stays
  pub stays : (s : State) → (length s.execution ≡ 0 → ⊥) → completed s ≡ s
  pub plans : (s : State) → Reachable s → one_order s ≡ true → OneOrderHolds s
  -- "3 as before where 1 to n − 1 entries of 04 were given"
  pub part : (s : State) → 1 ≤ length s.execution → length s.execution < s.size → grounds.ground_for s begin ≡ 3
  -- "All streams accepted before get the same answers": of each the number, the counts, the plan and the start list
  pub streams :
      (s : State) (asks : List Asking) → none_refused (answers_before s asks) ≡ true → answers s asks ≡ answers_before s asks
  -- and every asking is answered as before but for BEGIN with a full activation order and no 04 at all, which was refused 3
  pub others :
      (s : State) (a : Asking)
      → (is_begin (decode a.stream a.place) && one_order s) ≡ false
      → command s a ≡ command_before s a
  pub late : (s : State) → 1 ≤ s.size → one_order s ≡ true → ground_before s ≡ 3
