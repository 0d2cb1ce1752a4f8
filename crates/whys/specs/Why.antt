-- "Tell the cook why a step isn't starting. .. Given a step in the running phase, the tool says the first that is true: ended; running;
-- not booked, with the first waiting step in the activation order and the number of trays that step lacks; waiting for a feeder, with
-- the lowest-numbered unended child; all stations taken."
use Rattle.std.specs.Prelude.{Bool, not, cond, ℕ, ◌+◌, ◌-◌, eqb}
use Rattle.books.specs.Kind.{Each, each}
use Rattle.numbers.specs.Sums.{lowest_to, within}
use Rattle.numbers.specs.Lists.{at, first}
use Rattle.books.specs.Standing
use Rattle.rules.specs.State.{Store, State, needs_in, store_of}
use Rattle.books.specs.Booking.{total, is_unended_child, missing, fed}
use Rattle.rules.specs.Question.{is_running}

-- what the cook is told of a task
pub data Reason : Type 0 where
  -- the number of the ground
  refused : ℕ → Reason
  ended : Reason
  running : Reason
  -- the first waiting task, and the places that it lacks in each store
  not_booked : ℕ → Each ℕ → Reason
  -- the lowest-numbered child that has not ended
  unfed : ℕ → Reason
  no_processor : Reason

-- task i has this standing
abbrev pub has : State → ℕ → ℕ → Bool
has s which i = eqb (at s.standings i) which

-- "the first waiting step in the activation order", 0 where none waits
unfoldable pub first_waiting : State → ℕ
first_waiting s = first (has s Standing.waiting) s.activation

-- "the number of trays that step lacks" in a store: B + missing, less the places in force
unfoldable pub lack_in : State → Store → ℕ → ℕ
lack_in s store x =
    total s.size (at store.booked)
    + missing s.size (at s.parents) (needs_in s store) (at s.standings) (at store.booked) x
    - store.bound

-- in each store
unfoldable pub lacks : State → ℕ → Each ℕ
lacks s x = each (λ k. lack_in s (store_of s k) x)

-- "the lowest-numbered unended child" of i, 0 where all have ended
unfoldable pub unended_child : State → ℕ → ℕ
unended_child s i = lowest_to (is_unended_child (at s.parents) (at s.standings) i) s.size

-- "the first that is true", after "3 outside running, then 4 for the step"
unfoldable pub why : State → ℕ → Reason
why s i =
    cond (not (is_running s)) (refused 3)
    (cond (not (within i s.size)) (refused 4)
    (cond (has s Standing.finished i) ended
    (cond (has s Standing.running i) running
    (cond (has s Standing.waiting i) (not_booked (first_waiting s) (lacks s (first_waiting s)))
    (cond (not (fed s.size (at s.parents) (at s.standings) i)) (unfed (unended_child s i)) no_processor)))))
