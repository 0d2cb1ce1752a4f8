-- The grounds for refusing a whole command, in the order of checks: "3; 4; then 5 for 03 and 04, 6 for DONE, and 7, 8, 9 for
-- BEGIN"; for 08 "3; then 9 if below the peak; then 13 if below the booked trays". 0 is no ground.
use Rattle.std.specs.Prelude.{Bool, true, not, cond, ◌&&◌, ◌||◌, ℕ, eqb, leb, ltb, length}
use Rattle.tree.specs.Tree.{roots, ordered}
use Rattle.books.specs.Kind.{Kind, Each, each, all}
use Rattle.numbers.specs.Sums.{within}
use Rattle.numbers.specs.Lists.{at, mem}
use Rattle.numbers.specs.Limits.{max_tasks, max_processors, max_count, max_bound}
use Rattle.tree.specs.Peak
use Rattle.tree.specs.Tasks
use Rattle.rules.specs.Phase
use Rattle.books.specs.Standing
use Rattle.rules.specs.State.{Store, State, tasks_in, store_of}
use Rattle.format.specs.Command.{Command, plan, task, activation, execution, begin, done, fetch, places}
use Rattle.books.specs.Booking.{total}

-- "no 04 at all"
abbrev pub no_execution : State → Bool
no_execution s = eqb (length s.execution) 0

-- "PLAN is in turn in every phase but running .. STEP is in turn in steps .. 03 and 04 are in turn in orders, in any mix, n of
-- each at most. BEGIN is in turn in orders once both orders have n entries .. DONE is in turn only in running"; "BEGIN with a full
-- activation order and no 04 at all shall now be in turn"; "PLAN is not in turn in ready", and FETCH only there; 08 "is in turn in
-- running"
unfoldable pub in_turn : State → Command → Bool
in_turn s (plan n p bound) = not (Phase.holds_trays s.phase)
in_turn s (task parent work out) = eqb s.phase Phase.steps
in_turn s (activation i) = eqb s.phase Phase.orders && ltb (length s.activation) s.size
in_turn s (execution i) = eqb s.phase Phase.orders && ltb (length s.execution) s.size
in_turn s begin =
    eqb s.phase Phase.orders
    && eqb (length s.activation) s.size
    && (eqb (length s.execution) s.size || no_execution s)
in_turn s (done i) = eqb s.phase Phase.running
in_turn s fetch = eqb s.phase Phase.ready
in_turn s (places bound) = eqb s.phase Phase.running

-- "n, p, a parent or a step number outside its limits (parent 0 is allowed, step 0 is not)"; the operands' bytes keep work, out and
-- M in theirs
unfoldable pub in_limits : State → Command → Bool
in_limits s (plan n p bound) = within n max_tasks && within p max_processors && leb bound max_bound
in_limits s (task parent work out) = leb parent s.size && leb work max_count && leb out max_count
in_limits s (activation i) = within i s.size
in_limits s (execution i) = within i s.size
in_limits s begin = true
in_limits s (done i) = within i s.size
in_limits s fetch = true
in_limits s (places bound) = leb bound max_bound

-- the peak of the plan's activation order in a store
unfoldable pub peak_in : State → Store → ℕ
peak_in s store = Tasks.peak (tasks_in s store) s.activation

-- the places of a store are enough for it
unfoldable pub fits_in : State → Kind → Bool
fits_in s k = leb (peak_in s (store_of s k)) (store_of s k).bound

-- the peak in the cold room
unfoldable pub peak_of : State → ℕ
peak_of s = peak_in s s.stores.chilled

-- "The peak shall always come with its step": the peak in each store, with its task
unfoldable pub peaks_of : State → Each Peak.Peaked
peaks_of s = each (λ k. Tasks.peaked (tasks_in s (store_of s k)) s.activation)

-- "Where no peak is answered, the step is 0"
abbrev pub no_peaks : Each Peak.Peaked
no_peaks = each (λ _. Peak.no_peak)

-- the number where the test fails, and what else is checked where it holds
abbrev pub demand : Bool → ℕ → ℕ → ℕ
demand test number rest = cond test rest number

-- what is checked of one command only
unfoldable pub own_ground : State → Command → ℕ
own_ground s (plan n p bound) = 0
own_ground s (task parent work out) = 0
-- 5 "the step is already in that order"
own_ground s (activation i) = demand (not (mem i s.activation)) 5 0
own_ground s (execution i) = demand (not (mem i s.execution)) 5 0
-- 7 "the steps with parent 0 are not exactly one"; 8 "some step does not stand before its parent in the activation order";
-- 9 "the peak is above M"
own_ground s begin =
    demand (eqb (roots s.size (at s.parents)) 1) 7
    (demand (ordered (at s.parents) s.activation) 8 (demand (all (fits_in s)) 9 0))
-- 6 "DONE for a step that isn't running"
own_ground s (done i) = demand (eqb (at s.standings i) Standing.running) 6 0
own_ground s fetch = 0
-- "It is taken if the new M is at least the peak and at least the booked trays": 9 "if below the peak; then 13 if below the booked
-- trays"
own_ground s (places bound) =
    demand (leb (peak_of s) bound) 9 (demand (leb (total s.size (at s.stores.chilled.booked)) bound) 13 0)

unfoldable pub ground_for : State → Command → ℕ
ground_for s c = demand (in_turn s c) 3 (demand (in_limits s c) 4 (own_ground s c))
