-- Demand 3 of the code: one statement about every list of calls that starts with a new plan.
use Rattle.std.specs.Prelude.{◌≡◌, true, false, ◌↔◌, List, [], ◌∷◌, ◌++◌, map, ℕ, ◌^◌, ◌≤◌, ◌<◌, length, take}
use Rattle.books.specs.Kind.{Kind}
use Rattle.numbers.specs.Sums.{Task, count_to}
use Rattle.numbers.specs.Lists.{at}
use Rattle.rules.specs.Phase
use Rattle.books.specs.Standing
use Rattle.rules.specs.State.{State, none, store_of, OrdersHold}
use Rattle.format.specs.Command as rules
use Rattle.rules.specs.Grounds.{in_turn, peak_in}
use Rattle.rules.specs.Question as questions
use Rattle.whys.specs.Why.{why}
use Rattle.whys.specs.WhyHolds.{ReasonHolds}
use Rattle.streams.specs.Instance.{instance_of, unbegun}
use Rattle.streams.specs.Write.{write}
use Rattle.streams.specs.WriteHolds.{WriteHolds}
use Rattle.postorders.specs.Find.{find_order}
use Rattle.postorders.specs.FindHolds.{SameTasks, BeginsUnlessNoneFits, FindHolds}
use Rattle.peaks.specs.PeakHolds.{PeakHolds}
use Rattle.rules.specs.Day.{Event, ends, is_fetched, in_force, after, answers, runs}
use Rattle.rules.specs.Obey.{with_orders, completed}
use Rattle.theorem.specs.Theorem.{DayHolds, SamePlan, used_by}
use Rattle.answer.specs.Meaning.{plan_of}
use Rattle.answer.specs.ValidPlan.{ValidPlan, NewPlan}
use Rattle.demand.specs.Calls.{Call, CallContract, Calls, Bytes, Entries, Answers, left_by, received, asked, all_received, accepted, opens_day, next_plan, all_accepted, Reads, Asks, AskEach, history}

-- what the questions answer in a day: w are the words of the plan as it stands, and `happened` the day's starts, ends, fetch and new
-- bounds so far
pub record AnswersHold (w : List ℕ) (happened : List Event) (q : Answers w) : Type 0 where
  -- running while fewer than n reports were accepted, ready from the n-th to the fetch, and over from then on
  pub running : (q.phase ≡ Phase.running) ↔ (length (ends happened) < (plan_of w).size)
  pub ready : (q.phase ≡ Phase.ready) ↔ ((length (ends happened) ≡ (plan_of w).size) × (is_fetched happened ≡ false))
  pub over : (q.phase ≡ Phase.over) ↔ (is_fetched happened ≡ true)
  -- trays in use are reckoned from the starts, the ends and the fetch; they are never more than trays booked, and these never more
  -- than places
  pub used : q.in_use ≡ used_by (plan_of w) (plan_of w).stores.chilled happened
  pub covered : q.in_use ≤ q.booked
  pub within : q.booked ≤ (plan_of w).stores.chilled.bound
  -- while the trolley stands, its load is all that is booked and in use, and once it is fetched nothing is
  pub remains :
      q.phase ≡ Phase.ready
      → (r : ℕ)
      → Task (plan_of w).size r
      → at (plan_of w).parents r ≡ 0
      → (q.booked ≡ at (plan_of w).stores.chilled.outs r) × (q.in_use ≡ at (plan_of w).stores.chilled.outs r)
  pub unloaded : q.phase ≡ Phase.over → (q.booked ≡ 0) × (q.in_use ≡ 0)
  -- the standing counts the running and the ended steps of the day
  pub running_tasks : at q.standing Standing.running ≡ count_to (runs happened) (plan_of w).size
  pub finished_tasks : at q.standing Standing.finished ≡ length (ends happened)
  pub all_finished : length (ends happened) ≡ (plan_of w).size → q.standing ≡ 0 ∷ 0 ∷ 0 ∷ (plan_of w).size ∷ []

-- what is promised of a day: BEGIN found the words w, and they are w' as the plan stands
pub record DayOfCalls (w w' : List ℕ) (happened : List Event) : Type 0 where
  -- all that the rules promise of a day holds of the plan and of what happened
  pub day : DayHolds (plan_of w') happened
  pub orders : OrdersHold (plan_of w')
  -- the plan is the one that BEGIN found, with the activation order used for both where no 04 was given
  pub plan : SamePlan (completed (plan_of w)) (plan_of w')
  -- the places of its cold room are those of the last accepted 08 of the day, or those that BEGIN found, and those of no store are
  -- below its peak
  pub places : (plan_of w').stores.chilled.bound ≡ in_force (plan_of w).stores.chilled.bound happened
  pub fits : (k : Kind) → peak_in (plan_of w') (store_of (plan_of w') k) ≤ (store_of (plan_of w') k).bound
  -- and the questions answer what is promised of them in a day
  pub questions : (q : Answers w') → AnswersHold w' happened q

-- "PLAN: n, p, M": a plan with these
pub record OpenedWith (n p m : ℕ) (s : State) : Type 0 where
  pub size : s.size ≡ n
  pub processors : s.processors ≡ p
  pub bound : s.stores.chilled.bound ≡ m

-- what is promised of a list of calls on the words w
pub record CallsHold (w : List ℕ) (calls : List Call) : Type 0 where
  -- every call was answered as the rules have it, start lists included: accepted or refused, by its number, with its starts
  pub answered : all_received calls ≡ answers none (asked calls)
  -- and left the plan that the rules leave
  pub leaves : plan_of (left_by w calls) ≡ after none (asked calls)
  pub valid : ValidPlan (left_by w calls)
  -- what the questions answer then is what the rules give for the list
  pub questions :
      (q : Answers (left_by w calls))
      → (q.phase ≡ (after none (asked calls)).phase)
      × (q.booked ≡ questions.booked (after none (asked calls)))
      × (q.in_use ≡ questions.in_use (after none (asked calls)))
      × (q.fullness ≡ questions.fullness (after none (asked calls)))
      × (q.standing ≡ questions.standing (after none (asked calls)))
      × ((i : ℕ) → i < 2 ^ 16 → q.reason i ≡ why (after none (asked calls)) i)
      × ((list : List ℕ) → Bytes list → q.wrote list ≡ write (after none (asked calls)) list)
      × ((list : List ℕ) → Entries list → q.found list ≡ find_order (after none (asked calls)) list)
  -- and why a task is not starting is told by the first reason that is true
  pub reasons : (q : Answers (left_by w calls)) (i : ℕ) → i < 2 ^ 16 → ReasonHolds (plan_of (left_by w calls)) i (q.reason i)
  -- all that is promised of writing the plan holds of every list that is lent
  pub writes : (q : Answers (left_by w calls)) (list : List ℕ) → Bytes list → WriteHolds (plan_of (left_by w calls)) list (q.wrote list)
  -- and where it is written, calls that read it into a new plan, from any stream that begins with it, are all accepted and restore it
  pub restored :
      (q : Answers (left_by w calls)) (list : List ℕ)
      → Bytes list
      → (q.wrote list).number ≡ 0
      → (stream w' : List ℕ) (reading : List Call)
      → take (q.wrote list).count stream ≡ take (q.wrote list).count (q.wrote list).list
      → NewPlan w'
      → Calls w' reading
      → Reads stream 0 (q.wrote list).count reading
      → (all_accepted reading ≡ true) × (plan_of (left_by w' reading) ≡ unbegun (instance_of (plan_of (left_by w calls))))
  -- all that is promised of finding an order holds of every list that is lent
  pub finds : (q : Answers (left_by w calls)) (list : List ℕ) → Entries list → FindHolds (plan_of (left_by w calls)) list (q.found list)
  -- where one is found before any 03, calls that give 03 for each of its entries are all accepted, and it is the activation order then
  pub gives :
      (q : Answers (left_by w calls)) (list : List ℕ)
      → Entries list
      → (q.found list).number ≡ 0
      → q.phase ≡ Phase.orders
      → (plan_of (left_by w calls)).activation ≡ []
      → (giving : List Call)
      → Calls (left_by w calls) giving
      → AskEach (map rules.activation (take (q.found list).count (q.found list).list)) giving
      → (all_accepted giving ≡ true)
      × (plan_of (left_by (left_by w calls) giving)
      ≡ with_orders (plan_of (left_by w calls)) (take (q.found list).count (q.found list).list) (plan_of (left_by w calls)).execution)
  -- where words are a plan of the same tasks with this activation order, whatever led to it, a call that asks BEGIN in turn is accepted,
  -- or refused with 9 and no order of that kind is within the bound
  pub begins :
      (q : Answers (left_by w calls)) (list : List ℕ)
      → Entries list
      → (q.found list).number ≡ 0
      → (w' : List ℕ)
      → SameTasks (plan_of (left_by w calls)) (plan_of w')
      → (plan_of w').activation ≡ take (q.found list).count (q.found list).list
      → in_turn (plan_of w') rules.begin ≡ true
      → (opening : Call)
      → CallContract w' opening
      → Asks rules.begin opening
      → BeginsUnlessNoneFits (plan_of w') opening.answer.number
  -- a call that opens a day tells the peak of the activation order that it found, with its task, and no other call tells one
  pub peaks :
      (earlier : List Call) (call : Call) (later : List Call)
      → calls ≡ earlier ++ call ∷ later
      → PeakHolds (plan_of (left_by w earlier)) call.asking (received call)
  -- a call that opens a plan: as long as no next plan is opened, n and p are those that its bytes gave, and M is that of the last
  -- accepted 08, or the one that they gave
  pub plans :
      (earlier : List Call) (opening : Call) (later : List Call) (n p m used : ℕ)
      → calls ≡ earlier ++ opening ∷ later
      → accepted opening ≡ true
      → rules.decode opening.asking.stream opening.asking.place ≡ rules.read (rules.plan n p m) used
      → next_plan later ≡ false
      → OpenedWith n p (in_force m (history later)) (plan_of (left_by w calls))
  -- a call that opens a day: as long as no next plan is opened, all that is promised of a day holds
  pub days :
      (earlier : List Call) (opening : Call) (later : List Call)
      → calls ≡ earlier ++ opening ∷ later
      → opens_day opening ≡ true
      → next_plan (opening ∷ later) ≡ false
      → DayOfCalls (left_by w earlier) (left_by w calls) (history (opening ∷ later))

-- for every list of calls of the command function that starts with a new plan
abbrev pub EveryCallHolds : Type 0
EveryCallHolds = (w : List ℕ) → NewPlan w → (calls : List Call) → Calls w calls → CallsHold w calls
