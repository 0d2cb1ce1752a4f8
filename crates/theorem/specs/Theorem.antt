-- Demand 3, as one statement about every list of askings to an empty plan.
use Rattle.std.specs.Prelude.{◌≡◌, Bool, true, false, cond, ◌↔◌, List, [], ◌∷◌, ◌++◌, ℕ, ◌≤◌, ◌<◌, length, drop}
use Rattle.books.specs.Kind.{Kind}
use Rattle.numbers.specs.Limits.{max_bound, least_starts}
use Rattle.numbers.specs.Sums.{Task, count_to}
use Rattle.numbers.specs.Lists.{at, mem}
use Rattle.tree.specs.Tasks
use Rattle.rules.specs.Phase
use Rattle.books.specs.Standing
use Rattle.rules.specs.State.{Store, State, OrdersHold, none, tasks_in, needs_in, store_of}
use Rattle.format.specs.Command
use Rattle.rules.specs.Grounds.{peak_in, peak_of, ground_for}
use Rattle.books.specs.Booking.{total}
use Rattle.rules.specs.Obey.{completed}
use Rattle.rules.specs.Answer.{Asking, refuse, command}
use Rattle.rules.specs.Question
use Rattle.rules.specs.Day.{Event, runs, started, ended, fetched, starts, ends, is_fetched, in_force, log, after, accepted, opens_day, next_plan}

-- trays in use in a store, "reckoned from the starts, the ends and the fetch"
unfoldable pub used_by : State → Store → List Event → ℕ
used_by s store happened =
    Tasks.in_use (tasks_in s store) (λ i. mem i (ends happened)) (λ i. mem i (starts happened)) (is_fetched happened)

-- what is promised of one store in a day: `booked` and `in_use` are what the plan answers for it
pub record StoreHolds (s : State) (happened : List Event) (store : Store) (booked in_use : ℕ) : Type 0 where
  -- trays in use are what the starts, the ends and the fetch give, and trays booked "the sum of all booked trays"
  pub used : in_use ≡ used_by s store happened
  pub summed : booked ≡ total s.size (at store.booked)
  -- "trays in use never exceed trays booked, nor booked trays the cold room's places"
  pub covered : in_use ≤ booked
  pub within : booked ≤ store.bound
  -- each that runs holds exactly its need
  pub exact : (i : ℕ) → Task s.size i → runs happened i ≡ true → at store.booked i ≡ needs_in s store i
  -- "When the root ends, its out remains booked and in use": nothing else is, and once it is fetched nothing at all
  pub remains :
      s.phase ≡ Phase.ready
      → (r : ℕ)
      → Task s.size r
      → at s.parents r ≡ 0
      → (booked ≡ at store.outs r) × (in_use ≡ at store.outs r)
  pub unloaded : s.phase ≡ Phase.over → (booked ≡ 0) × (in_use ≡ 0)

-- what is promised of a day: s is the plan as it stands, and `happened` the day's starts, ends, fetch and new bounds so far, in order.
-- The day's reports that were accepted are its ends
pub record DayHolds (s : State) (happened : List Event) : Type 0 where
  -- what starts and what ends is a step of the plan
  pub starting : (i : ℕ) → mem i (starts happened) ≡ true → Task s.size i
  pub ending : (i : ℕ) → mem i (ends happened) ≡ true → Task s.size i
  -- "no step has started twice"
  pub once :
      (earlier later : List Event) (i : ℕ) → happened ≡ earlier ++ started i ∷ later → mem i (starts earlier) ≡ false
  -- "or before all that feed it ended"
  pub fed :
      (earlier later : List Event) (i : ℕ)
      → happened ≡ earlier ++ started i ∷ later
      → (c : ℕ)
      → Task s.size c
      → at s.parents c ≡ i
      → mem c (ends earlier) ≡ true
  -- a step "runs in between": what ends has started, and has not ended before
  pub ran :
      (earlier later : List Event) (i : ℕ) → happened ≡ earlier ++ ended i ∷ later → runs earlier i ≡ true
  -- no more than n reports are accepted
  pub most : length (ends happened) ≤ s.size
  -- "some step is running exactly while fewer than n of the day's reports were accepted"
  pub going : ((i : ℕ) × Task s.size i × (runs happened i ≡ true)) ↔ (length (ends happened) < s.size)
  -- "at the n-th each has started and ended"
  pub complete :
      length (ends happened) ≡ s.size
      → (i : ℕ)
      → Task s.size i
      → (mem i (starts happened) ≡ true) × (mem i (ends happened) ≡ true)
  -- at most one fetch, and not before the n-th report
  pub fetch :
      (earlier later : List Event)
      → happened ≡ earlier ++ fetched ∷ later
      → (is_fetched earlier ≡ false) × (length (ends earlier) ≡ s.size)
  -- FETCH is taken in ready, and only there
  pub fetching : (ground_for s Command.fetch ≡ 0) ↔ (s.phase ≡ Phase.ready)
  -- 08 is taken in running, "if the new M is at least the peak and at least the booked trays"; its 4 bytes keep M in its limits
  pub placing :
      (m : ℕ)
      → (ground_for s (Command.places m) ≡ 0)
      ↔ ((s.phase ≡ Phase.running) × (m ≤ max_bound) × (peak_of s ≤ m) × (Question.booked s ≤ m))
  -- the phase is running until the n-th report, ready from then to the fetch, and over from then on
  pub running : (s.phase ≡ Phase.running) ↔ (length (ends happened) < s.size)
  pub ready : (s.phase ≡ Phase.ready) ↔ ((length (ends happened) ≡ s.size) × (is_fetched happened ≡ false))
  pub over : (s.phase ≡ Phase.over) ↔ (is_fetched happened ≡ true)
  -- what the plan answers for running and for ended steps is what the starts and ends give
  pub count_running : at (Question.standing s) Standing.running ≡ count_to (runs happened) s.size
  pub count_ended : at (Question.standing s) Standing.finished ≡ length (ends happened)
  -- "ready shows the same standing as over": all have ended
  pub all_ended : length (ends happened) ≡ s.size → Question.standing s ≡ 0 ∷ 0 ∷ 0 ∷ s.size ∷ []
  -- no more tasks run than there are processors
  pub staffed : count_to (runs happened) s.size ≤ s.processors
  -- all that is promised of a store holds of each
  pub stores : (k : Kind) → StoreHolds s happened (store_of s k) (Question.booked_in s k) (Question.in_use_in s k)

-- the plan itself is the same: its steps, its stations and its orders
pub record SamePlan (s s' : State) : Type 0 where
  pub size : s'.size ≡ s.size
  pub processors : s'.processors ≡ s.processors
  pub parents : s'.parents ≡ s.parents
  pub works : (k : Kind) → (store_of s' k).works ≡ (store_of s k).works
  pub outs : (k : Kind) → (store_of s' k).outs ≡ (store_of s k).outs
  pub activation : s'.activation ≡ s.activation
  pub execution : s'.execution ≡ s.execution

-- what is promised of one asking: s is the plan that it finds
pub record AskingHolds (s : State) (a : Asking) : Type 0 where
  -- a refusal answers its number alone, "and the plan, the phase and the start list remain what they were"
  pub refusal : accepted s a ≡ false → command s a ≡ refuse (command s a).answer.number s a.list
  -- no more tasks start than there are processors, nor than a start list has entries
  pub few : (command s a).answer.starts ≤ s.processors
  pub fitting : (command s a).answer.starts ≤ least_starts
  -- the start list is as long as it was, and an accepted command "touches no later entry"
  pub long : length (command s a).list ≡ length a.list
  pub behind : drop (command s a).answer.starts (command s a).list ≡ drop (command s a).answer.starts a.list

-- For every list of askings, refused ones included: a BEGIN that is accepted after some of them opens a day, and after each
-- command of the day, as long as no next plan is opened, a claim holds of the plan that BEGIN found, of the plan as it stands and
-- of what happened in the day.
abbrev pub EveryDay : (State → State → List Event → Type 0) → Type 0
EveryDay claim =
    (earlier : List Asking) (opening : Asking) (later : List Asking)
    → opens_day (after none earlier) opening ≡ true
    → next_plan (after none earlier) (opening ∷ later) ≡ false
    → claim (after none earlier) (after none (earlier ++ opening ∷ later)) (log (after none earlier) (opening ∷ later))

-- all that is promised of a day holds of every day
abbrev pub EveryDayHolds : Type 0
EveryDayHolds = EveryDay (λ _ s happened. DayHolds s happened)

-- those of a list of askings that are accepted
unfoldable pub accepted_only : State → List Asking → List Asking
accepted_only s [] = []
accepted_only s (a ∷ later) = cond (accepted s a) (a ∷ []) [] ++ accepted_only (command s a).state later

-- the theorem: what holds of every list of askings, day by day and as a whole
pub record Theorem : Type 0 where
  pub days : EveryDayHolds
  -- in a day both orders are what they must be, and steps, stations and orders stay as BEGIN found them, with the activation order used
  -- for both where no 04 was given
  pub orders : EveryDay (λ _ s _. OrdersHold s)
  pub plans : EveryDay (λ found s _. SamePlan (completed found) s)
  -- the places of the cold room are those of the last accepted 08 of the day, or those that BEGIN found: "the bound in force"
  pub places : EveryDay (λ found s happened. s.stores.chilled.bound ≡ in_force found.stores.chilled.bound happened)
  -- and the places of each store are never below the peak there
  pub fits : EveryDay (λ _ s _. (k : Kind) → peak_in s (store_of s k) ≤ (store_of s k).bound)
  -- all that is promised of an asking holds of each of the list
  pub askings : (earlier : List Asking) (a : Asking) → AskingHolds (after none earlier) a
  -- "from the accepted commands alone": without those that are refused the plan is the same, and so is what happened
  pub refusals : (s : State) (asks : List Asking) → after s asks ≡ after s (accepted_only s asks)
  pub silent : (s : State) (asks : List Asking) → log s asks ≡ log s (accepted_only s asks)
