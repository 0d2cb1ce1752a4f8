-- A worked day with refusals in it: what is promised of every day is not empty, and statements that promise more are false.
use mathlib.Core.Path.{◌≡◌, refl, ap}
use mathlib.Core.Bool.{true, false}
use mathlib.Core.List.{List, [], ◌∷◌, ◌++◌, map}
use Prim.Native.Nat.{ℕ, ◌<◌}
use native.Mathlib.Omega.{arith}
use lib.ListN.{length, take, replicate}
use Rattle.books.specs.Kind.{each}
use Rattle.numbers.specs.Sums.{count_to}
use Rattle.rules.specs.Phase
use Rattle.rules.specs.State.{none}
use Rattle.format.specs.Command.{Command, plan, task, activation, begin, done, fetch, places, bytes}
use Rattle.rules.specs.Answer.{Asking}
use Rattle.rules.specs.Question
use Rattle.whys.specs.Why
use Rattle.whys.specs.Why.{why}
use Rattle.streams.specs.Instance.{instance_of, written}
use Rattle.streams.specs.Write.{write}
use Rattle.rules.specs.Day.{started, ended, fetched, bounded, in_force, ends, after, answers, log, opens_day, next_plan, runs}
use Rattle.theorem.specs.Theorem.{DayHolds, EveryDay, accepted_only}
use Rattle.worked.specs.Marked.{ask, asks, in_order, tasks_a, plan_a, one_order_a, day_a, plan_c, reading, short}
use Rattle.worked.proofs.Computing.{computing}
use Rattle.theorem.proofs.Theorem.{every-day-holds}

-- the first hours of a day of plan A: no asking but the last is accepted
unfoldable pub morning : List Asking
morning =
    -- a start list of 63 entries
    short (bytes (done 1))
    -- a task that does not run
    ∷ ask (done 3)
    -- a command that is cut short, an unknown byte, and no byte at all
    ∷ reading (6 ∷ 1 ∷ []) 0
    ∷ reading (9 ∷ []) 0
    ∷ reading [] 0
    -- a next plan while this one runs
    ∷ ask (plan 3 2 7)
    ∷ ask (done 1)
    ∷ []

-- the day as far as its last report, with reports that come twice
unfoldable pub until_ready : List Asking
until_ready = morning ++ (ask (done 1) ∷ ask (done 2) ∷ ask (done 3) ∷ ask (done 3) ∷ [])

-- the whole day: a next plan before the trolley is fetched, and a fetch that comes twice
unfoldable pub whole : List Asking
whole = until_ready ++ (ask (plan 3 2 7) ∷ ask fetch ∷ ask fetch ∷ [])

-- plan A with one processor, and places for all its tasks at once
unfoldable pub alone : List Command
alone = (plan 3 1 15 ∷ task 3 5 1 ∷ task 3 5 1 ∷ task 0 0 1 ∷ []) ++ in_order (1 ∷ 2 ∷ 3 ∷ [])

-- BEGIN opens the day, and no next plan is opened in it
opens : opens_day (after none (asks (plan_a 7))) (ask begin) ≡ true
unfolding computing asks tasks_a plan_a in_order ask
opens = refl

no-next : next_plan (after none (asks (plan_a 7))) (ask begin ∷ whole) ≡ false
unfolding computing asks tasks_a plan_a in_order ask reading short morning until_ready whole
no-next = refl

-- each asking is answered by its number
pub worked-numbers :
    map (λ a. a.answer.number) (answers (after none (asks (plan_a 7))) (ask begin ∷ whole))
    ≡ 0 ∷ 10 ∷ 6 ∷ 1 ∷ 2 ∷ 1 ∷ 3 ∷ 0 ∷ 6 ∷ 0 ∷ 0 ∷ 3 ∷ 3 ∷ 0 ∷ 3 ∷ []
unfolding computing asks tasks_a plan_a in_order ask reading short morning until_ready whole
worked-numbers = refl

-- what happens in the day, in order
pub worked-log :
    log (after none (asks (plan_a 7))) (ask begin ∷ whole)
    ≡ started 1 ∷ ended 1 ∷ started 2 ∷ ended 2 ∷ started 3 ∷ ended 3 ∷ fetched ∷ []
unfolding computing asks tasks_a plan_a in_order ask reading short morning until_ready whole
worked-log = refl

-- the five that are accepted
pub worked-accepted :
    accepted_only (after none (asks (plan_a 7))) (ask begin ∷ whole)
    ≡ ask begin ∷ ask (done 1) ∷ ask (done 2) ∷ ask (done 3) ∷ ask fetch ∷ []
unfolding computing asks tasks_a plan_a in_order ask reading short morning until_ready whole
worked-accepted = refl

-- all that is promised of a day holds of it
pub worked-holds :
    DayHolds (after none (asks (plan_a 7) ++ ask begin ∷ whole))
    (started 1 ∷ ended 1 ∷ started 2 ∷ ended 2 ∷ started 3 ∷ ended 3 ∷ fetched ∷ [])
worked-holds = rw worked-log at (every-day-holds (asks (plan_a 7)) (ask begin) whole opens no-next)

-- once it is over a next plan may be opened: it ends the day, and its own BEGIN opens another
pub worked-next : next_plan (after none (asks (plan_a 7))) ((ask begin ∷ whole) ++ asks plan_c) ≡ true
unfolding computing asks tasks_a plan_a plan_c in_order ask reading short morning until_ready whole
worked-next = refl

pub worked-second : opens_day (after none ((asks (plan_a 7) ++ ask begin ∷ whole) ++ asks plan_c)) (ask begin) ≡ true
unfolding computing asks tasks_a plan_a plan_c in_order ask reading short morning until_ready whole
worked-second = refl

-- why no other task starts: in plan A, once task 1 runs, task 2 is next and lacks 5 of the 6 places that it misses
pub worked-lack :
    map (why (after none (asks (plan_a 7 ++ begin ∷ [])))) (0 ∷ 1 ∷ 2 ∷ 3 ∷ 4 ∷ [])
    ≡ Why.refused 4 ∷ Why.running ∷ Why.not_booked 2 (each (λ _. 5)) ∷ Why.not_booked 2 (each (λ _. 5)) ∷ Why.refused 4 ∷ []
unfolding computing asks tasks_a plan_a in_order ask
worked-lack = refl

-- with one processor and places for all, once task 1 runs, task 2 waits for the processor and task 3 for its children
pub worked-feeder :
    map (why (after none (asks (alone ++ begin ∷ [])))) (1 ∷ 2 ∷ 3 ∷ []) ≡ Why.running ∷ Why.no_processor ∷ Why.unfed 1 ∷ []
unfolding computing asks alone in_order ask
worked-feeder = refl

-- once task 1 has ended, task 3 waits for the other child
pub worked-other :
    map (why (after none (asks (alone ++ begin ∷ done 1 ∷ [])))) (1 ∷ 2 ∷ 3 ∷ []) ≡ Why.ended ∷ Why.running ∷ Why.unfed 2 ∷ []
unfolding computing asks alone in_order ask
worked-other = refl

-- once all have ended nothing is told: in ready, and in over
pub worked-ready :
    map (why (after none (asks (alone ++ begin ∷ done 1 ∷ done 2 ∷ done 3 ∷ [])))) (0 ∷ 1 ∷ []) ≡ Why.refused 3 ∷ Why.refused 3 ∷ []
unfolding computing asks alone in_order ask
worked-ready = refl

pub worked-over :
    map (why (after none (asks (alone ++ begin ∷ done 1 ∷ done 2 ∷ done 3 ∷ fetch ∷ [])))) (0 ∷ 1 ∷ []) ≡ Why.refused 3 ∷ Why.refused 3 ∷ []
unfolding computing asks alone in_order ask
worked-over = refl

-- shelves out and in again: fewer places than the peak, the same, more, and fewer than are booked; once task 1 has ended fewer than the
-- peak, and the first ones; then in ready and in over
unfoldable pub cleaning : List Asking
cleaning =
    asks (places 6 ∷ places 7 ∷ places 12 ∷ places 11 ∷ done 1 ∷ places 6 ∷ places 7 ∷ done 2 ∷ done 3 ∷ places 12 ∷ fetch ∷ places 12 ∷ [])

pub cleaned-numbers :
    map (λ a. a.answer.number) (answers (after none (asks (plan_a 7))) (ask begin ∷ cleaning))
    ≡ 0 ∷ 9 ∷ 0 ∷ 0 ∷ 13 ∷ 0 ∷ 9 ∷ 0 ∷ 0 ∷ 0 ∷ 3 ∷ 0 ∷ 3 ∷ []
unfolding computing asks tasks_a plan_a in_order ask cleaning
cleaned-numbers = refl

pub cleaned-log :
    log (after none (asks (plan_a 7))) (ask begin ∷ cleaning)
    ≡ started 1 ∷ bounded 7 ∷ bounded 12 ∷ started 2 ∷ ended 1 ∷ bounded 7 ∷ ended 2 ∷ started 3 ∷ ended 3 ∷ fetched ∷ []
unfolding computing asks tasks_a plan_a in_order ask cleaning
cleaned-log = refl

-- all that is promised of a day holds of it too
cleaned-next : next_plan (after none (asks (plan_a 7))) (ask begin ∷ cleaning) ≡ false
unfolding computing asks tasks_a plan_a in_order ask cleaning
cleaned-next = refl

pub cleaned-holds :
    DayHolds (after none (asks (plan_a 7) ++ ask begin ∷ cleaning))
    (started 1 ∷ bounded 7 ∷ bounded 12 ∷ started 2 ∷ ended 1 ∷ bounded 7 ∷ ended 2 ∷ started 3 ∷ ended 3 ∷ fetched ∷ [])
cleaned-holds = rw cleaned-log at (every-day-holds (asks (plan_a 7)) (ask begin) cleaning opens cleaned-next)

-- the bound in force is the last one that was taken
pub cleaned-bound : in_force 7 (log (after none (asks (plan_a 7))) (ask begin ∷ take 5 cleaning)) ≡ 12
unfolding computing in_force asks tasks_a plan_a in_order ask cleaning
cleaned-bound = refl

-- plan A written back out: its orders were given in turns, and its bytes are those of the paper up to BEGIN
pub worked-written : written (instance_of (after none (asks (plan_a 7)))) ≡ take 47 day_a
unfolding computing asks tasks_a plan_a day_a in_order ask
worked-written = refl

-- while its day runs, while its trolley stands, and once it is over, into a list with a byte more than is needed
pub worked-running :
    write (after none (asks (plan_a 7 ++ begin ∷ done 1 ∷ []))) (replicate 48 99)
    ≡ record { number = 0; count = 47; list = take 47 day_a ++ (99 ∷ []) }
unfolding computing asks tasks_a plan_a day_a in_order ask
worked-running = refl

pub worked-loaded :
    write (after none (asks (plan_a 7) ++ ask begin ∷ until_ready)) (replicate 48 99)
    ≡ record { number = 0; count = 47; list = take 47 day_a ++ (99 ∷ []) }
unfolding computing asks tasks_a plan_a day_a in_order ask reading short morning until_ready
worked-loaded = refl

pub worked-ended :
    write (after none (asks (plan_a 7) ++ ask begin ∷ whole)) (replicate 48 99)
    ≡ record { number = 0; count = 47; list = take 47 day_a ++ (99 ∷ []) }
unfolding computing asks tasks_a plan_a day_a in_order ask reading short morning until_ready whole
worked-ended = refl

-- a byte fewer is too short, and with an entry of an order missing, or no plan, there is nothing to write
pub worked-short : write (after none (asks (plan_a 7))) (replicate 46 99) ≡ record { number = 11; count = 0; list = replicate 46 99 }
unfolding computing asks tasks_a plan_a in_order ask
worked-short = refl

pub worked-early :
    write (after none (asks (tasks_a 7 ++ in_order (1 ∷ 2 ∷ []) ++ activation 3 ∷ []))) (replicate 47 99)
    ≡ record { number = 3; count = 0; list = replicate 47 99 }
unfolding computing asks tasks_a in_order ask
worked-early = refl

-- without an execution order nothing is written before BEGIN, and from then on the activation order twice
pub worked-alone :
    write (after none (asks (one_order_a 7 (1 ∷ 2 ∷ 3 ∷ [])))) (replicate 48 99)
    ≡ record { number = 3; count = 0; list = replicate 48 99 }
unfolding computing asks tasks_a one_order_a ask
worked-alone = refl

pub worked-twice :
    write (after none (asks (one_order_a 7 (1 ∷ 2 ∷ 3 ∷ []) ++ begin ∷ []))) (replicate 48 99)
    ≡ record { number = 0; count = 47; list = take 47 day_a ++ (99 ∷ []) }
unfolding computing asks tasks_a one_order_a day_a ask
worked-twice = refl

pub worked-empty : write none [] ≡ record { number = 3; count = 0; list = [] }
unfolding computing
worked-empty = refl

-- wrong: "booked trays are fewer than the places"
abbrev pub Below : Type 0
Below = EveryDay (λ _ s _. Question.booked s < s.stores.chilled.bound)

-- wrong: "fewer tasks run than there are processors"
abbrev pub Spare : Type 0
Spare = EveryDay (λ _ s happened. count_to (runs happened) s.size < s.processors)

-- wrong: "what is booked is in use"
abbrev pub Tight : Type 0
Tight = EveryDay (λ _ s _. Question.in_use s ≡ Question.booked s)

-- wrong: "once all have ended nothing is booked"
abbrev pub Empty : Type 0
Empty = EveryDay (λ _ s happened. length (ends happened) ≡ s.size → Question.booked s ≡ 0)

-- wrong: "once all have ended the day is over"
abbrev pub Done : Type 0
Done = EveryDay (λ _ s happened. length (ends happened) ≡ s.size → s.phase ≡ Phase.over)

-- wrong: "the execution order stays as BEGIN found it"
abbrev pub AsFound : Type 0
AsFound = EveryDay (λ found s _. s.execution ≡ found.execution)

-- wrong: "the places stay as BEGIN found them"
abbrev pub Fixed : Type 0
Fixed = EveryDay (λ found s _. s.stores.chilled.bound ≡ found.stores.chilled.bound)

-- after the morning all seven places are booked
pub not-below : Below → ⊥
unfolding computing asks tasks_a plan_a in_order ask reading short morning
not-below h =
    let full : 7 < 7 = h (asks (plan_a 7)) (ask begin) morning refl refl in
    omega arith

-- in twelve places both processors run a task at once
pub not-spare : Spare → ⊥
unfolding computing asks tasks_a plan_a in_order ask
not-spare h =
    let both : 2 < 2 = h (asks (plan_a 12)) (ask begin) [] refl refl in
    omega arith

-- in plan C, once task 1 has ended, 6 trays are booked and 5 in use
pub not-tight : Tight → ⊥
unfolding computing asks plan_c in_order ask
not-tight h =
    let one : ◌≡◌ {A = ℕ} 5 6 = h (asks plan_c) (ask begin) (ask (done 1) ∷ []) refl refl in
    omega arith

-- after the last report the trolley stands loaded with one tray
pub not-empty : Empty → ⊥
unfolding computing asks tasks_a plan_a in_order ask reading short morning until_ready
not-empty h =
    let loaded : ◌≡◌ {A = ℕ} 1 0 = h (asks (plan_a 7)) (ask begin) until_ready refl refl refl in
    omega arith

-- and the phase is ready
pub not_done : Done → ⊥
unfolding computing asks tasks_a plan_a in_order ask reading short morning until_ready
not_done h =
    let loaded : ◌≡◌ {A = ℕ} Phase.ready Phase.over = h (asks (plan_a 7)) (ask begin) until_ready refl refl refl in
    omega arith

-- without 04 BEGIN finds none, and uses the activation order
pub not-as-found : AsFound → ⊥
unfolding computing asks tasks_a one_order_a ask
not-as-found h =
    let three : ◌≡◌ {A = ℕ} 3 0 = ap length (h (asks (one_order_a 7 (1 ∷ 2 ∷ 3 ∷ []))) (ask begin) [] refl refl) in
    omega arith

-- 08 gives others
pub not-fixed : Fixed → ⊥
unfolding computing asks tasks_a plan_a in_order ask
not-fixed h =
    let other : ◌≡◌ {A = ℕ} 12 7 = h (asks (plan_a 7)) (ask begin) (ask (places 12) ∷ []) refl refl in
    omega arith
