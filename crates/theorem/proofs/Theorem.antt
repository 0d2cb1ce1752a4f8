-- Demand 3: every day of every list of askings holds what is promised.
use mathlib.Core.Path.{◌≡◌, refl, sym, ap, subst, subst₂, ◌∙◌}
use mathlib.Core.Bool.{Bool, true, false, ◌&&◌}
use mathlib.Core.List.{List, [], ◌∷◌, ◌++◌, map, append-nil, append_assoc}
use Prim.Native.Nat.{ℕ, ◌≤◌, ◌<◌}
use native.Mathlib.Omega.{arith}
use lib.Dec.{eqb}
use borrow.Author.Tests.{eqb-true}
use Rattle.rules.specs.Phase
use Rattle.rules.specs.State.{State, none}
use Rattle.format.specs.Command.{Command, plan, task, activation, execution, begin, done, fetch, places, byte_of, operands_of, read, decode}
use Rattle.rules.specs.Grounds.{in_turn}
use Rattle.rules.specs.Obey.{completed, with_books, with_bound, unloaded, proceed, obey}
use Rattle.rules.specs.Answer.{Asking, command}
use Rattle.rules.specs.Day.{Event, started, in_force, after, log, events, accepted, reported, is_plan, is_begin, opens_day, opens_plan, next_plan}
use Rattle.theorem.specs.Theorem.{EveryDay, EveryDayHolds, Theorem}
use Rattle.numbers.proofs.Tests.{clash, and-true, or-false}
use Rattle.rules.proofs.Formed.{Formed, Accepted, none-formed, obey-formed}
use Rattle.rules.proofs.InDay.{Course, goes, closed, past-running, orders-hold}
use Rattle.rules.proofs.Opening.{begin-in-day}
use Rattle.rules.proofs.Reporting.{done-in-day}
use Rattle.rules.proofs.Fetching.{fetch-in-day}
use Rattle.rules.proofs.Placing.{places-in-day}
use Rattle.theorem.proofs.Holds.{day-holds}
use Rattle.rules.proofs.InForce.{starts-in-force}
use Rattle.theorem.proofs.Staying.{DayOf, completes, books-stay}
use Rattle.rules.proofs.Steps.{Step, is-refused, is-obeyed, step}
use Rattle.theorem.proofs.Askings.{asking_holds}
use Rattle.theorem.proofs.Refusals.{nothing-happens, after-accepted, log-accepted}

-- every asking leaves a plan that commands can lead to
command-formed : (s : State) (a : Asking) → Formed s → Formed (command s a).state
command-formed s a h = go (step s a)
  where
    go : Step s a → Formed (command s a).state
    go (is-refused r) = subst (λ (t : State). Formed t) (sym r.unchanged) h
    go (is-obeyed c used o) = subst (λ (t : State). Formed t) (sym o.after) (obey-formed s c o.granted h)

pub after-formed : (l : List Asking) (s : State) → Formed s → Formed (after s l)
unfolding after
after-formed [] s h = h
after-formed (a ∷ l) s h = after-formed l (command s a).state (command-formed s a h)

-- the phase of a day
day-phase : (s : State) → Course s → Phase.running ≤ s.phase
day-phase s (goes g) = let e = g.phased in omega arith
day-phase s (closed gone c) = let late = past-running gone c in omega arith

-- no command of another phase is in turn then
out-of-turn : (s : State) → Course s → (k : ℕ) → eqb s.phase k ≡ true → k < Phase.running → ⊥
out-of-turn s c k turn early = let e = eqb-true s.phase k turn in let d = day-phase s c in omega arith

-- in a day only DONE, FETCH and 08 are obeyed, as long as no plan is opened
obeyed-in-day :
    (found s : State) (happened : List Event) (c : Command) (used : ℕ)
    → DayOf found s happened
    → Accepted s c
    → is_plan (read c used) ≡ false
    → DayOf found (obey s c).state (happened ++ (reported (read c used) ++ map started (obey s c).started))
unfolding in_turn byte_of operands_of is_plan reported in_force obey unloaded proceed with_books with_bound
obeyed-in-day found s happened (plan n p bound) used day a e = absurd (clash refl e)
obeyed-in-day found s happened (task parent work out) used day a e =
    absurd (out-of-turn s day.day.course Phase.steps a.turn (omega arith))
obeyed-in-day found s happened (activation i) used day a e =
    absurd (out-of-turn s day.day.course Phase.orders (and-true _ _ a.turn).0 (omega arith))
obeyed-in-day found s happened (execution i) used day a e =
    absurd (out-of-turn s day.day.course Phase.orders (and-true _ _ a.turn).0 (omega arith))
obeyed-in-day found s happened begin used day a e =
    absurd (out-of-turn s day.day.course Phase.orders (and-true _ _ (and-true _ _ a.turn).0).0 (omega arith))
obeyed-in-day found s happened (done j) used day a e =
    record {
      day = done-in-day s happened day.day j a;
      stays = books-stay found s _ _ _ _ happened _ (starts-in-force (obey s (done j)).started _) day.stays;
    }
obeyed-in-day found s happened fetch used day a e =
    record { day = fetch-in-day s happened day.day a; stays = books-stay found s _ _ _ _ happened _ refl day.stays }
obeyed-in-day found s happened (places bound) used day a e =
    record {
      day = places-in-day s happened day.day bound a;
      stays = books-stay found s _ _ _ _ happened _ (starts-in-force (obey s (places bound)).started bound) day.stays;
    }

-- one asking of a day
asked-in-day :
    (found s : State) (happened : List Event) (a : Asking)
    → DayOf found s happened
    → opens_plan s a ≡ false
    → DayOf found (command s a).state (happened ++ events s a)
unfolding accepted opens_plan
asked-in-day found s happened a day e = go (step s a)
  where
    go : Step s a → DayOf found (command s a).state (happened ++ events s a)
    go (is-refused r) =
        subst₂ (λ (t : State) (l : List Event). DayOf found t l) (sym r.unchanged)
        (sym (ap (λ (l : List Event). happened ++ l) (nothing-happens s a r.not-accepted) ∙ append-nil happened)) day
    go (is-obeyed c used o) =
        let other : is_plan (read c used) ≡ false =
        ap is_plan (sym o.decoded) ∙ sym (ap (λ (t : Bool). t && is_plan (decode a.stream a.place)) o.is-accepted) ∙ e
        in
        subst₂ (λ (t : State) (l : List Event). DayOf found t l) (sym o.after)
        (ap (λ (l : List Event). happened ++ l) (sym o.happens))
        (obeyed-in-day found s happened c used day o.granted other)

-- a list of askings of a day
asked-all :
    (later : List Asking) (found s : State) (happened : List Event)
    → DayOf found s happened
    → next_plan s later ≡ false
    → DayOf found (after s later) (happened ++ log s later)
unfolding after log next_plan
asked-all [] found s happened day e = subst (λ (l : List Event). DayOf found s l) (sym (append-nil happened)) day
asked-all (a ∷ later) found s happened day e =
    let both = or-false (opens_plan s a) (next_plan (command s a).state later) e in
    subst (λ (l : List Event). DayOf found (after (command s a).state later) l)
    (append_assoc happened (events s a) (log (command s a).state later))
    (asked-all later found (command s a).state (happened ++ events s a) (asked-in-day found s happened a day both.0)
    both.1)

-- the asking that opens a day
begun-by :
    (s : State) (c : Command) (used : ℕ)
    → Formed s
    → Accepted s c
    → is_begin (read c used) ≡ true
    → DayOf s (obey s c).state (reported (read c used) ++ map started (obey s c).started)
unfolding byte_of operands_of is_begin reported obey proceed with_books with_bound
begun-by s (plan n p bound) used h a e = absurd (clash e refl)
begun-by s (task parent work out) used h a e = absurd (clash e refl)
begun-by s (activation i) used h a e = absurd (clash e refl)
begun-by s (execution i) used h a e = absurd (clash e refl)
begun-by s begin used h a e =
    record {
      day = begin-in-day s h a;
      stays = books-stay s (completed s) _ _ _ _ [] _ (starts-in-force (obey s begin).started _) (completes s);
    }
begun-by s (done j) used h a e = absurd (clash e refl)
begun-by s fetch used h a e = absurd (clash e refl)
begun-by s (places bound) used h a e = absurd (clash e refl)

opened-day : (s : State) (a : Asking) → Formed s → opens_day s a ≡ true → DayOf s (command s a).state (events s a)
unfolding accepted opens_day
opened-day s a h e = go (step s a)
  where
    go : Step s a → DayOf s (command s a).state (events s a)
    go (is-refused r) =
        absurd (clash (and-true (accepted s a) (is_begin (decode a.stream a.place)) e).0 r.not-accepted)
    go (is-obeyed c used o) =
        subst₂ (λ (t : State) (l : List Event). DayOf s t l) (sym o.after) (sym o.happens)
        (begun-by s c used h o.granted
        (ap is_begin (sym o.decoded) ∙ (and-true (accepted s a) (is_begin (decode a.stream a.place)) e).1))

-- a list of askings after another
pub after-append : (l m : List Asking) (s : State) → after s (l ++ m) ≡ after (after s l) m
unfolding after
after-append [] m s = refl
after-append (a ∷ l) m s = after-append l m (command s a).state

-- every day is a day of the plan that BEGIN found
every-day : EveryDay DayOf
unfolding after log next_plan
every-day earlier opening later opens next =
    let formed : Formed (after none earlier) = after-formed earlier none none-formed in
    let both = or-false (opens_plan (after none earlier) opening) (next_plan (command (after none earlier) opening).state later) next in
    subst (λ (t : State). DayOf (after none earlier) t (log (after none earlier) (opening ∷ later)))
    (sym (after-append earlier (opening ∷ later) none))
    (asked-all later (after none earlier) (command (after none earlier) opening).state (events (after none earlier) opening)
    (opened-day (after none earlier) opening formed opens) both.1)

pub every-day-holds : EveryDayHolds
every-day-holds earlier opening later opens next = day-holds _ _ (every-day earlier opening later opens next).day

pub theorem : Theorem
theorem =
    record {
      days = every-day-holds;
      orders = λ earlier opening later opens next. orders-hold _ (every-day earlier opening later opens next).day.planned;
      plans = λ earlier opening later opens next. (every-day earlier opening later opens next).stays.plan;
      places = λ earlier opening later opens next. (every-day earlier opening later opens next).stays.places;
      fits = λ earlier opening later opens next. (every-day earlier opening later opens next).day.planned.fits;
      askings = λ earlier a. asking_holds (after none earlier) a (after-formed earlier none none-formed);
      refusals = λ s asks. after-accepted asks s;
      silent = λ s asks. log-accepted asks s;
    }
