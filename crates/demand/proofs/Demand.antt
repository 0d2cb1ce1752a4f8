-- Demand 3 of the code: what its calls answer is what the rules answer, so that the theorem of the rules is one about the calls.
use mathlib.Core.Path.{◌≡◌, refl, sym, ap, ap₂, subst, subst₂, ◌∙◌}
use mathlib.Core.Bool.{Bool, true, false, ◌||◌}
use mathlib.Core.Logic.{◌↔◌}
use mathlib.Core.List.{List, [], ◌∷◌, ◌++◌}
use Prim.Native.Nat.{ℕ, ◌≤◌, ◌<◌}
use lib.ListN.{length}
use Rattle.books.specs.Kind.{Kind, chilled}
use Rattle.numbers.specs.Lists.{at}
use Rattle.rules.specs.Phase
use Rattle.books.specs.Standing
use Rattle.rules.specs.State.{State, none, store_of, OrdersHold}
use Rattle.format.specs.Command.{plan, read, decode}
use Rattle.rules.specs.Grounds.{peak_in}
use Rattle.rules.specs.Answer as rules
use Rattle.rules.specs.Question as questions
use Rattle.whys.specs.Why.{Reason, why}
use Rattle.whys.specs.WhyHolds.{ReasonHolds}
use Rattle.streams.specs.Write.{Wrote, write}
use Rattle.streams.specs.WriteHolds.{WriteHolds}
use Rattle.postorders.specs.Find.{find_order}
use Rattle.postorders.specs.FindHolds.{FindHolds}
use Rattle.peaks.specs.PeakHolds.{PeakHolds}
use Rattle.rules.specs.Reachable.{Reachable}
use Rattle.rules.specs.Day as days
use Rattle.rules.specs.Obey.{completed}
use Rattle.theorem.specs.Theorem.{DayHolds, SamePlan}
use Rattle.whys.proofs.WhyHolds.{every-reason-holds}
use Rattle.streams.proofs.Written.{every-write-holds}
use Rattle.postorders.proofs.Find.{every-find-holds}
use Rattle.peaks.proofs.PeakHolds.{every-peak-holds}
use Rattle.theorem.proofs.Theorem.{after-append, theorem}
use Rattle.answer.specs.Meaning.{plan_of}
use Rattle.answer.specs.ValidPlan.{ValidPlan, NewPlan}
use Rattle.demand.specs.Calls.{Call, CallContract, Calls, Entries, Answers, left_by, received, asked, all_received, accepted, opens_day, opens_plan, next_plan, history}
use Rattle.demand.specs.Demand.{AnswersHold, DayOfCalls, OpenedWith, EveryCallHolds}
use Rattle.plan.proofs.NewPlan.{new-empty, new-valid}
use Rattle.demand.proofs.Opened.{opened-first, opened-stays}
use Rattle.demand.proofs.ReadBack.{read_back}
use Rattle.demand.proofs.Given.{order-given, order-begins}

-- one call: whether it is accepted, opens a day or a plan, and what happened, is what the rules have
module _ {w : List ℕ} {c : Call} (e : CallContract w c) where
  state-is : plan_of c.left ≡ (rules.command (plan_of w) c.asking).state
  state-is = ap (λ (a : rules.Answered). a.state) e.same

  accepted-is : accepted c ≡ days.accepted (plan_of w) c.asking
  unfolding days.accepted
  accepted-is = ap (λ (a : rules.Answered). days.accepts a) e.same

  opens-day-is : opens_day c ≡ days.opens_day (plan_of w) c.asking
  unfolding days.opens_day
  opens-day-is = ap (λ (a : rules.Answered). days.begins_day c.asking a) e.same

  opens-plan-is : opens_plan c ≡ days.opens_plan (plan_of w) c.asking
  unfolding days.opens_plan
  opens-plan-is = ap (λ (a : rules.Answered). days.begins_plan c.asking a) e.same

  events-are : days.happens c.asking (received c) ≡ days.events (plan_of w) c.asking
  unfolding days.events
  events-are = ap (λ (a : rules.Answered). days.happens c.asking a) e.same

-- and so for a list of calls
received-are :
    (calls : List Call) (w : List ℕ) → Calls w calls → all_received calls ≡ days.answers (plan_of w) (asked calls)
unfolding Calls all_received asked days.answers
received-are [] w e = refl
received-are (c ∷ later) w e =
    ap₂ (λ (a : rules.Answered) (l : List rules.Answered). a ∷ l) e.0.same
    (received-are later c.left e.1 ∙ ap (λ (s : State). days.answers s (asked later)) (state-is e.0))

left_is : (calls : List Call) (w : List ℕ) → Calls w calls → plan_of (left_by w calls) ≡ days.after (plan_of w) (asked calls)
unfolding Calls left_by asked days.after
left_is [] w e = refl
left_is (c ∷ later) w e =
    left_is later c.left e.1 ∙ ap (λ (s : State). days.after s (asked later)) (state-is e.0)

left-valid : (calls : List Call) (w : List ℕ) → Calls w calls → ValidPlan w → ValidPlan (left_by w calls)
unfolding Calls left_by
left-valid [] w e valid = valid
left-valid (c ∷ later) w e valid = left-valid later c.left e.1 e.0.valid

history-is : (calls : List Call) (w : List ℕ) → Calls w calls → history calls ≡ days.log (plan_of w) (asked calls)
unfolding Calls history asked days.log
history-is [] w e = refl
history-is (c ∷ later) w e =
    ap₂ (λ (a b : List days.Event). a ++ b) (events-are e.0)
    (history-is later c.left e.1 ∙ ap (λ (s : State). days.log s (asked later)) (state-is e.0))

next-plan-is :
    (calls : List Call) (w : List ℕ) → Calls w calls → next_plan calls ≡ days.next_plan (plan_of w) (asked calls)
unfolding Calls next_plan asked days.next_plan
next-plan-is [] w e = refl
next-plan-is (c ∷ later) w e =
    ap₂ (λ (a b : Bool). a || b) (opens-plan-is e.0)
    (next-plan-is later c.left e.1 ∙ ap (λ (s : State). days.next_plan s (asked later)) (state-is e.0))

-- a list of calls after another
asked-append : (l m : List Call) → asked (l ++ m) ≡ asked l ++ asked m
unfolding asked
asked-append [] m = refl
asked-append (c ∷ l) m = ap (λ (k : List rules.Asking). c.asking ∷ k) (asked-append l m)

calls-split : (l m : List Call) (w : List ℕ) → Calls w (l ++ m) → Calls w l × Calls (left_by w l) m
unfolding Calls left_by
calls-split [] m w e = (tt, e)
calls-split (c ∷ l) m w e = let k = calls-split l m c.left e.1 in ((e.0, k.0), k.1)

-- what the questions answer in a day
answers-hold :
    (w : List ℕ) (happened : List days.Event) → DayHolds (plan_of w) happened → (q : Answers w) → AnswersHold w happened q
answers-hold w happened day q =
    record {
      running =
          subst (λ (v : ℕ). (v ≡ Phase.running) ↔ (length (days.ends happened) < (plan_of w).size)) (sym q.phase_is) day.running;
      ready =
          subst
          (λ (v : ℕ). (v ≡ Phase.ready) ↔ ((length (days.ends happened) ≡ (plan_of w).size) × (days.is_fetched happened ≡ false)))
          (sym q.phase_is) day.ready;
      over = subst (λ (v : ℕ). (v ≡ Phase.over) ↔ (days.is_fetched happened ≡ true)) (sym q.phase_is) day.over;
      used = q.in_use_is ∙ (day.stores chilled).used;
      covered = subst₂ (λ (u v : ℕ). u ≤ v) (sym q.in_use_is) (sym q.booked_is) (day.stores chilled).covered;
      within = subst (λ (v : ℕ). v ≤ (plan_of w).stores.chilled.bound) (sym q.booked_is) (day.stores chilled).within;
      remains =
          λ now r t root.
          let both = (day.stores chilled).remains (sym q.phase_is ∙ now) r t root in
          (q.booked_is ∙ both.0, q.in_use_is ∙ both.1);
      unloaded =
          λ now.
          let both = (day.stores chilled).unloaded (sym q.phase_is ∙ now) in (q.booked_is ∙ both.0, q.in_use_is ∙ both.1);
      running_tasks = ap (λ (l : List ℕ). at l Standing.running) q.standing_is ∙ day.count_running;
      finished_tasks = ap (λ (l : List ℕ). at l Standing.finished) q.standing_is ∙ day.count_ended;
      all_finished = λ e. q.standing_is ∙ day.all_ended e;
    }

-- calls of which one is looked at: the plan that it finds and the plan as it stands, by the rules
module _ {w : List ℕ} (new : NewPlan w) (earlier : List Call) (opening : Call) (later : List Call)
    (e : Calls w (earlier ++ opening ∷ later)) where
  parts : Calls w earlier × Calls (left_by w earlier) (opening ∷ later)
  parts = calls-split earlier (opening ∷ later) w e

  found : plan_of (left_by w earlier) ≡ days.after none (asked earlier)
  found = left_is earlier w parts.0 ∙ ap (λ (s : State). days.after s (asked earlier)) (new-empty new)

  stands : plan_of (left_by w (earlier ++ opening ∷ later)) ≡ days.after none (asked earlier ++ asked (opening ∷ later))
  stands =
      left_is (earlier ++ opening ∷ later) w e
      ∙ ap₂ (λ (s : State) (l : List rules.Asking). days.after s l) (new-empty new) (asked-append earlier (opening ∷ later))

  -- a day among the calls
  day-of :
      opens_day opening ≡ true
      → next_plan (opening ∷ later) ≡ false
      → DayOfCalls (left_by w earlier) (left_by w (earlier ++ opening ∷ later)) (history (opening ∷ later))
  unfolding Calls asked
  day-of opens next =
      let log_is : history (opening ∷ later) ≡ days.log (days.after none (asked earlier)) (asked (opening ∷ later)) =
      history-is (opening ∷ later) (left_by w earlier) parts.1 ∙ ap (λ (s : State). days.log s (asked (opening ∷ later))) found
      in
      let begins : days.opens_day (days.after none (asked earlier)) opening.asking ≡ true =
      ap (λ (s : State). days.opens_day s opening.asking) (sym found) ∙ sym (opens-day-is parts.1.0) ∙ opens
      in
      let none-next : days.next_plan (days.after none (asked earlier)) (asked (opening ∷ later)) ≡ false =
      ap (λ (s : State). days.next_plan s (asked (opening ∷ later))) (sym found)
      ∙ sym (next-plan-is (opening ∷ later) (left_by w earlier) parts.1)
      ∙ next
      in
      let day : DayHolds (plan_of (left_by w (earlier ++ opening ∷ later))) (history (opening ∷ later)) =
      subst₂ (λ (s : State) (l : List days.Event). DayHolds s l) (sym stands) (sym log_is)
      (theorem.days (asked earlier) opening.asking (asked later) begins none-next)
      in
      record {
        day = day;
        orders =
            subst (λ (s : State). OrdersHold s) (sym stands)
            (theorem.orders (asked earlier) opening.asking (asked later) begins none-next);
        plan =
            subst₂ (λ (s t : State). SamePlan (completed s) t) (sym found) (sym stands)
            (theorem.plans (asked earlier) opening.asking (asked later) begins none-next);
        places =
            subst (λ (l : List days.Event). (plan_of (left_by w (earlier ++ opening ∷ later))).stores.chilled.bound ≡ days.in_force (plan_of (left_by w earlier)).stores.chilled.bound l)
            (sym log_is)
            (subst₂
            (λ (s t : State).
            t.stores.chilled.bound
            ≡ days.in_force s.stores.chilled.bound (days.log (days.after none (asked earlier)) (asked (opening ∷ later))))
            (sym found) (sym stands)
            (theorem.places (asked earlier) opening.asking (asked later) begins none-next));
        fits =
            subst (λ (s : State). (k : Kind) → peak_in s (store_of s k) ≤ (store_of s k).bound) (sym stands)
            (theorem.fits (asked earlier) opening.asking (asked later) begins none-next);
        questions = answers-hold (left_by w (earlier ++ opening ∷ later)) (history (opening ∷ later)) day;
      }

  -- the peak that one of the calls tells
  peak-of : PeakHolds (plan_of (left_by w earlier)) opening.asking (received opening)
  unfolding Calls
  peak-of =
      subst (λ (a : rules.Answered). PeakHolds (plan_of (left_by w earlier)) opening.asking a) (sym parts.1.0.same)
      (every-peak-holds.begins (plan_of (left_by w earlier)) (left-valid earlier w parts.0 (new-valid new)).reached opening.asking)

  -- a plan that one of the calls opens
  plan-of :
      (n p m used : ℕ)
      → accepted opening ≡ true
      → decode opening.asking.stream opening.asking.place ≡ read (plan n p m) used
      → next_plan later ≡ false
      → OpenedWith n p (days.in_force m (history later)) (plan_of (left_by w (earlier ++ opening ∷ later)))
  unfolding Calls asked days.after
  plan-of n p m used granted bytes next =
      subst₂ (λ (s : State) (l : List days.Event). OpenedWith n p (days.in_force m l) s)
      (ap (λ (s : State). days.after s (asked (opening ∷ later))) found
      ∙ sym (after-append (asked earlier) (asked (opening ∷ later)) none)
      ∙ sym stands)
      (sym
      (history-is later opening.left parts.1.1
      ∙ ap (λ (s : State). days.log s (asked later)) (state-is parts.1.0)))
      (opened-stays (asked later) (rules.command (plan_of (left_by w earlier)) opening.asking).state
      (opened-first (plan_of (left_by w earlier)) opening.asking used (sym (accepted-is parts.1.0) ∙ granted) bytes)
      (ap (λ (s : State). days.next_plan s (asked later)) (sym (state-is parts.1.0))
      ∙ sym (next-plan-is later opening.left parts.1.1)
      ∙ next))

-- what the order finder answers
finding-holds :
    (w : List ℕ) → Reachable (plan_of w) → (q : Answers w) (list : List ℕ) → Entries list → FindHolds (plan_of w) list (q.found list)
finding-holds w reached q list fits =
    subst (λ (r : Wrote). FindHolds (plan_of w) list r) (sym (q.found_is list fits)) (every-find-holds.lists (plan_of w) reached list)

pub every-call-holds : EveryCallHolds
every-call-holds w new calls e =
    let leaves : plan_of (left_by w calls) ≡ days.after none (asked calls) =
    left_is calls w e ∙ ap (λ (s : State). days.after s (asked calls)) (new-empty new)
    in
    let reached = (left-valid calls w e (new-valid new)).reached in
    record {
      answered = received-are calls w e ∙ ap (λ (s : State). days.answers s (asked calls)) (new-empty new);
      leaves = leaves;
      valid = left-valid calls w e (new-valid new);
      questions =
          λ q. (
            q.phase_is ∙ ap (λ (s : State). s.phase) leaves,
            q.booked_is ∙ ap questions.booked leaves,
            q.in_use_is ∙ ap questions.in_use leaves,
            q.fullness_is ∙ ap questions.fullness leaves,
            q.standing_is ∙ ap questions.standing leaves,
            λ i fits. q.reason_is i fits ∙ ap (λ (s : State). why s i) leaves,
            λ list fits. q.wrote_is list fits ∙ ap (λ (s : State). write s list) leaves,
            λ list fits. q.found_is list fits ∙ ap (λ (s : State). find_order s list) leaves,
          );
      reasons =
          λ q i fits.
          subst (λ (r : Reason). ReasonHolds (plan_of (left_by w calls)) i r) (sym (q.reason_is i fits))
          (every-reason-holds (plan_of (left_by w calls)) reached i);
      writes =
          λ q list fits.
          subst (λ (r : Wrote). WriteHolds (plan_of (left_by w calls)) list r) (sym (q.wrote_is list fits))
          (every-write-holds.lists (plan_of (left_by w calls)) reached list);
      restored = λ q list fits. read_back reached list (q.wrote_is list fits);
      finds = finding-holds (left_by w calls) reached;
      gives =
          λ q list fits granted now.
          order-given (left_by w calls) list (q.found list) (finding-holds (left_by w calls) reached q list fits) granted
          (sym q.phase_is ∙ now);
      begins =
          λ q list fits granted.
          order-begins (left_by w calls) list (q.found list) (finding-holds (left_by w calls) reached q list fits) granted;
      peaks =
          λ earlier call later split. peak-of new earlier call later (subst (λ (l : List Call). Calls w l) split e);
      plans =
          λ earlier opening later n p m used split granted bytes next.
          subst (λ (l : List Call). OpenedWith n p (days.in_force m (history later)) (plan_of (left_by w l))) (sym split)
          (plan-of new earlier opening later (subst (λ (l : List Call). Calls w l) split e) n p m used granted bytes next);
      days =
          λ earlier opening later split opens next.
          subst (λ (l : List Call). DayOfCalls (left_by w earlier) (left_by w l) (history (opening ∷ later))) (sym split)
          (day-of new earlier opening later (subst (λ (l : List Call). Calls w l) split e) opens next);
    }
