-- What is promised of a day follows from what is kept of it.
use mathlib.Core.Path.{◌≡◌, refl, sym, ap, ◌∙◌}
use mathlib.Core.Bool.{Bool, true, false, cond, ◌||◌}
use mathlib.Core.Logic.{◌↔◌, ⊎_elim}
use mathlib.Core.List.{List, [], ◌∷◌}
use Prim.Native.Nat.{ℕ, ◌≤◌, ◌<◌}
use native.Mathlib.Omega.{arith}
use lib.Dec.{eqb}
use lib.ListN.{length}
use borrow.Author.Tests.{eqb-true, eq-eqb, ne_eqb, le-leb, leb-true}
use Rattle.numbers.specs.Sums.{count_to, within}
use Rattle.numbers.specs.Lists.{at, mem, every}
use Rattle.tree.specs.Need
use Rattle.rules.specs.Phase
use Rattle.books.specs.Standing
use Rattle.books.specs.Standing.{waiting, activated, running, finished, count, counts}
use Rattle.rules.specs.State.{State}
use Rattle.format.specs.Command.{fetch, places}
use Rattle.numbers.specs.Limits.{max_bound}
use Rattle.rules.specs.Grounds.{in_turn, in_limits, peak_of, own_ground, ground_for}
use Rattle.books.specs.Booking.{total}
use Rattle.rules.specs.Question
use Rattle.rules.specs.Day.{Event, starts, ends, is_fetched, runs}
use Rattle.theorem.specs.Theorem.{DayHolds}
use Rattle.numbers.proofs.Tests.{clash, same_or_not}
use Rattle.numbers.proofs.Sums.{Task, count-le, count_none, only-true, only-le}
use Rattle.numbers.proofs.Counts.{count-full, count-cong}
use Rattle.tree.proofs.Orders.{within-task, every-mem}
use Rattle.rules.proofs.Log.{reports, all-reported}
use Rattle.rules.proofs.Judging.{ground-own}
use Rattle.rules.proofs.Formed.{Accepted, demand-none, no-ground}
use Rattle.rules.proofs.Placing.{grounds-fit}
use Rattle.theorem.proofs.Going.{not-all, somebody-runs}
use Rattle.theorem.proofs.Stores.{runs-is, nobody-then, store-holds}
use Rattle.rules.proofs.InDay.{Going, Closed, Course, goes, closed, InDay, past-running}

module _ (s : State) (happened : List Event) (day : InDay s happened) where
  -- as many run by what happened
  runners : count_to (runs happened) s.size ≡ count s.size (at s.standings) running
  unfolding count
  runners = count-cong (runs happened) (λ i. eqb (at s.standings i) running) s.size (runs-is s happened day)

  -- the reports are those that have ended
  reported : length (ends happened) ≡ count s.size (at s.standings) finished
  reported = reports s.size (at s.standings) happened day.logged

  -- all have ended just where the reports are n
  all-ended : length (ends happened) ≡ s.size → (i : ℕ) → Task s.size i → at s.standings i ≡ finished
  unfolding count
  all-ended e i t =
      eqb-true (at s.standings i) finished
      (count-full (λ k. eqb (at s.standings k) finished) s.size (sym reported ∙ e) i t)

  -- who stands in a list of tasks is one
  listed : (l : List ℕ) → every (λ i. within i s.size) l ≡ true → (i : ℕ) → mem i l ≡ true → Task s.size i
  listed l inside i m = within-task s.size i (every-mem (λ k. within k s.size) l i inside m)

  -- no more than n reports are accepted
  most : length (ends happened) ≤ s.size
  unfolding count
  most = let c = count-le (λ i. eqb (at s.standings i) finished) s.size in let r = reported in omega arith

  -- the phases of a day, by what happened
  record Phased : Type 0 where
    going : ((i : ℕ) × Task s.size i × (runs happened i ≡ true)) ↔ (length (ends happened) < s.size)
    running : (s.phase ≡ Phase.running) ↔ (length (ends happened) < s.size)
    ready : (s.phase ≡ Phase.ready) ↔ ((length (ends happened) ≡ s.size) × (is_fetched happened ≡ false))
    over : (s.phase ≡ Phase.over) ↔ (is_fetched happened ≡ true)
    staffed : count s.size (at s.standings) Standing.running ≤ s.processors
    -- in each of them the four counts are answered
    answers : (Phase.holds_trays s.phase || eqb s.phase Phase.over) ≡ true

  going-phased : Going s → Phased
  unfolding Phase.holds_trays
  going-phased g =
      let p = g.phased in
      let few : length (ends happened) < s.size =
      (let m = most in
      ⊎_elim (λ e. absurd (not-all s day.planned g (all-ended e))) (λ d. omega arith)
      (same_or_not (length (ends happened)) s.size))
      in
      let some = somebody-runs s day.planned g in
      let not-fetched : is_fetched happened ≡ false = day.fetch ∙ ne_eqb s.phase Phase.over (λ q. omega arith) in
      record {
        going = ((λ _. few), (λ _. (some.0, some.1, runs-is s happened day some.0 some.1 ∙ some.2)));
        running = ((λ _. few), (λ _. p));
        ready = ((λ q. absurd (omega arith)), (λ e. let n = e.0 in absurd (omega arith)));
        over = ((λ q. absurd (omega arith)), (λ e. absurd (clash e not-fetched)));
        staffed = g.settled.staffed;
        answers = rw p refl;
      }

  closed-phased : (gone : Bool) → Closed s gone → Phased
  unfolding Phase.holds_trays count
  closed-phased gone c =
      let reports : length (ends happened) ≡ s.size =
      all-reported s.size (at s.standings) happened day.logged c.all
      in
      let nobody : count s.size (at s.standings) Standing.running ≡ 0 =
      count_none (λ i. eqb (at s.standings i) Standing.running) s.size
      (λ i t. let e = c.all i t in ne_eqb (at s.standings i) Standing.running (λ q. omega arith))
      in
      record {
        going = ((λ k. absurd (nobody-then s happened day c.all k.0 k.1 k.2)), (λ few. absurd (omega arith)));
        running = ((λ q. let late = past-running gone c in absurd (omega arith)), (λ few. absurd (omega arith)));
        ready = ((λ q. (reports, day.fetch ∙ ne_eqb s.phase Phase.over (λ o. omega arith))), (λ e. loaded gone c.phased e.1));
        over = ((λ q. day.fetch ∙ eq-eqb s.phase Phase.over q), (λ e. eqb-true s.phase Phase.over (sym day.fetch ∙ e)));
        staffed = omega arith;
        answers = told gone c.phased;
      }
    where
      loaded : (gone : Bool) → s.phase ≡ cond gone Phase.over Phase.ready → is_fetched happened ≡ false → s.phase ≡ Phase.ready
      loaded true p e = absurd (clash (day.fetch ∙ eq-eqb s.phase Phase.over p) e)
      loaded false p e = p

      told :
          (gone : Bool)
          → s.phase ≡ cond gone Phase.over Phase.ready
          → (eqb s.phase Phase.running || eqb s.phase Phase.ready || eqb s.phase Phase.over) ≡ true
      told true p = rw p refl
      told false p = rw p refl

  phased : Course s → Phased
  phased (goes g) = going-phased g
  phased (closed gone c) = closed-phased gone c

  -- FETCH is taken in ready, and only there
  fetching : (ground_for s fetch ≡ 0) ↔ (s.phase ≡ Phase.ready)
  unfolding ground_for in_turn in_limits own_ground
  fetching = (
    (λ e.
        eqb-true s.phase Phase.ready (demand-none (eqb s.phase Phase.ready) 3 0 (λ q. omega arith) e).0),
    (λ e. rw (eq-eqb s.phase Phase.ready e) refl),
  )

  -- 08 is taken in running, with a bound that is at least the peak and at least what is booked
  placing :
      (m : ℕ)
      → (ground_for s (places m) ≡ 0)
      ↔ ((s.phase ≡ Phase.running) × (m ≤ max_bound) × (peak_of s ≤ m) × (Question.booked s ≤ m))
  unfolding in_turn in_limits own_ground Phase.holds_trays Question.booked_in
  placing m = (
    (λ e.
        let a : Accepted s (places m) = no-ground s (places m) e in
        let fits = grounds-fit s m a.own in
        let low = only-le (Phase.holds_trays s.phase) (total s.size (at s.stores.chilled.booked)) in
        let most = fits.booked in (
          eqb-true s.phase Phase.running a.turn,
          leb-true m max_bound a.limits,
          fits.peak,
          omega arith,
        )),
    (λ h.
        let held : Phase.holds_trays s.phase ≡ true = rw h.0 refl in
        let all = only-true (Phase.holds_trays s.phase) (total s.size (at s.stores.chilled.booked)) held in
        let most = h.3 in
        let booked : total s.size (at s.stores.chilled.booked) ≤ m = omega arith in
        ground-own s (places m) (eq-eqb s.phase Phase.running h.0) (le-leb m max_bound h.1)
        ∙ rw (le-leb (peak_of s) m h.2, le-leb _ m booked) refl),
  )

  -- once all have ended the four counts are these
  all-counted :
      length (ends happened) ≡ s.size → counts s.size (at s.standings) ≡ 0 ∷ 0 ∷ 0 ∷ s.size ∷ []
  unfolding count counts
  all-counted e =
      let none : (which : ℕ) → which < finished → count s.size (at s.standings) which ≡ 0 =
      λ which low.
      count_none (λ i. eqb (at s.standings i) which) s.size
      (λ i t. let f = all-ended e i t in ne_eqb (at s.standings i) which (λ q. omega arith))
      in
      rw (none waiting (omega arith), none activated (omega arith), none running (omega arith), sym reported ∙ e) refl

  pub day-holds : DayHolds s happened
  unfolding Question.in_use_in Question.booked_in Question.standing Need.in_use counts
  day-holds =
      let phases = phased day.course in
      let told : Question.standing s ≡ counts s.size (at s.standings) = rw phases.answers refl in
      record {
        starting = listed (starts happened) day.logged.begun-inside;
        ending = listed (ends happened) day.logged.inside;
        once = day.order.once;
        fed = day.order.fed;
        ran = day.order.ran;
        most = most;
        going = phases.going;
        complete =
            λ e i t.
            let over = all-ended e i t in (
              day.logged.begun i t ∙ le-leb running (at s.standings i) (omega arith),
              day.logged.done i t ∙ eq-eqb (at s.standings i) finished over,
            );
        fetch = day.order.fetch;
        fetching = fetching;
        placing = placing;
        running = phases.running;
        ready = phases.ready;
        over = phases.over;
        count_running = ap (λ (l : List ℕ). at l running) told ∙ sym runners;
        count_ended = ap (λ (l : List ℕ). at l finished) told ∙ sym reported;
        all_ended = λ e. told ∙ all-counted e;
        staffed = (let same = runners in let few = phases.staffed in omega arith);
        stores = store-holds s happened day day.course;
      }
