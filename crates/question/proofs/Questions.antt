-- What a plan is asked: the answers by the figures that its words keep.
use mathlib.Core.Path.{◌≡◌, refl, sym, ap, ◌∙◌}
use mathlib.Core.Bool.{true, false, ◌||◌}
use mathlib.Core.List.{[], ◌∷◌}
use mathlib.Core.Logic.{◌⊎◌, inl, inr, ⊎_elim}
use Prim.Native.Nat.{ℕ, ◌+◌, ◌-◌, ◌≤◌, ◌<◌}
use native.Mathlib.Omega.{arith}
use lib.Dec.{eqb}
use borrow.Author.Tests.{eqb-true, eq-eqb, ne_eqb}
use Rattle.books.specs.Kind.{chilled}
use Rattle.numbers.specs.Sums.{only}
use Rattle.numbers.specs.Lists.{at}
use Rattle.rules.specs.Phase
use Rattle.books.specs.Standing.{waiting, activated, running, finished, count, counts}
use Rattle.rules.specs.Reachable.{Reachable}
use Rattle.rules.specs.Question.{booked_in, booked, in_use_in, in_use, standing}
use Rattle.books.specs.Booking.{total}
use Rattle.numbers.proofs.Sums.{only-true, only-cong, count_none, count-all}
use Rattle.numbers.proofs.Tests.{decide, same_or_not, or_cases}
use Rattle.tree.proofs.Roots.{some-root}
use Rattle.rules.proofs.InDay.{all-ended}
use Rattle.theorem.proofs.Stores.{in-use-going}
use Rattle.theorem.proofs.Holds.{day-holds}
use Rattle.rules.proofs.Reaching.{lives}
use Rattle.words.specs.Contents.{Contents}
use Rattle.store.specs.Rows.{rows_of, books, activation_of}
use Rattle.answer.specs.Meaning.{meaning}
use Rattle.answer.specs.Sound.{Sound}
use Rattle.answer.proofs.Meant.{in-running, cached-now, parents-meant, works-meant, outs-meant, standings-rows, booked-rows, order-valid, going}
use Rattle.question.proofs.Counting.{waiting-count, four-counts}

-- from BEGIN to FETCH a plan runs or is ready
held-phase :
    (c : Contents) → Phase.holds_trays c.phase ≡ true → (c.phase ≡ Phase.running) ⊎ (c.phase ≡ Phase.ready)
unfolding Phase.holds_trays
held-phase c held =
    ⊎_elim (λ (e : eqb c.phase Phase.running ≡ true). inl (eqb-true c.phase Phase.running e))
    (λ (e : eqb c.phase Phase.ready ≡ true). inr (eqb-true c.phase Phase.ready e))
    (or_cases (eqb c.phase Phase.running) (eqb c.phase Phase.ready) held)

-- in both of them the kept total is what is booked
pub booked-kept : (c : Contents) → Sound c → only (Phase.holds_trays c.phase) c.stores.chilled.total ≡ booked (meaning c)
unfolding booked_in
booked-kept c sound =
    only-cong (Phase.holds_trays c.phase) c.stores.chilled.total (total c.size (at (meaning c).stores.chilled.booked))
    (λ held.
    ⊎_elim
    (λ (now : c.phase ≡ Phase.running).
    rw (booked-rows c sound (omega arith)) ((cached-now c sound now).stores chilled).totals)
    (λ (now : c.phase ≡ Phase.ready).
    rw (booked-rows c sound (omega arith)) ((sound.day (omega arith)).closed (omega arith)).totals)
    (held-phase c held))

-- and what is kept as in use is what the rules give
pub in-use-kept :
    (c : Contents)
    → Reachable (meaning c)
    → Sound c
    → only (Phase.holds_trays c.phase) c.stores.chilled.used ≡ in_use (meaning c)
unfolding in_use_in
in-use-kept c reached sound =
    ⊎_elim
    (λ (held : Phase.holds_trays c.phase ≡ true). ⊎_elim (running held) ready (held-phase c held))
    (λ (held : Phase.holds_trays c.phase ≡ false). elsewhere held)
    (decide (Phase.holds_trays c.phase))
  where
    running :
        Phase.holds_trays c.phase ≡ true
        → c.phase ≡ Phase.running
        → only (Phase.holds_trays c.phase) c.stores.chilled.used ≡ in_use (meaning c)
    running held now =
        let day = (lives reached).day (in-running c sound now) in
        only-true (Phase.holds_trays c.phase) c.stores.chilled.used held
        ∙ ((cached-now c sound now).stores chilled).uses
        ∙ sym
        (in-use-going (meaning c) day.0 day.1 (going c reached sound now) chilled
        ∙ rw (parents-meant c sound, works-meant c sound, outs-meant c sound, standings-rows c sound (in-running c sound now)) refl)

    -- the trolley is all that is booked, and all that is in use
    ready : c.phase ≡ Phase.ready → only (Phase.holds_trays c.phase) c.stores.chilled.used ≡ in_use (meaning c)
    ready now =
        let on : Phase.running ≤ c.phase = omega arith in
        let day = (lives reached).day on in
        let planned = day.1.planned in
        let root = some-root (meaning c).size (at (meaning c).parents) planned.rooted in
        let trolley = ((day-holds (meaning c) day.0 day.1).stores chilled).remains now root.0 root.1 root.2 in
        ap (only (Phase.holds_trays c.phase)) ((sound.day on).closed (omega arith)).uses
        ∙ booked-kept c sound
        ∙ trolley.0
        ∙ sym trolley.1

    elsewhere :
        Phase.holds_trays c.phase ≡ false → only (Phase.holds_trays c.phase) c.stores.chilled.used ≡ in_use (meaning c)
    elsewhere held = rw held refl

-- before a day there is no standing
pub standing-early : (c : Contents) → c.phase < Phase.running → 0 ∷ 0 ∷ 0 ∷ 0 ∷ [] ≡ standing (meaning c)
unfolding standing Phase.holds_trays
standing-early c h =
    rw (
      ne_eqb c.phase Phase.running (λ e. omega arith),
      ne_eqb c.phase Phase.ready (λ e. omega arith),
      ne_eqb c.phase Phase.over (λ e. omega arith),
    ) refl

-- the numbers of a day, and the four counts that they give
pub record Tallied (c : Contents) : Type 0 where
  pub within : c.next ≤ c.size
  pub parts : c.active + c.ended ≤ c.next
  pub same :
      (c.size - c.next) ∷ (c.next - c.active - c.ended) ∷ c.active ∷ c.ended ∷ [] ≡ standing (meaning c)

-- from running on there are three phases
in-day :
    (c : Contents)
    → Sound c
    → Phase.running ≤ c.phase
    → (Phase.holds_trays c.phase || eqb c.phase Phase.over) ≡ true
unfolding Phase.holds_trays
in-day c sound day =
    let named = sound.named in
    ⊎_elim (λ e. rw (eq-eqb c.phase Phase.running e) refl)
    (λ r.
    ⊎_elim (λ e. rw (ne_eqb c.phase Phase.running r, eq-eqb c.phase Phase.ready e) refl)
    (λ d.
    rw (ne_eqb c.phase Phase.running r, ne_eqb c.phase Phase.ready d, eq-eqb c.phase Phase.over (omega arith)) refl)
    (same_or_not c.phase Phase.ready))
    (same_or_not c.phase Phase.running)

list4 :
    {a b c d a' b' c' d' : ℕ}
    → a ≡ a'
    → b ≡ b'
    → c ≡ c'
    → d ≡ d'
    → a ∷ b ∷ c ∷ d ∷ [] ≡ a' ∷ b' ∷ c' ∷ d' ∷ []
list4 p q r s = rw (p, q, r, s) refl

-- while it runs
running-tallied : (c : Contents) → Reachable (meaning c) → Sound c → c.phase ≡ Phase.running → Tallied c
unfolding standing counts
running-tallied c reached sound now =
    let day = in-running c sound now in
    let kept = cached-now c sound now in
    let runs = kept.runs in
    let ends = kept.ends in
    let waits =
    waiting-count c.size (at c.parents) (activation_of c) (books c) c.next (order-valid c reached sound day)
    kept.reached
    in
    let all =
    four-counts c.size (at (rows_of c.size c.standings))
    (rw (standings-rows c sound day) at (going c reached sound now).settled.good.shape.four)
    in
    record {
      within = kept.reached.within;
      parts = omega arith;
      same = rw (in-day c sound day, standings-rows c sound day) (list4 (omega arith) (omega arith) runs ends);
    }

-- once all have ended
closed-tallied : (c : Contents) → Reachable (meaning c) → Sound c → Phase.running < c.phase → Tallied c
unfolding standing counts count
closed-tallied c reached sound late =
    let day : Phase.running ≤ c.phase = omega arith in
    let kept = (sound.day day).closed late in
    let next = kept.next in
    let active = kept.active in
    let ended = kept.ended in
    let all = all-ended (meaning c) ((lives reached).day day).1.course late in
    let none : (which : ℕ) → which < finished → count c.size (at (meaning c).standings) which ≡ 0 =
    λ which low.
    count_none (λ i. eqb (at (meaning c).standings i) which) c.size
    (λ i t. let e = all i t in ne_eqb (at (meaning c).standings i) which (λ q. omega arith))
    in
    let every : count c.size (at (meaning c).standings) finished ≡ c.size =
    count-all (λ i. eqb (at (meaning c).standings i) finished) c.size
    (λ i t. eq-eqb (at (meaning c).standings i) finished (all i t))
    in
    let waits = none waiting (omega arith) in
    let books = none activated (omega arith) in
    let runs = none running (omega arith) in
    record {
      within = omega arith;
      parts = omega arith;
      same = rw (in-day c sound day) (list4 (omega arith) (omega arith) (omega arith) (omega arith));
    }

-- the kept numbers of a day are its four counts
pub tallied : (c : Contents) → Reachable (meaning c) → Sound c → Phase.running ≤ c.phase → Tallied c
tallied c reached sound day =
    ⊎_elim (λ now. running-tallied c reached sound now) (λ d. closed-tallied c reached sound (omega arith))
    (same_or_not c.phase Phase.running)
