-- DONE for the root in code: all have ended, and its out is all that is booked and in use.
use mathlib.Core.Path.{◌≡◌, refl, sym, ap, ap₂, ◌∙◌}
use mathlib.Core.Bool.{false}
use mathlib.Core.Logic.{⊎_elim}
use mathlib.Core.List.{List}
use Prim.Native.Nat.{ℕ, ◌+◌, ◌-◌, ◌≤◌}
use native.Mathlib.Omega.{arith}
use lib.Dec.{eqb}
use lib.ListN.{set}
use borrow.Author.Tests.{eq-eqb, ne_eqb}
use Rattle.books.specs.Kind.{chilled, each}
use Rattle.numbers.specs.Sums.{Task, within}
use Rattle.numbers.specs.Lists.{at}
use Rattle.rules.specs.Phase
use Rattle.books.specs.Standing.{waiting, running, finished, count}
use Rattle.rules.specs.State.{State}
use Rattle.format.specs.Command.{done}
use Rattle.rules.specs.Reachable.{Reachable}
use Rattle.books.specs.Booking.{total}
use Rattle.rules.specs.Obey.{with_books, ended_standings, plain, obey}
use Rattle.numbers.proofs.Tests.{same_or_not}
use Rattle.numbers.proofs.Sums.{sum-cong, count_none, count-all}
use Rattle.tree.proofs.Orders.{within-task, mem-at, every-mem}
use Rattle.books.proofs.Entries.{at_other}
use Rattle.tree.proofs.Trolley.{remains, root-remains}
use Rattle.rules.proofs.InDay.{Planned, Going}
use Rattle.rules.proofs.Closing.{ready_after, all-ended, closes, closing}
use Rattle.rules.proofs.Reporting.{one_fewer, one-more-ended}
use Rattle.rules.proofs.Reaching.{lives}
use Rattle.words.specs.Contents.{Contents, with_head, store_with_head}
use Rattle.store.specs.Rows.{rows_of, activation_of}
use Rattle.store.specs.Store.{with_store, with_holdings, held_alone}
use Rattle.store.proofs.Rows.{rows-set, zero-set}
use Rattle.dispatch.specs.Ended.{with_progress, MayEnd, ended}
use Rattle.dispatch.specs.Ended as dispatching
use Rattle.dispatch.proofs.Ending as ending
use Rattle.answer.specs.Meaning.{meaning}
use Rattle.answer.specs.Sound.{Closed, Sound}
use Rattle.answer.proofs.Meant.{in-running, cached-now, parents-meant, outs-meant, standings-rows, booked-rows, standings-meant, order-valid, going, still_kept}
use Rattle.answer.proofs.Past.{running-past}
use Rattle.day.specs.Day.{made_ready}
use Rattle.day.proofs.Staying.{in-its-day, phase-same, alone-same, day-sound}
use Rattle.day.proofs.Reporting.{Accepted}

module _ (c : Contents) (j : ℕ) (reached : Reachable (meaning c)) (sound : Sound c) (a : Accepted c j) where
  pub may-end-root : MayEnd j c
  may-end-root = ending.may-end (still_kept c reached sound a.now) a.task a.runs

  module _ (root : at c.parents j ≡ 0) where
    abbrev s : State
    s = meaning c

    abbrev n : ℕ
    n = c.size

    on : Phase.running ≤ c.phase
    on = in-running c sound a.now

    planned : Planned s
    planned = ((lives reached).day on).1.planned

    day : Going s
    day = going c reached sound a.now

    runs-meant : at s.standings j ≡ running
    runs-meant = ap (λ (f : ℕ → ℕ). f j) (standings-meant c sound a.now) ∙ a.runs

    root-meant : at s.parents j ≡ 0
    root-meant = ap (λ (f : ℕ → ℕ). f j) (parents-meant c sound) ∙ root

    out-meant : at s.stores.chilled.outs j ≡ at c.stores.chilled.outs j
    out-meant = ap (λ (f : ℕ → ℕ). f j) (outs-meant c sound)

    all : (i : ℕ) → Task n i → at (set s.standings j finished) i ≡ finished
    unfolding ended_standings
    all = all-ended s planned day j a.task runs-meant root-meant

    -- the lists of the day afterwards
    standings-then : rows_of n (set c.standings j finished) ≡ set s.standings j finished
    standings-then =
        rows-set n c.standings j finished a.task.high
        ∙ ap (λ (l : List ℕ). set l j finished) (sym (standings-rows c sound on))

    booked-then :
        rows_of n (set c.stores.chilled.booked j (at c.stores.chilled.outs j)) ≡ set s.stores.chilled.booked j (at s.stores.chilled.outs j)
    booked-then =
        rows-set n c.stores.chilled.booked j (at c.stores.chilled.outs j) a.task.high
        ∙ ap₂ (λ (l : List ℕ) (v : ℕ). set l j v) (sym (booked-rows c sound on)) (sym out-meant)

    means : meaning (made_ready j c) ≡ ready_after s j
    unfolding made_ready dispatching.root_ended ended with_progress with_store with_holdings held_alone with_head store_with_head with_books ended_standings
    means =
        λ z.
        record {
          phase = Phase.ready;
          size = s.size;
          processors = s.processors;
          parents = s.parents;
          activation = s.activation;
          execution = s.execution;
          standings = standings-then z;
          stores =
              each
              (λ _.
              record {
                bound = s.stores.chilled.bound;
                works = s.stores.chilled.works;
                outs = s.stores.chilled.outs;
                booked = booked-then z;
              });
        }

    -- what the rules do with the report
    pub makes-ready : obey s (done j) ≡ plain (meaning (made_ready j c))
    makes-ready = closes s planned day j a.task runs-meant root-meant ∙ ap plain (sym means)

    -- nobody waits
    next-then : c.next ≡ n
    next-then =
        let reached-to = (cached-now c sound a.now).reached in
        let most = reached-to.within in
        ⊎_elim (λ e. e)
        (λ d.
        let x = at (activation_of c) c.next in
        let valid = order-valid c reached sound on in
        let whole = valid.whole in
        let task =
        within-task n x (every-mem (λ i. within i n) (activation_of c) x valid.inside (mem-at (activation_of c) c.next (omega arith)))
        in
        let waits : at s.standings x ≡ waiting =
        ap (λ (l : List ℕ). at l x) (standings-rows c sound on) ∙ reached-to.from_next c.next (omega arith) (omega arith)
        in
        ⊎_elim
        (λ (q : x ≡ j). let r = runs-meant in let e : at s.standings j ≡ waiting = ap (at s.standings) (sym q) ∙ waits in absurd (omega arith))
        (λ v. let e = sym (at_other s.standings j finished x v) ∙ all x task in absurd (omega arith))
        (same_or_not x j))
        (same_or_not c.next n)

    -- nobody runs, and all have ended
    active-then : c.active - 1 ≡ 0
    unfolding count
    active-then =
        let one = one_fewer n s.standings j day.settled.good.sized a.task runs-meant in
        let was : c.active ≡ count n (at s.standings) running =
        (cached-now c sound a.now).runs ∙ ap (λ (l : List ℕ). count n (at l) running) (sym (standings-rows c sound on))
        in
        let none =
        count_none (λ i. eqb (at (set s.standings j finished) i) running) n
        (λ i t. let e = all i t in ne_eqb (at (set s.standings j finished) i) running (λ q. omega arith))
        in
        omega arith

    ended-then : c.ended + 1 ≡ n
    unfolding count
    ended-then =
        let one = one-more-ended n s.standings j day.settled.good.sized a.task runs-meant in
        let was : c.ended ≡ count n (at s.standings) finished =
        (cached-now c sound a.now).ends ∙ ap (λ (l : List ℕ). count n (at l) finished) (sym (standings-rows c sound on))
        in
        let every =
        count-all (λ i. eqb (at (set s.standings j finished) i) finished) n
        (λ i t. eq-eqb (at (set s.standings j finished) i) finished (all i t))
        in
        omega arith

    -- its out is all that is booked
    total-then :
        at c.stores.chilled.outs j ≡ total n (at (rows_of n (set c.stores.chilled.booked j (at c.stores.chilled.outs j))))
    unfolding total with_books
    total-then =
        sym
        (ap (λ (l : List ℕ). total n (at l)) booked-then
        ∙ sum-cong (at (set s.stores.chilled.booked j (at s.stores.chilled.outs j))) (remains (at s.parents) (at s.stores.chilled.outs) false) n
        ((closing s planned day j a.task runs-meant root-meant).stock chilled).booked
        ∙ root-remains n (at s.parents) (at s.stores.chilled.outs) planned.rooted j a.task root-meant
        ∙ out-meant)

    kept_then : Closed (made_ready j c)
    unfolding made_ready dispatching.root_ended ended with_progress with_store with_holdings held_alone with_head store_with_head
    kept_then =
        let past = running-past c sound reached a.now in
        record {
          next = next-then;
          active = active-then;
          ended = ended-then;
          totals = total-then;
          uses = refl;
          past =
              record {
                unended = past.unended;
                standings = zero-set n c.standings j finished a.task.high past.standings;
                needs = past.needs;
                booked = zero-set n c.stores.chilled.booked j (at c.stores.chilled.outs j) a.task.high past.booked;
                figures = past.figures;
              };
        }

    pub ready-sound : Sound (made_ready j c)
    unfolding made_ready dispatching.root_ended ended with_progress with_store with_holdings held_alone with_head store_with_head
    ready-sound =
        day-sound (in-its-day sound on)
        (phase-same Phase.ready
        (alone-same c j (at c.stores.chilled.outs j) (set c.standings j finished) c.unended (c.active - 1) (c.ended + 1)))
        sound.long (omega arith) (omega arith) (λ e. absurd (omega arith)) (λ _. kept_then)
