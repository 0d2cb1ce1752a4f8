-- An accepted DONE keeps the day.
use mathlib.Core.Path.{◌≡◌, refl, sym, ap, subst, ◌∙◌}
use mathlib.Core.Bool.{false}
use mathlib.Core.Logic.{⊎_elim}
use mathlib.Core.List.{List, [], ◌∷◌, ◌++◌, map, append_assoc}
use Prim.Native.Nat.{ℕ, suc, ◌+◌, ◌≤◌}
use native.Mathlib.Omega.{arith}
use lib.Dec.{eqb}
use lib.ListN.{length, set}
use borrow.Author.Tests.{eqb-true, eq-eqb, ne_eqb}
use Rattle.numbers.specs.Lists.{at}
use Rattle.rules.specs.Phase
use Rattle.books.specs.Standing.{running, finished, count}
use Rattle.rules.specs.State.{State, store_of}
use Rattle.format.specs.Command.{done}
use Rattle.rules.specs.Grounds.{in_turn, in_limits, no_peaks, own_ground}
use Rattle.rules.specs.Obey.{with_books, terms_of, books_of, proceed, ended_standings, shared, phase_after, obey}
use Rattle.rules.specs.Obey
use Rattle.rules.specs.Day.{Event, started, ended, is_fetched}
use Rattle.tree.specs.Tree.{rank_in}
use Rattle.books.specs.Invariant.{Good}
use Rattle.numbers.proofs.Tests.{same_or_not, or-none}
use Rattle.numbers.proofs.Sums.{Task}
use Rattle.numbers.proofs.Counts.{count-change}
use Rattle.tree.proofs.Orders.{within-task}
use Rattle.books.proofs.Entries.{at_set, at_other}
use Rattle.books.proofs.Sharing.{sharing-good}
use Rattle.rules.proofs.Log.{Logged, InOrder, logged-runs, ended-logged, ended-in-order, fetched-append}
use Rattle.rules.proofs.Formed.{Accepted, demand-none}
use Rattle.rules.proofs.InDay.{InDay, Going, closed, still-going, tree, needs-roomy, books-planned, proceed-in-day}
use Rattle.rules.proofs.Closing.{closes, closing}

-- one fewer runs
pub one_fewer :
    (n : ℕ) (st : List ℕ) (j : ℕ)
    → length st ≡ suc n
    → Task n j
    → at st j ≡ running
    → count n (at st) running ≡ count n (at (set st j finished)) running + 1
unfolding count
one_fewer n st j sized t runs =
    let there = at_set n st j finished sized t in
    count-change (λ i. eqb (at (set st j finished) i) running) (λ i. eqb (at st i) running) n j t
    (ne_eqb (at (set st j finished) j) running (λ q. omega arith)) (eq-eqb (at st j) running runs)
    (λ i _ d. ap (λ (v : ℕ). eqb v running) (sym (at_other st j finished i d)))

-- and one more has ended
pub one-more-ended :
    (n : ℕ) (st : List ℕ) (j : ℕ)
    → length st ≡ suc n
    → Task n j
    → at st j ≡ running
    → count n (at (set st j finished)) finished ≡ count n (at st) finished + 1
unfolding count
one-more-ended n st j sized t runs =
    count-change (λ i. eqb (at st i) finished) (λ i. eqb (at (set st j finished) i) finished) n j t
    (ne_eqb (at st j) finished (λ q. omega arith)) (eq-eqb (at (set st j finished) j) finished (at_set n st j finished sized t))
    (λ i _ d. ap (λ (v : ℕ). eqb v finished) (at_other st j finished i d))

module _ (s : State) (happened : List Event) (day : InDay s happened) (j : ℕ) (a : Accepted s (done j)) where
  task : Task s.size j
  unfolding in_limits
  task = within-task s.size j a.limits

  runs : at s.standings j ≡ running
  unfolding own_ground
  runs =
      eqb-true (at s.standings j) running
      (demand-none (eqb (at s.standings j) running) 6 0 (λ q. omega arith) a.own).0

  in-running : s.phase ≡ Phase.running
  unfolding in_turn
  in-running = eqb-true s.phase Phase.running a.turn

  -- the root has not ended
  going : Going s
  going = still-going s day.course in-running

  few : count s.size (at (Obey.ended s j).standings) running ≤ s.processors
  unfolding Obey.ended ended_standings
  few =
      let one = one_fewer s.size s.standings j going.settled.good.sized task runs in
      let all = going.settled.staffed in
      omega arith

  -- who has ended: j, and those that had
  ended-other : (i : ℕ) → (i ≡ j → ⊥) → at (Obey.ended s j).standings i ≡ at s.standings i
  unfolding Obey.ended ended_standings
  ended-other i d = at_other s.standings j finished i d

  logged : Logged s.size (at (Obey.ended s j).standings) (happened ++ (ended j ∷ []))
  unfolding Obey.ended ended_standings
  logged =
      ended-logged s.size s.standings going.settled.good.sized happened j task day.logged runs

  in_order : InOrder s.size (at s.parents) (happened ++ (ended j ∷ []))
  in_order =
      ended-in-order s.size (at s.parents) happened j day.order
      (logged-runs s.size (at s.standings) happened day.logged j task (omega (arith, runs))
      ∙ eq-eqb (at s.standings j) running runs)

  not-fetched : is_fetched (happened ++ (ended j ∷ [])) ≡ false
  unfolding is_fetched
  not-fetched =
      fetched-append happened (ended j ∷ [])
      ∙ or-none (is_fetched happened)
      ∙ day.fetch
      ∙ ne_eqb s.phase Phase.over (λ q. let r = in-running in omega arith)

  abbrev offers : ℕ
  offers = length (shared s j).offered

  -- what happens: j ends, and then the starts
  abbrev happens : List Event
  happens = happened ++ (ended j ∷ map started (obey s (done j)).started)

  -- a task with a parent: what it held is shared out, and the day goes on
  module _ (higher : at s.parents j ≡ 0 → ⊥) where
    good :
        Good s.size (at s.parents) (rank_in s.activation) (terms_of s) (Obey.ended s j)
    unfolding Obey.ended shared ended_standings
    good =
        sharing-good s.size (at s.parents) (rank_in s.activation) (tree s day.planned) (terms_of s)
        (λ d. needs-roomy s (store_of s d)) (books_of s) going.settled.good j task runs higher

    -- the root is another one
    still-unended : (r : ℕ) → Task s.size r → at s.parents r ≡ 0 → at (Obey.ended s j).standings r ≡ finished → ⊥
    still-unended r t root e =
        going.unended r t root (sym (ended-other r (λ q. higher (ap (at s.parents) (sym q) ∙ root))) ∙ e)

    runs_on : phase_after s j ≡ Phase.running
    unfolding phase_after
    runs_on = rw (ne_eqb (at s.parents j) 0 higher) refl

    goes_on : InDay (obey s (done j)).state happens
    unfolding obey
    goes_on =
        rw runs_on
        (subst (λ (l : List Event). InDay (proceed s Phase.running (Obey.ended s j) no_peaks offers).state l)
        (append_assoc happened (ended j ∷ []) (map started (proceed s Phase.running (Obey.ended s j) no_peaks offers).started))
        (proceed-in-day s day.planned (Obey.ended s j) no_peaks offers good few (happened ++ (ended j ∷ [])) logged in_order not-fetched
        still-unended))

  -- the root: its out remains, and all have ended
  stands : at s.parents j ≡ 0 → InDay (obey s (done j)).state happens
  unfolding with_books Obey.ended
  stands root =
      rw (closes s day.planned going j task runs root)
      (record {
        planned = books-planned s Phase.ready _ _ (omega arith) day.planned;
        course = closed false (closing s day.planned going j task runs root);
        logged = logged;
        order = in_order;
        fetch = not-fetched;
      })

  pub done-in-day : InDay (obey s (done j)).state happens
  done-in-day = ⊎_elim stands goes_on (same_or_not (at s.parents j) 0)
