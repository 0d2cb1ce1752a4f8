-- What is promised of a store in a day follows from what is kept of it.
use mathlib.Core.Path.{◌≡◌, refl, sym, ap, ap₂, ◌∙◌}
use mathlib.Core.Bool.{Bool, true, false, not, ◌&&◌}
use mathlib.Core.List.{List}
use Prim.Native.Nat.{ℕ, ◌+◌}
use native.Mathlib.Nat.{zero-add}
use native.Mathlib.Omega.{arith}
use lib.Dec.{eqb}
use borrow.Author.Tests.{eqb-true, eq-eqb, ne_eqb, le-leb}
use Rattle.books.specs.Kind.{Kind}
use Rattle.numbers.specs.Sums.{only, sum_to}
use Rattle.numbers.specs.Lists.{at, mem}
use Rattle.tree.specs.Need
use Rattle.rules.specs.Phase
use Rattle.books.specs.Standing.{running, finished}
use Rattle.rules.specs.State.{Store, State, needs_in, store_of}
use Rattle.books.specs.Booking.{total}
use Rattle.rules.specs.Question
use Rattle.rules.specs.Day.{Event, starts, ends, runs}
use Rattle.theorem.specs.Theorem.{used_by, StoreHolds}
use Rattle.tree.specs.Tree.{rank_in}
use Rattle.books.specs.Invariant.{Stocked}
use Rattle.books.proofs.EachStore.{of-each}
use Rattle.numbers.proofs.Sums.{Task, sum-cong, only-true}
use Rattle.tree.proofs.Peaks.{resident-cong}
use Rattle.tree.proofs.Tree.{parent-task}
use Rattle.books.proofs.Balance.{running-holds-need}
use Rattle.books.proofs.Usage.{has_ended, has_begun, in-process-within}
use Rattle.books.proofs.Questions.{runs_or_ended, in-process-named}
use Rattle.rules.proofs.Log.{logged-runs}
use Rattle.tree.proofs.Trolley.{remains, no-trolley, all-trolley, none-in-process, root-remains, nothing-remains}
use Rattle.rules.proofs.InDay.{Going, Remaining, Course, goes, closed, InDay, four-standings, tree}

module _ (s : State) (happened : List Event) (day : InDay s happened) where
  -- a task runs by what happened just where its standing says so
  pub runs-is : (i : ℕ) → Task s.size i → runs happened i ≡ eqb (at s.standings i) running
  runs-is i t =
      logged-runs s.size (at s.standings) happened day.logged i t (four-standings s day.course i t)

  -- nobody runs once all have ended
  pub nobody-then :
      ((i : ℕ) → Task s.size i → at s.standings i ≡ finished)
      → (i : ℕ)
      → Task s.size i
      → runs happened i ≡ true
      → ⊥
  nobody-then all i t r =
      let e = all i t in let q = eqb-true (at s.standings i) running (sym (runs-is i t) ∙ r) in omega arith

  -- trays in use by what happened, and by the standings
  module _ (store : Store) where
    abbrev in_process_with : (ℕ → Bool) → ℕ
    in_process_with begun =
        Need.in_process s.size (at s.parents) (at store.works) (at store.outs) (has_ended (at s.standings)) begun

    abbrev trolley_of : Bool → ℕ
    trolley_of gone = Need.trolley s.size (at s.parents) (at store.outs) (has_ended (at s.standings)) gone

    -- what is answered: "0 outside running", and in ready "as in running"
    abbrev answered : ℕ → ℕ
    answered v = only (Phase.holds_trays s.phase) v

    abbrev answered_in_use : ℕ
    answered_in_use = answered (in_process_with (runs_or_ended (at s.standings)) + trolley_of false)

    abbrev answered_booked : ℕ
    answered_booked = answered (total s.size (at store.booked))

    used-is : used_by s store happened ≡ in_process_with (has_begun (at s.standings)) + trolley_of (eqb s.phase Phase.over)
    unfolding used_by Need.in_use Need.in_process Need.trolley
    used-is =
        let t = tree s day.planned in
        ap₂ (λ (a b : ℕ). a + b)
        (ap₂ (λ (a b : ℕ). a + b)
        (sum-cong (λ i. only (mem i (starts happened) && not (mem i (ends happened))) (needs_in s store i))
        (λ i. only (has_begun (at s.standings) i && not (has_ended (at s.standings) i)) (needs_in s store i)) s.size
        (λ i u.
        ap₂ (λ (a b : Bool). only (a && not b) (needs_in s store i)) (day.logged.begun i u) (day.logged.done i u)))
        (resident-cong s.size (at s.parents) (at store.outs) (λ i. mem i (ends happened)) (has_ended (at s.standings))
        (λ i. mem i (starts happened)) (has_begun (at s.standings)) (λ i u. day.logged.done i u)
        (λ i u d.
        day.logged.begun (at s.parents i) (parent-task s.size (at s.parents) (rank_in s.activation) t i u d))))
        (ap₂ (λ (gone : Bool) (v : ℕ). only (not gone) v) day.fetch
        (sum-cong (λ i. only (mem i (ends happened) && eqb (at s.parents i) 0) (at store.outs i))
        (λ i. only (has_ended (at s.standings) i && eqb (at s.parents i) 0) (at store.outs i)) s.size
        (λ i u.
        ap (λ (b : Bool). only (b && eqb (at s.parents i) 0) (at store.outs i)) (day.logged.done i u))))

    -- the same by the names of the standings
    by_names : in_process_with (runs_or_ended (at s.standings)) ≡ in_process_with (has_begun (at s.standings))
    by_names =
        in-process-named s.size (at s.parents) (at store.works) (at store.outs) (at s.standings)
        (four-standings s day.course) (λ i _. day.planned.formed.given.parents.limited i)

    -- while the root has not ended
    module _ (going : Going s)
        (stock : Stocked s.size (at s.parents) (needs_in s store) (at store.outs) store.bound (at s.standings) store.booked) where
      holds_then : Phase.holds_trays s.phase ≡ true
      unfolding Phase.holds_trays
      holds_then = rw going.phased refl

      no-trolley-then : (gone : Bool) → trolley_of gone ≡ 0
      no-trolley-then gone =
          no-trolley s.size (at s.parents) (at store.outs) (has_ended (at s.standings)) gone
          (λ r t root. ne_eqb (at s.standings r) finished (going.unended r t root))

      used-then : answered_in_use ≡ in_process_with (has_begun (at s.standings))
      used-then =
          only-true (Phase.holds_trays s.phase) _ holds_then
          ∙ (let z = no-trolley-then false in let n = by_names in omega arith)

      booked-then : answered_booked ≡ total s.size (at store.booked)
      booked-then = only-true (Phase.holds_trays s.phase) _ holds_then

      going-holds : StoreHolds s happened store answered_booked answered_in_use
      going-holds =
          record {
            used =
                (let u = used-is in let v = used-then in let z = no-trolley-then (eqb s.phase Phase.over) in omega arith);
            summed = booked-then;
            covered =
                (let u = used-then in
                let b = booked-then in
                let w =
                in-process-within s.size (at s.parents) (rank_in s.activation) (tree s day.planned) (at store.works)
                (at store.outs) (at s.standings) (at store.booked) going.settled.good.shape stock.books
                in
                omega arith);
            within = (let b = booked-then in let w = stock.within in omega arith);
            exact =
                λ i t r.
                running-holds-need s.size (at s.parents) (rank_in s.activation) (tree s day.planned) (needs_in s store)
                (at store.outs) (at s.standings) (at store.booked) going.settled.good.shape stock.books i t
                (eqb-true (at s.standings i) running (sym (runs-is i t) ∙ r));
            remains = λ q. let p = going.phased in absurd (omega arith);
            unloaded = λ q. let p = going.phased in absurd (omega arith);
          }

    -- once all have ended
    module _ (all : (i : ℕ) → Task s.size i → at s.standings i ≡ finished) where
      ended-then : (i : ℕ) → Task s.size i → has_ended (at s.standings) i ≡ true
      ended-then i t = eq-eqb (at s.standings i) finished (all i t)

      nothing-in-process : in_process_with (has_begun (at s.standings)) ≡ 0
      nothing-in-process =
          none-in-process s.size (at s.parents) (at store.outs) (has_ended (at s.standings)) ended-then
          (at store.works) (has_begun (at s.standings))
          (λ i t. let e = all i t in le-leb running (at s.standings i) (omega arith)) (λ i _. day.planned.formed.given.parents.limited i)

      trolley-then : (gone : Bool) → trolley_of gone ≡ sum_to (remains (at s.parents) (at store.outs) gone) s.size
      trolley-then gone =
          all-trolley s.size (at s.parents) (at store.outs) (has_ended (at s.standings)) ended-then gone

      module _ {gone : Bool} (remain : Remaining s store gone) where
        booked_is : total s.size (at store.booked) ≡ sum_to (remains (at s.parents) (at store.outs) gone) s.size
        unfolding total
        booked_is = sum-cong (at store.booked) (remains (at s.parents) (at store.outs) gone) s.size remain.booked

      -- the trolley stands
      module _ (phased : s.phase ≡ Phase.ready) (remain : Remaining s store false) where
        all-answered : (v : ℕ) → answered v ≡ v
        unfolding Phase.holds_trays
        all-answered v = rw phased refl

        used-loaded : answered_in_use ≡ trolley_of false
        used-loaded =
            all-answered _ ∙ (let z = nothing-in-process in let n = by_names in omega arith)

        booked-loaded : answered_booked ≡ trolley_of false
        booked-loaded = all-answered _ ∙ booked_is remain ∙ sym (trolley-then false)

        root-loaded : (r : ℕ) → Task s.size r → at s.parents r ≡ 0 → trolley_of false ≡ at store.outs r
        root-loaded r t root =
            trolley-then false ∙ root-remains s.size (at s.parents) (at store.outs) day.planned.rooted r t root

        loaded-holds : StoreHolds s happened store answered_booked answered_in_use
        loaded-holds =
            record {
              used =
                  used-loaded
                  ∙ sym
                  (used-is
                  ∙ ap₂ (λ (v : ℕ) (gone : Bool). v + trolley_of gone) nothing-in-process
                  (ne_eqb s.phase Phase.over (λ q. omega arith))
                  ∙ zero-add (trolley_of false));
              summed = all-answered _;
              covered = (let u = used-loaded in let b = booked-loaded in omega arith);
              within = (let b = all-answered (total s.size (at store.booked)) in let w = remain.within in omega arith);
              exact = λ i t r. absurd (nobody-then all i t r);
              remains = λ _ r t root. (booked-loaded ∙ root-loaded r t root, used-loaded ∙ root-loaded r t root);
              unloaded = λ q. absurd (omega arith);
            }

      -- it is fetched
      module _ (phased : s.phase ≡ Phase.over) (remain : Remaining s store true) where
        none-answered : (v : ℕ) → answered v ≡ 0
        unfolding Phase.holds_trays
        none-answered v = rw phased refl

        nothing-booked : total s.size (at store.booked) ≡ 0
        nothing-booked = booked_is remain ∙ nothing-remains s.size (at s.parents) (at store.outs)

        freed-holds : StoreHolds s happened store answered_booked answered_in_use
        freed-holds =
            record {
              used =
                  none-answered _
                  ∙ sym
                  (used-is
                  ∙ ap₂ (λ (v : ℕ) (gone : Bool). v + trolley_of gone) nothing-in-process (eq-eqb s.phase Phase.over phased)
                  ∙ zero-add (trolley_of true)
                  ∙ trolley-then true
                  ∙ nothing-remains s.size (at s.parents) (at store.outs));
              summed = none-answered _ ∙ sym nothing-booked;
              covered =
                  (let u = none-answered (in_process_with (runs_or_ended (at s.standings)) + trolley_of false) in omega arith);
              within = (let b = none-answered (total s.size (at store.booked)) in omega arith);
              exact = λ i t r. absurd (nobody-then all i t r);
              remains = λ q. absurd (omega arith);
              unloaded = λ _. (none-answered _, none-answered _);
            }

  -- what is kept of a store
  stocked-in :
      Going s
      → (k : Kind)
      → Stocked s.size (at s.parents) (needs_in s (store_of s k)) (at (store_of s k).outs) (store_of s k).bound (at s.standings)
      (store_of s k).booked
  stocked-in g k = rw (of-each (λ d. (store_of s d).booked) k) at (g.settled.good.stock k)

  pub store-holds :
      Course s → (k : Kind) → StoreHolds s happened (store_of s k) (answered_booked (store_of s k)) (answered_in_use (store_of s k))
  store-holds (goes g) k = going-holds (store_of s k) g (stocked-in g k)
  store-holds (closed false c) k = loaded-holds (store_of s k) c.all c.phased (c.stock k)
  store-holds (closed true c) k = freed-holds (store_of s k) c.all c.phased (c.stock k)

  -- what is answered for trays in use while the root has not ended
  pub in-use-going :
      Going s
      → (k : Kind)
      → Question.in_use_in s k
      ≡ Need.in_process s.size (at s.parents) (at (store_of s k).works) (at (store_of s k).outs) (has_ended (at s.standings))
      (has_begun (at s.standings))
  unfolding Question.in_use_in Need.in_use
  in-use-going g k = used-then (store_of s k) g (stocked-in g k)
