-- As long as the root has not ended somebody runs: where nobody did, the first waiting task would fit.
use mathlib.Core.Path.{◌≡◌}
use mathlib.Core.Bool.{true}
use mathlib.Core.Logic.{⊎_elim}
use Prim.Native.Nat.{ℕ, ◌+◌, ◌≤◌}
use native.Mathlib.Omega.{arith}
use lib.Dec.{eqb}
use borrow.Author.Tests.{eq-eqb, le-leb}
use Rattle.numbers.specs.Sums.{count_to}
use Rattle.numbers.specs.Lists.{at}
use Rattle.tree.specs.Peak.{peak}
use Rattle.books.specs.Standing.{activated, running, finished, count}
use Rattle.rules.specs.State.{Store, State, needs_in, store_of}
use Rattle.rules.specs.Grounds.{peak_in}
use Rattle.books.specs.Booking.{total, missing, misses, allows_in, allows, ready, fed}
use Rattle.tree.specs.Tree.{rank_in}
use Rattle.books.specs.Invariant.{Stocked}
use Rattle.rules.specs.Obey.{books_of, terms_of}
use Rattle.books.proofs.EachStore.{of-each, each_all}
use Rattle.numbers.proofs.Tests.{clash, same_or_not, and_both}
use Rattle.numbers.proofs.Sums.{Task, counted, none-counted}
use Rattle.tree.proofs.Ranks.{stands}
use Rattle.tree.proofs.Roots.{some-root}
use Rattle.books.proofs.Progress.{Stuck, waits-or-ended}
use Rattle.books.proofs.Waiting.{Found, first-waiting, found_first, found-fits}
use Rattle.books.proofs.Starts.{children-fed}
use Rattle.rules.proofs.InDay.{Planned, Going, needs-roomy, tree}

-- the root has not ended
module _ (s : State) (planned : Planned s) (going : Going s) where
  -- where nobody runs, nobody can start: processors are free
  stuck : count s.size (at s.standings) running ≡ 0 → Stuck s.size (at s.parents) (at s.standings)
  unfolding count ready
  stuck none =
      record {
        idle =
            λ i t e.
            clash (eq-eqb (at s.standings i) running e)
            (none-counted (λ k. eqb (at s.standings k) running) s.size none i t);
        unfed =
            λ i t e children.
            let p = planned.staffed in
            clash
            (and_both (eqb (at s.standings i) activated) (fed s.size (at s.parents) (at s.standings) i)
            (eq-eqb (at s.standings i) activated e)
            (children-fed s.size (at s.parents) (at s.standings) i children))
            (going.settled.busy (omega arith) i t);
      }

  -- where nobody runs, the first waiting task would fit in a store
  fits-there :
      (store : Store)
      → Stocked s.size (at s.parents) (needs_in s store) (at store.outs) store.bound (at s.standings) store.booked
      → peak s.size (at s.parents) (at store.works) (at store.outs) s.activation ≤ store.bound
      → count s.size (at s.standings) running ≡ 0
      → (found : Found (at s.standings) s.activation)
      → total s.size (at store.booked)
      + missing s.size (at s.parents) (needs_in s store) (at s.standings) (at store.booked) found.x
      ≤ store.bound
  fits-there store stock bound none found =
      let fits =
      found-fits s.size (at s.parents) s.activation planned.valid (tree s planned) (at s.standings)
      going.settled.good.shape found (stuck none) (at store.works) (at store.outs) (at store.booked)
      (needs-roomy s store) stock.books
      in
      omega arith

  -- the first waiting task would fit, and it does not; so all have ended
  stuck_at : count s.size (at s.standings) running ≡ 0 → Found (at s.standings) s.activation → ⊥
  unfolding allows allows_in misses peak_in
  stuck_at none found =
      clash
      (each_all (allows_in s.size (at s.parents) (terms_of s) (books_of s) found.x)
      (λ k.
      rw (of-each (λ d. (store_of s d).booked) k)
      (le-leb _ (store_of s k).bound
      (fits-there (store_of s k) (rw (of-each (λ d. (store_of s d).booked) k) at (going.settled.good.stock k)) (planned.fits k) none found))))
      (going.settled.halted found.x
      (found_first s.size (at s.parents) s.activation planned.valid (tree s planned) (at s.standings)
      going.settled.good.shape found))

  nobody-runs : count s.size (at s.standings) running ≡ 0 → (i : ℕ) → Task s.size i → at s.standings i ≡ finished
  nobody-runs none i t =
      ⊎_elim (λ found. absurd (stuck_at none found))
      (λ busy.
      waits-or-ended s.size (at s.parents) (rank_in s.activation) (tree s planned) (at s.standings)
      going.settled.good.shape (stuck none) i t
      (busy i (stands s.size (at s.parents) s.activation planned.valid i t)))
      (first-waiting (at s.standings) s.activation)

  -- the root has not
  pub not-all : ((i : ℕ) → Task s.size i → at s.standings i ≡ finished) → ⊥
  not-all all =
      let r = some-root s.size (at s.parents) planned.rooted in going.unended r.0 r.1 r.2 (all r.0 r.1)

  -- so somebody runs
  pub somebody-runs : (i : ℕ) × Task s.size i × (eqb (at s.standings i) running ≡ true)
  unfolding count
  somebody-runs =
      counted (λ i. eqb (at s.standings i) running) s.size
      (⊎_elim
      (λ (none : count_to (λ i. eqb (at s.standings i) running) s.size ≡ 0). absurd (not-all (nobody-runs none)))
      (λ d. omega arith)
      (same_or_not (count_to (λ i. eqb (at s.standings i) running) s.size) 0))
