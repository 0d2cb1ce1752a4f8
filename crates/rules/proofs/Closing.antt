-- The root ends: nobody waits and nobody is ready, so nothing is booked and nothing starts, and its out remains.
use mathlib.Core.Path.{◌≡◌, refl, sym, ap, ◌∙◌}
use mathlib.Core.Bool.{false}
use mathlib.Core.Logic.{⊎_elim}
use mathlib.Core.List.{List, [], ◌∷◌}
use Prim.Native.Nat.{ℕ, ◌-◌, ◌≤◌}
use native.Mathlib.Omega.{arith}
use lib.Dec.{eqb}
use lib.ListN.{length, set}
use lib.Seq.{drop-length}
use borrow.Author.Tests.{eq-eqb, ne_eqb}
use Rattle.books.specs.Kind.{Kind, Each, of, each}
use Rattle.numbers.specs.Lists.{at}
use Rattle.rules.specs.Phase
use Rattle.books.specs.Standing.{running, finished}
use Rattle.rules.specs.State.{State, store_of, needs_in}
use Rattle.format.specs.Command.{done}
use Rattle.numbers.specs.Sums.{within}
use Rattle.books.specs.Booking.{Books, Share, Climbed, total, activate, start, release, climb, dispatch}
use Rattle.tree.specs.Tree.{chain, rank_in}
use Rattle.rules.specs.Obey.{with_booked, with_books, terms_of, books_of, ahead, begun, proceed, ended_standings, shared, ended, phase_after, plain, obey, free}
use Rattle.books.specs.Invariant.{Stocked}
use Rattle.books.proofs.EachStore.{of-each, each_same}
use Rattle.numbers.proofs.Tests.{same_or_not}
use Rattle.numbers.proofs.Sums.{Task, sum-le, only-true, only-false}
use Rattle.tree.proofs.Orders.{within-task, mem-at, every-mem}
use Rattle.tree.proofs.Roots.{one-root}
use Rattle.books.proofs.Shape.{root-last}
use Rattle.tree.proofs.Tree.{chain-none}
use Rattle.books.proofs.Balance.{running-holds-need}
use Rattle.books.proofs.Finishing.{finishing-shape}
use Rattle.books.proofs.Branches.{passes-all, release-root}
use Rattle.books.proofs.Starts.{Startable, starts-startable}
use Rattle.books.proofs.Entries.{at_set, at_other, moved-by-set}
use Rattle.rules.proofs.InDay.{Planned, Going, Remaining, Closed, tree, needs-roomy}

-- nobody that has ended starts
no-starts :
    (n : ℕ) (par : ℕ → ℕ) (st l : List ℕ) → ((i : ℕ) → Task n i → at st i ≡ finished) → Startable n par st l → l ≡ []
unfolding Startable
no-starts n par st [] all may = refl
no-starts n par st (x ∷ l) all may = let e = all x may.0 in let b = may.1 in absurd (omega arith)

-- the plan once its root has ended: all have, and its out remains booked
abbrev pub ready_after : State → ℕ → State
ready_after s j =
    with_books s Phase.ready (ended_standings s j) (each (λ k. set (store_of s k).booked j (at (store_of s k).outs j)))

module _ (s : State) (p : Planned s) (going : Going s) (j : ℕ) (task : Task s.size j) (runs : at s.standings j ≡ running)
    (root : at s.parents j ≡ 0) where
  pub all-ended : (i : ℕ) → Task s.size i → at (ended_standings s j) i ≡ finished
  unfolding ended_standings
  all-ended =
      root-last s.size (at s.parents) (rank_in s.activation) (tree s p) (at (set s.standings j finished))
      (finishing-shape s.size (at s.parents) (rank_in s.activation) (tree s p) (at s.standings) _
      going.settled.good.shape j task runs
      (moved-by-set s.size s.standings j finished going.settled.good.sized task))
      p.rooted j task root (at_set s.size s.standings j finished going.settled.good.sized task)

  abbrev remaining : Kind → List ℕ
  remaining k = set (store_of s k).booked j (at (store_of s k).outs j)

  abbrev kept_in : Kind → Share
  kept_in k = record { left = at (store_of s k).booked j - at (store_of s k).outs j; booked = remaining k }

  -- nobody is above the root
  abbrev kept : Climbed
  kept = record { offered = []; share = each kept_in }

  shared-is : shared s j ≡ kept
  unfolding shared dispatch climb
  shared-is =
      ap
      (λ (l : List ℕ).
      climb s.size (at s.parents) (terms_of s) (at (ended_standings s j)) l
      (each (λ k. release (at s.parents) (at (store_of s k).outs) (of (books_of s).booked k) j)))
      (ap (chain s.size (at s.parents)) root ∙ chain-none s.size (at s.parents))
      ∙ ap (λ (h : Each Share). record { offered = []; share = h })
      (each_same (λ k. release (at s.parents) (at (store_of s k).outs) (of (books_of s).booked k) j) kept_in
      (λ k.
      ap (λ (b : List ℕ). release (at s.parents) (at (store_of s k).outs) b j) (of-each (λ d. (store_of s d).booked) k)
      ∙ release-root (at s.parents) (at (store_of s k).outs) (store_of s k).booked j (eq-eqb (at s.parents j) 0 root)))

  abbrev books : Books
  books = record { standings = ended_standings s j; booked = each remaining }

  ended_is : ended s j ≡ books
  unfolding ended
  ended_is =
      ap (λ (c : Climbed). record { standings = ended_standings s j; booked = each (λ k. (of c.share k).booked) }) shared-is

  -- nobody waits
  nobody-booked : ahead s books ≡ books
  unfolding ahead activate
  nobody-booked =
      passes-all s.size (at s.parents) (terms_of s) s.activation (length s.activation) books
      (λ e h w.
      let t =
      within-task s.size _
      (every-mem (λ i. within i s.size) s.activation _ p.valid.inside (mem-at s.activation e h))
      in
      let f = all-ended (at s.activation e) t in
      omega arith)
      ∙ ap (λ (l : List ℕ). activate s.size (at s.parents) (terms_of s) l books) (drop-length s.activation)

  -- nobody is ready
  nobody-starts : begun s books ≡ []
  unfolding begun
  nobody-starts =
      no-starts s.size (at s.parents) (ended_standings s j) _ all-ended
      (starts-startable s.size (at s.parents) s.execution p.formed.execution-inside
      (free s.size s.processors (ended_standings s j)) (ended_standings s j))

  phase_is : phase_after s j ≡ Phase.ready
  unfolding phase_after
  phase_is = rw (eq-eqb (at s.parents j) 0 root) refl

  pub closes : obey s (done j) ≡ plain (ready_after s j)
  unfolding obey proceed start
  closes =
      rw (shared-is, ended_is, phase_is, nobody-booked, nobody-starts) refl

  -- in each store
  module _ (k : Kind) where
    stock : Stocked s.size (at s.parents) (needs_in s (store_of s k)) (at (store_of s k).outs) (store_of s k).bound (at s.standings)
        (store_of s k).booked
    stock = rw (of-each (λ d. (store_of s d).booked) k) at (going.settled.good.stock k)

    -- what its trolley holds is within the places, since it held its need
    held : at (store_of s k).outs j ≤ at (store_of s k).booked j
    held =
        let exact =
        running-holds-need s.size (at s.parents) (rank_in s.activation) (tree s p) (needs_in s (store_of s k))
        (at (store_of s k).outs) (at s.standings) (at (store_of s k).booked) going.settled.good.shape stock.books j task runs
        in
        let room = needs-roomy s (store_of s k) j task in
        omega arith

    there : at (remaining k) j ≡ at (store_of s k).outs j
    there = at_set s.size (store_of s k).booked j (at (store_of s k).outs j) stock.sized task

    elsewhere : (i : ℕ) → (i ≡ j → ⊥) → at (remaining k) i ≡ at (store_of s k).booked i
    elsewhere i d = at_other (store_of s k).booked j (at (store_of s k).outs j) i d

    -- the others had ended, and hold nothing
    empty : (i : ℕ) → Task s.size i → (i ≡ j → ⊥) → at (remaining k) i ≡ 0
    unfolding ended_standings
    empty i t d =
        elsewhere i d
        ∙ stock.books.empty i t (sym (at_other s.standings j finished i d) ∙ all-ended i t)

    remains-then : Remaining (ready_after s j) (with_booked (store_of s k) (remaining k)) false
    unfolding with_books total
    remains-then =
        record {
          booked =
              λ i t.
              ⊎_elim
              (λ q. rw q (there ∙ sym (only-true (eqb (at s.parents j) 0) _ (eq-eqb (at s.parents j) 0 root))))
              (λ d.
              empty i t d
              ∙ sym
              (only-false (eqb (at s.parents i) 0) _
              (ne_eqb (at s.parents i) 0 (λ z. d (one-root s.size (at s.parents) p.rooted i j t task z root)))))
              (same_or_not i j);
          within =
              (let fewer =
              sum-le (at (remaining k)) (at (store_of s k).booked) s.size
              (λ i t.
              ⊎_elim (λ q. rw q (let h = held in let e = there in omega arith))
              (λ d. let e = elsewhere i d in omega arith) (same_or_not i j))
              in
              let w = stock.within in
              omega arith);
        }

  pub closing : Closed (ready_after s j) false
  unfolding with_books
  closing =
      record {
        phased = refl;
        all = all-ended;
        stock =
            λ k.
            rw
            (of-each (λ d. with_booked (store_of s d) (of (each remaining) d)) k, of-each remaining k) (remains-then k);
      }
