-- The next task to be booked is the first that waits, and what it lacks is what the rules say.
use mathlib.Core.Path.{◌≡◌, sym, ap, ap₂, ◌∙◌}
use mathlib.Core.Logic.{⊎_elim}
use Prim.Native.Nat.{ℕ, ◌+◌, ◌-◌, ◌≤◌, ◌<◌}
use native.Mathlib.Omega.{arith}
use Rattle.books.specs.Kind.{chilled}
use Rattle.numbers.specs.Sums.{Task}
use Rattle.numbers.specs.Lists.{at}
use Rattle.rules.specs.Phase
use Rattle.books.specs.Standing.{waiting}
use Rattle.rules.specs.Reachable.{Reachable}
use Rattle.books.specs.Booking.{misses}
use Rattle.tree.specs.Tree.{rank_in}
use Rattle.whys.specs.Why.{first_waiting, lack_in}
use Rattle.numbers.proofs.Tests.{le-or-lt}
use Rattle.tree.proofs.Orders.{place_at}
use Rattle.tree.proofs.Ranks.{stands, tree_of}
use Rattle.whys.proofs.Why.{first-is}
use Rattle.words.specs.Contents.{Contents}
use Rattle.words.proofs.Contents.{Lengths}
use Rattle.store.specs.Rows.{books, activation_of}
use Rattle.store.specs.Kept.{Kept}
use Rattle.store.proofs.InStore.{cached-in, total-within}
use Rattle.booking.proofs.Turn.{next-is-first, misses-it}
use Rattle.booking.proofs.Booking.{turn, next_task, lacking}
use Rattle.answer.specs.Meaning.{meaning}
use Rattle.answer.specs.Sound.{Sound}
use Rattle.answer.proofs.Meant.{in-running, parents-meant, standings-rows, booked-rows, needs-meant, activation-meant, still_kept}

module _ (c : Contents) (reached : Reachable (meaning c)) (sound : Sound c) (now : c.phase ≡ Phase.running) (sizes : Lengths c) where
  day : Phase.running ≤ c.phase
  day = in-running c sound now

  kept : Kept c
  kept = still_kept c reached sound now

  -- what is booked is within the bound
  pub within-bound : c.stores.chilled.total ≤ c.stores.chilled.bound
  within-bound = total-within kept chilled

  module _ (more : c.next < c.size) where
    pub next-first : first_waiting (meaning c) ≡ next_task c
    unfolding first_waiting
    next-first =
        rw (activation-meant c sound day, standings-rows c sound day)
        (first-is c.size (at c.parents) (activation_of c) kept.invariant.valid (at (books c).standings) (next_task c)
        (next-is-first (turn kept sizes more)))

    pub next-lack : lack_in (meaning c) (meaning c).stores.chilled (next_task c) ≡ c.stores.chilled.total + lacking c chilled - c.stores.chilled.bound
    unfolding lack_in misses
    next-lack =
        rw (needs-meant c sound now, parents-meant c sound, standings-rows c sound day, booked-rows c sound day)
        (ap₂ (λ (b m : ℕ). b + m - c.stores.chilled.bound) (sym (cached-in kept chilled).totals) (misses-it (turn kept sizes more) chilled))

  -- where a task waits there is a next one
  pub some-waits : (i : ℕ) → Task c.size i → at (meaning c).standings i ≡ waiting → c.next < c.size
  some-waits i t w =
      let valid = kept.invariant.valid in
      let there = place_at i (activation_of c) (stands c.size (at c.parents) (activation_of c) valid i t) in
      let low = (tree_of c.size (at c.parents) (activation_of c) valid (λ j _. kept.invariant.parents j)).below i t in
      ⊎_elim
      (λ (h : c.size ≤ c.next).
      absurd
      (kept.cached.reached.before_next (rank_in (activation_of c) i) (omega arith)
      (ap (at (books c).standings) there ∙ rw (standings-rows c sound day) at w)))
      (λ (h : c.next < c.size). h)
      (le-or-lt c.size c.next)
