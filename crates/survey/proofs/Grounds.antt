-- Grounds 7 and 8, by the count of late tasks: the ranks are the places in the order.
use mathlib.Core.Path.{◌≡◌, sym, ap, ◌∙◌}
use mathlib.Core.Bool.{true, false, not}
use mathlib.Core.List.{List}
use Prim.Native.Nat.{ℕ, ◌≤◌, ◌<◌}
use native.Mathlib.Omega.{arith}
use lib.Dec.{eqb, leb}
use borrow.Author.Tests.{eq-eqb, eqb-true, eqb-false, leb-true, leb-false, ne_eqb, not-true}
use Rattle.numbers.specs.Sums.{Task, count_to, within}
use Rattle.numbers.specs.Lists.{mem, place}
use Rattle.rules.specs.Grounds.{demand}
use Rattle.tree.specs.Tree.{roots, ordered, Valid}
use Rattle.numbers.proofs.Tests.{fails, and-true}
use Rattle.numbers.proofs.Sums.{none-counted, counted, count-le}
use Rattle.tree.proofs.Orders.{place-lt, place_at, within-task, every-mem, all_in, ordered-rises, rises-ordered}
use Rattle.rules.proofs.Formed.{demand-none}
use Rattle.store.specs.Cached.{Placed}
use Rattle.survey.specs.Checks.{Parented, is_late}
use Rattle.survey.specs.Survey.{order_ground}

-- 7
pub ground-roots : (n : ℕ) (par : ℕ → ℕ) (order : List ℕ) → (roots n par ≡ 1 → ⊥) → 7 ≡ order_ground n par order
unfolding order_ground
ground-roots n par order other = rw (ne_eqb (roots n par) 1 other)

-- a task that is not late has no parent, or one of a higher rank
not_late : (par rank : ℕ → ℕ) (i : ℕ) → is_late par rank i ≡ false → (par i ≡ 0 → ⊥) → rank i < rank (par i)
unfolding is_late
not_late par rank i e child = leb-false (rank (par i)) (rank i) (rw (ne_eqb (par i) 0 child) at e)

-- a late one has a parent, of no higher rank
is-late : (par rank : ℕ → ℕ) (i : ℕ) → is_late par rank i ≡ true → (par i ≡ 0 → ⊥) × (rank (par i) ≤ rank i)
unfolding is_late
is-late par rank i e =
    let both = and-true (not (eqb (par i) 0)) (leb (rank (par i)) (rank i)) e in
    (eqb-false (par i) 0 (not-true (eqb (par i) 0) both.0), leb-true (rank (par i)) (rank i) both.1)

module _ (n : ℕ) (par rank : ℕ → ℕ) (order : List ℕ) (parented : Parented n par) (ranked : Placed n order rank) where
  stands : (i : ℕ) → Task n i → mem i order ≡ true
  stands = all_in n order ranked.inside ranked.once ranked.whole

  -- the rank of a task is its place
  rank_is : (i : ℕ) → Task n i → rank i ≡ place i order
  rank_is i t =
      let e = stands i t in
      ap rank (sym (place_at i order e))
      ∙ ranked.placed (place i order) (let low = place-lt i order e in let all = ranked.whole in omega arith)

  -- a parent is a task
  parent-task : (i : ℕ) → Task n i → (par i ≡ 0 → ⊥) → Task n (par i)
  parent-task i t child = let small = parented.inside i t in record { low = omega arith; high = small }

  -- where no task is late, each stands before its parent
  none-late : count_to (is_late par rank) n ≡ 0 → ordered par order ≡ true
  none-late none =
      rises-ordered par order ranked.once
      (λ x e child.
      let task : Task n x = within-task n x (every-mem (λ i. within i n) order x ranked.inside e) in
      let up = parent-task x task child in
      let above = not_late par rank x (none-counted (is_late par rank) n none x task) child in
      let own = rank_is x task in
      let its = rank_is (par x) up in
      record { member = stands (par x) up; rises = omega arith })

  -- where one is late, it does not
  some-late : (count_to (is_late par rank) n ≡ 0 → ⊥) → ordered par order ≡ false
  some-late some =
      let found = counted (is_late par rank) n (omega arith) in
      let x : ℕ = found.0 in
      let task : Task n x = found.1 in
      let lag = is-late par rank x found.2 in
      let own = rank_is x task in
      let its = rank_is (par x) (parent-task x task lag.0) in
      fails (ordered par order)
      (λ o.
      let up = ordered-rises par order x o ranked.once (stands x task) lag.0 in
      omega (arith, up.rises, lag.1))

  -- 8
  pub ground-late : roots n par ≡ 1 → (count_to (is_late par rank) n ≡ 0 → ⊥) → 8 ≡ order_ground n par order
  unfolding order_ground
  ground-late one some = rw (eq-eqb (roots n par) 1 one, some-late some)

  -- none
  pub ground-none : roots n par ≡ 1 → count_to (is_late par rank) n ≡ 0 → 0 ≡ order_ground n par order
  unfolding order_ground
  ground-none one none = rw (eq-eqb (roots n par) 1 one, none-late none)

  -- where there is none, there is a task, the root, and the order is valid
  pub no-ground : order_ground n par order ≡ 0 → (1 ≤ n) × Valid n par order
  unfolding order_ground roots
  no-ground none =
      let rooted = demand-none (eqb (roots n par) 1) 7 (demand (ordered par order) 8 0) (λ q. omega arith) none in
      let upward = demand-none (ordered par order) 8 0 (λ q. omega arith) rooted.1 in
      let one = eqb-true (roots n par) 1 rooted.0 in
      let few = count-le (λ i. eqb (par i) 0) n in (
        omega arith,
        record { inside = ranked.inside; once = ranked.once; whole = ranked.whole; upward = upward.0 },
      )
