-- Chains of parents that reach the root: each does so among the first n tasks, and its length gives a rank that rises to the root.
use mathlib.Core.Path.{◌≡◌, refl, sym, ap, ◌∙◌}
use mathlib.Core.Bool.{true}
use mathlib.Core.Logic.{⊎_elim}
use mathlib.Core.List.{List, [], ◌∷◌}
use Prim.Native.Nat.{ℕ, zero, suc, ◌-◌, ◌≤◌, ◌<◌}
use native.Mathlib.Omega.{arith}
use lib.ListN.{length}
use Rattle.numbers.specs.Sums.{Task}
use Rattle.numbers.specs.Lists.{mem, distinct, place}
use Rattle.tree.specs.Tree.{chain, Tree}
use Rattle.numbers.proofs.Tests.{clash, fails, same_or_not}
use Rattle.tree.proofs.Orders.{nobody, mem-one, mem-here, mem-more, mem-rest, every-within, distinct_more, place_here, place-later, length-within}
use Rattle.tree.proofs.Tree.{chain_more, up-nobody}

-- k and so many tasks above it
unfoldable way : (par : ℕ → ℕ) (far k : ℕ) → List ℕ
way par zero k = k ∷ []
way par (suc far) k = k ∷ way par far (par k)

way_long : (par : ℕ → ℕ) (far k : ℕ) → length (way par far k) ≡ suc far
unfolding way
way_long par zero k = refl
way_long par (suc far) k = ap suc (way_long par far (par k))

module _ (par : ℕ → ℕ) (r : ℕ) where
  -- so many parents on from k stands r, and not before
  unfoldable Comes : ℕ → ℕ → Type 0
  Comes zero k = k ≡ r
  Comes (suc far) k = (k ≡ r → ⊥) × (k ≡ 0 → ⊥) × Comes far (par k)

  -- only one number of parents does
  comes-once : (far far' k : ℕ) → Comes far k → Comes far' k → far ≡ far'
  unfolding Comes
  comes-once zero zero k c d = refl
  comes-once zero (suc far') k c d = absurd (d.0 c)
  comes-once (suc far) zero k c d = absurd (c.0 d)
  comes-once (suc far) (suc far') k c d = ap suc (comes-once far far' (par k) c.2 d.2)

  -- who has r on its chain comes to it
  chain-comes : (most k : ℕ) → mem r (chain most par k) ≡ true → (far : ℕ) × Comes far k
  unfolding Comes chain
  chain-comes zero k e = absurd (nobody r e)
  chain-comes (suc most) k e =
      ⊎_elim (λ z. absurd (clash e (up-nobody (suc most) par r k z)))
      (λ d.
      ⊎_elim (λ q. (0, sym q))
      (λ o.
      let rest = chain-comes most (par k) (mem-rest r k (chain most par (par k)) (rw (chain_more most par k d) at e) o) in
      (suc rest.0, ((λ q. o (sym q)), d, rest.1)))
      (same_or_not r k))
      (same_or_not k 0)

  -- and r stands that far on each chain that is long enough
  comes-chain :
      (far most k : ℕ)
      → 1 ≤ r
      → Comes far k
      → far < most
      → (mem r (chain most par k) ≡ true) × (place r (chain most par k) ≡ far)
  unfolding Comes
  comes-chain far zero k some c h = absurd (omega arith)
  comes-chain zero (suc most) k some c h =
      rw (chain_more most par k (λ z. omega arith))
      (mem-here r k (chain most par (par k)) (sym c), place_here r k (chain most par (par k)) (sym c))
  comes-chain (suc far) (suc most) k some c h =
      let rest = comes-chain far most (par k) some c.2 (omega arith) in
      rw (chain_more most par k c.1) (
        mem-more r k (chain most par (par k)) rest.0,
        place-later r k (chain most par (par k)) (λ q. c.0 (sym q)) ∙ ap suc rest.1,
      )

  -- each on the way to r comes to it no later
  way-comes : (far k x : ℕ) → Comes far k → mem x (way par far k) ≡ true → (far' : ℕ) × (far' ≤ far) × Comes far' x
  unfolding way Comes
  way-comes zero k x c e =
      (0, omega arith, mem-one x k e ∙ c)
  way-comes (suc far) k x c e =
      ⊎_elim (λ q. (suc far, omega arith, rw q c))
      (λ d.
      let rest = way-comes far (par k) x c.2 (mem-rest x k (way par far (par k)) e d) in
      (rest.0, omega (arith, rest.1), rest.2))
      (same_or_not x k)

  -- so none stands there twice
  way-once : (far k : ℕ) → Comes far k → distinct (way par far k) ≡ true
  unfolding way Comes distinct mem
  way-once zero k c = refl
  way-once (suc far) k c =
      distinct_more k (way par far (par k))
      (fails (mem k (way par far (par k)))
      (λ e.
      let back = way-comes far (par k) k c.2 e in
      omega (arith, back.1, comes-once (suc far) back.0 k c back.2)))
      (way-once far (par k) c.2)

-- how far a task is from r, counted down from n
abbrev pub nearness : (n : ℕ) (par : ℕ → ℕ) (r : ℕ) → ℕ → ℕ
nearness n par r i = n - suc (place r (chain n par i))

-- of n tasks, where r is one
module _ (n : ℕ) (par : ℕ → ℕ) (inside : (i : ℕ) → Task n i → par i ≤ n) (r : ℕ) (task : Task n r) where
  -- each on the way to it is a task
  way-tasks : (far k x : ℕ) → Task n k → Comes par r far k → mem x (way par far k) ≡ true → Task n x
  unfolding way Comes
  way-tasks zero k x t c e =
      rw (mem-one x k e) t
  way-tasks (suc far) k x t c e =
      ⊎_elim (λ q. rw q t)
      (λ d.
      let low = inside k t in
      way-tasks far (par k) x (record { low = some far (par k) c.2; high = low }) c.2
      (mem-rest x k (way par far (par k)) e d))
      (same_or_not x k)
    where
      some : (far k : ℕ) → Comes par r far k → 1 ≤ k
      some zero k c = omega arith
      some (suc far) k c = let d = c.1 in omega arith

  -- the way has no more than n tasks
  comes-soon : (far k : ℕ) → Task n k → Comes par r far k → far < n
  comes-soon far k t c =
      omega (
        arith,
        way_long par far k,
        length-within n (way par far k)
            (every-within n (way par far k) (λ x e. way-tasks far k x t c e))
            (way-once par r far k c),
      )

  -- so a chain that reaches r does so among the first n
  pub reaches-soon : (most k : ℕ) → Task n k → mem r (chain most par k) ≡ true → mem r (chain n par k) ≡ true
  reaches-soon most k t e =
      let c = chain-comes par r most k e in
      (comes-chain par r c.0 n k task.low c.1 (comes-soon c.0 k t c.1)).0

  -- where r is the root, and each task reaches it
  module _ (root : par r ≡ 0) (reached : (i : ℕ) → Task n i → mem r (chain n par i) ≡ true) where
    -- a child is one task further from it than its parent
    pub one_further :
        (i : ℕ)
        → Task n i
        → (par i ≡ 0 → ⊥)
        → (place r (chain n par i) ≡ suc (place r (chain n par (par i)))) × (place r (chain n par i) < n)
    unfolding Comes
    one_further i t d = let c = chain-comes par r n i (reached i t) in go c.0 c.1
      where
        go : (far : ℕ)
            → Comes par r far i
            → (place r (chain n par i) ≡ suc (place r (chain n par (par i)))) × (place r (chain n par i) < n)
        go zero c = absurd (d (ap par c ∙ root))
        go (suc far) c =
            let soon = comes-soon (suc far) i t c in
            let here = (comes-chain par r (suc far) n i task.low c soon).1 in
            let above = (comes-chain par r far n (par i) task.low c.2 (omega arith)).1 in
            (omega arith, omega arith)

    -- so the nearness rises towards it
    pub reached-tree : Tree n par (nearness n par r)
    reached-tree =
        record {
          within = inside;
          rises = λ i t d. let f = one_further i t d in omega (arith, f.0, f.1);
          below = λ i t. let high = t.high in let low = t.low in omega arith;
        }
