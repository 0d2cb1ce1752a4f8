-- Subtrees are nested or apart.
use mathlib.Core.Path.{◌≡◌, sym, ap, ◌∙◌}
use mathlib.Core.Bool.{true}
use mathlib.Core.Logic.{◌⊎◌, inl, inr, ⊎_elim}
use Prim.Native.Nat.{ℕ, zero, suc, ◌+◌, ◌≤◌}
use native.Mathlib.Omega.{arith}
use lib.Dec.{eqb}
use borrow.Author.Tests.{eqb-true}
use Rattle.numbers.specs.Sums.{Task}
use Rattle.tree.specs.Tree.{roots, Tree, up}
use Rattle.numbers.proofs.Tests.{clash, same_or_not, or_cases, or_right}
use Rattle.tree.proofs.Tree.{parent-task, up-nobody, up_step, up-self, not-above-itself}
use Rattle.tree.proofs.Roots.{one-root}

module _ (n : ℕ) (par rank : ℕ → ℕ) (tree : Tree n par rank) where
  -- what holds of a task where it holds of its parent holds of every task
  from-parent-within :
      (Q : ℕ → Type 0)
      → ((k : ℕ) → Task n k → ((par k ≡ 0 → ⊥) → Q (par k)) → Q k)
      → (m k : ℕ)
      → Task n k
      → n ≤ m + rank k
      → Q k
  from-parent-within Q step zero k t h = let b = tree.below k t in absurd (omega arith)
  from-parent-within Q step (suc m) k t h =
      step k t
      (λ d.
      let r = tree.rises k t d in
      from-parent-within Q step m (par k) (parent-task n par rank tree k t d) (omega arith))

  pub from-parent :
      (Q : ℕ → Type 0)
      → ((k : ℕ) → Task n k → ((par k ≡ 0 → ⊥) → Q (par k)) → Q k)
      → (k : ℕ)
      → Task n k
      → Q k
  from-parent Q step k t = from-parent-within Q step n k t (omega arith)

  -- whoever has somebody above its parent has a parent
  has-parent : (i k : ℕ) → up n par i (par k) ≡ true → par k ≡ 0 → ⊥
  has-parent i k h z = clash h (up-nobody n par i (par k) z)

  -- whoever stands above the parent stands above the child
  pub up_above : (i k : ℕ) → Task n k → up n par i (par k) ≡ true → up n par i k ≡ true
  up_above i k t h = up_step n par rank tree i k t ∙ or_right (eqb i k) (up n par i (par k)) h

  -- i is k or stands above its parent
  up-cases : (i k : ℕ) → Task n k → up n par i k ≡ true → (i ≡ k) ⊎ (up n par i (par k) ≡ true)
  up-cases i k t h =
      ⊎_elim (λ e. inl (eqb-true i k e)) (λ e. inr e)
      (or_cases (eqb i k) (up n par i (par k)) (sym (up_step n par rank tree i k t) ∙ h))

  -- a parent stands above its child
  parent_up : (i c : ℕ) → Task n i → Task n c → par c ≡ i → up n par i c ≡ true
  parent_up i c t u e = up_above i c u (ap (λ (k : ℕ). up n par i k) e ∙ up-self n par rank tree i t)

  -- who stands above one that stands above k stands above k
  up-trans : (i j k : ℕ) → Task n k → up n par i j ≡ true → up n par j k ≡ true → up n par i k ≡ true
  up-trans i j k t h =
      from-parent (λ k. up n par j k ≡ true → up n par i k ≡ true)
      (λ k t parent e.
      ⊎_elim (λ q. ap (λ (a : ℕ). up n par i a) (sym q) ∙ h)
      (λ f. up_above i k t (parent (has-parent j k f) f))
      (up-cases j k t e))
      k t

  -- of two that stand above k one stands above the other
  up-linear :
      (i j k : ℕ)
      → Task n k
      → up n par i k ≡ true
      → up n par j k ≡ true
      → (up n par i j ≡ true) ⊎ (up n par j i ≡ true)
  up-linear i j =
      from-parent
      (λ k. up n par i k ≡ true → up n par j k ≡ true → (up n par i j ≡ true) ⊎ (up n par j i ≡ true))
      (λ k t parent e f.
      ⊎_elim (λ q. inr (ap (λ (a : ℕ). up n par j a) q ∙ f))
      (λ g.
      ⊎_elim (λ q. inl (ap (λ (a : ℕ). up n par i a) q ∙ e))
      (λ h. parent (has-parent i k g) g h)
      (up-cases j k t f))
      (up-cases i k t e))

  -- the child of i on the way from k to i
  pub record Towards (i k : ℕ) : Type 0 where
    pub child : ℕ
    pub task : Task n child
    pub parent : par child ≡ i
    pub above : up n par child k ≡ true

  pub child-towards : (i k : ℕ) → Task n k → up n par i (par k) ≡ true → Towards i k
  child-towards i =
      from-parent (λ k. up n par i (par k) ≡ true → Towards i k)
      (λ k t parent e.
      let d = has-parent i k e in
      ⊎_elim
      (λ q. record { child = k; task = t; parent = sym q; above = up-self n par rank tree k t })
      (λ f.
      let c = parent d f in
      record { child = c.child; task = c.task; parent = c.parent; above = up_above c.child k t c.above })
      (up-cases i (par k) (parent-task n par rank tree k t d) e))

  -- of two children of one task none stands above the other
  pub siblings : (c d : ℕ) → Task n c → Task n d → par c ≡ par d → up n par c d ≡ true → c ≡ d
  siblings c d t u e h =
      ⊎_elim (λ q. q)
      (λ f. absurd (clash (ap (λ (a : ℕ). up n par c a) e ∙ f) (not-above-itself n par rank tree c t)))
      (up-cases c d u h)

  -- there is one child on the way
  pub one-child :
      (c d k : ℕ)
      → Task n c
      → Task n d
      → Task n k
      → par c ≡ par d
      → up n par c k ≡ true
      → up n par d k ≡ true
      → c ≡ d
  one-child c d k t u v e f g =
      ⊎_elim (λ h. siblings c d t u e h) (λ h. sym (siblings d c u t (sym e) h)) (up-linear c d k v f g)

  -- whoever is in the subtree of a child of i is below i
  pub below-parent :
      (i c k : ℕ) → Task n i → Task n c → Task n k → par c ≡ i → up n par c k ≡ true → up n par i (par k) ≡ true
  below-parent i c k t u v e h =
      ⊎_elim
      (λ q. ap (λ (a : ℕ). up n par i (par a)) (sym q) ∙ ap (λ (a : ℕ). up n par i a) e ∙ up-self n par rank tree i t)
      (λ f. up-trans i c (par k) (parent-task n par rank tree k v (has-parent c k f)) (parent_up i c t u e) f)
      (up-cases c k v h)

  -- the root stands above all
  pub root-above :
      (one : roots n par ≡ 1) (r : ℕ) (task : Task n r) (root : par r ≡ 0) (k : ℕ) → Task n k → up n par r k ≡ true
  root-above one r task root =
      from-parent (λ k. up n par r k ≡ true)
      (λ k t parent.
      ⊎_elim
      (λ z. ap (λ (a : ℕ). up n par r a) (one-root n par one k r t task z root) ∙ up-self n par rank tree r task)
      (λ d. up_above r k t (parent d))
      (same_or_not (par k) 0))
