-- Laws of the tree of tasks and of sums over subtrees, over functions and an abstract rank that rises towards the root.
use mathlib.Core.Path.{◌≡◌, refl, sym, ap, ◌∙◌}
use mathlib.Core.Bool.{Bool, true, false, ◌||◌}
use mathlib.Core.Logic.{⊎_elim}
use mathlib.Core.List.{List, [], ◌∷◌}
use Prim.Native.Nat.{ℕ, zero, suc, ◌+◌, ◌≤◌}
use native.Mathlib.Omega.{arith}
use lib.Dec.{eqb}
use borrow.Author.Tests.{eqb-true, eq-eqb, ne_eqb}
use Rattle.numbers.specs.Sums.{only, sum_to}
use Rattle.numbers.specs.Lists.{mem}
use Rattle.tree.specs.Tree.{chain, figure, Tree, up}
use Rattle.numbers.proofs.Tests.{clash, fails, same_or_not, eqb-sym, or_cases, or_left}
use Rattle.numbers.proofs.Sums.{Task, sum-cong, sum-add, sum-zero, sum-swap, sum-single, sum-change, only_sum, only-add, only-swap, only_zero, only-false}

-- nobody stands above nobody
pub chain-none : (m : ℕ) (par : ℕ → ℕ) → chain m par 0 ≡ []
unfolding chain
chain-none zero par = refl
chain-none (suc m) par = refl

pub up-nobody : (m : ℕ) (par : ℕ → ℕ) (i k : ℕ) → k ≡ 0 → mem i (chain m par k) ≡ false
unfolding mem
up-nobody m par i k e = ap (λ (a : ℕ). mem i (chain m par a)) e ∙ ap (mem i) (chain-none m par)

-- a chain goes on with the parent
pub chain_more : (m : ℕ) (par : ℕ → ℕ) (i : ℕ) → (i ≡ 0 → ⊥) → chain (suc m) par i ≡ i ∷ chain m par (par i)
unfolding chain
chain_more m par i d = rw (ne_eqb i 0 d, chain)

module _ (n : ℕ) (par rank : ℕ → ℕ) (tree : Tree n par rank) where
  -- the parent of a task that has one is a task
  pub parent-task : (i : ℕ) → Task n i → (par i ≡ 0 → ⊥) → Task n (par i)
  parent-task i t d = let h = tree.within i t in omega arith

  -- a chain that is long enough is the whole chain
  chain-enough : (m i : ℕ) → Task n i → n ≤ m + rank i → chain (suc m) par i ≡ chain m par i
  chain-enough zero i t h = let b = tree.below i t in absurd (omega arith)
  chain-enough (suc m) i t h =
      let here : i ≡ 0 → ⊥ = omega arith in
      chain_more (suc m) par i here
      ∙ ap (λ (l : List ℕ). i ∷ l)
      (⊎_elim (λ e. ap (chain (suc m) par) e ∙ chain-none (suc m) par ∙ sym (ap (chain m par) e ∙ chain-none m par))
      (λ d. let r = tree.rises i t d in chain-enough m (par i) (parent-task i t d) (omega arith))
      (same_or_not (par i) 0))
      ∙ sym (chain_more m par i here)

  -- the chain of a task: itself, and the chain of its parent
  pub chain-step : (k : ℕ) → Task n k → chain n par k ≡ k ∷ chain n par (par k)
  chain-step k t = go n refl
    where
      go : (m : ℕ) → n ≡ m → chain n par k ≡ k ∷ chain n par (par k)
      go zero e = absurd (omega arith)
      go (suc m) e =
          let here : k ≡ 0 → ⊥ = omega arith in
          let most : chain (suc m) par (par k) ≡ chain m par (par k) =
          ⊎_elim (λ z. ap (chain (suc m) par) z ∙ chain-none (suc m) par ∙ sym (ap (chain m par) z ∙ chain-none m par))
          (λ d. let r = tree.rises k t d in chain-enough m (par k) (parent-task k t d) (omega arith))
          (same_or_not (par k) 0)
          in
          rw e (chain_more m par k here ∙ ap (λ (l : List ℕ). k ∷ l) (sym most))

  -- whoever is k or above k is a task of no lower rank
  up-rank-within : (m i k : ℕ) → Task n k → mem i (chain m par k) ≡ true → Task n i × (rank k ≤ rank i)
  unfolding mem chain
  up-rank-within zero i k t h = absurd (clash h refl)
  up-rank-within (suc m) i k t h =
      let here : k ≡ 0 → ⊥ = omega arith in
      let h₁ : (eqb i k || mem i (chain m par (par k))) ≡ true = rw (chain_more m par k here) at h in
      ⊎_elim
      (λ e. let same = eqb-true i k e in (rw same t, rw same (omega arith)))
      (λ e.
      ⊎_elim
      (λ z. absurd (clash e (up-nobody m par i (par k) z)))
      (λ d.
      let r = tree.rises k t d in
      let above = up-rank-within m i (par k) (parent-task k t d) e in
      (above.0, omega (arith, above.1)))
      (same_or_not (par k) 0))
      (or_cases (eqb i k) (mem i (chain m par (par k))) h₁)

  pub up-rank : (i k : ℕ) → Task n k → up n par i k ≡ true → Task n i × (rank k ≤ rank i)
  up-rank i k = up-rank-within n i k

  -- i is k, or stands above its parent
  pub up_step : (i k : ℕ) → Task n k → up n par i k ≡ (eqb i k || up n par i (par k))
  unfolding mem
  up_step i k t = ap (mem i) (chain-step k t)

  -- where i is not k it stands above k just where it is k's parent or above it
  pub up-parent : (i k : ℕ) → Task n k → (i ≡ k → ⊥) → up n par i k ≡ up n par i (par k)
  up-parent i k t d = up_step i k t ∙ ap (λ (s : Bool). s || up n par i (par k)) (ne_eqb i k d)

  -- k itself counts
  pub up-self : (k : ℕ) → Task n k → up n par k k ≡ true
  up-self k t = up_step k k t ∙ or_left (eqb k k) (up n par k (par k)) (eq-eqb k k refl)

  -- a task does not stand above itself
  pub not-above-itself : (k : ℕ) → Task n k → up n par k (par k) ≡ false
  not-above-itself k t =
      ⊎_elim (λ z. up-nobody n par k (par k) z)
      (λ d.
      fails (up n par k (par k))
      (λ e.
      let r = tree.rises k t d in
      let a = up-rank k (par k) (parent-task k t d) e in
      omega (arith, a.1)))
      (same_or_not (par k) 0)

  -- what is counted of those at or above k: k itself, and those at or above its parent
  pub up_split : (i k x : ℕ) → Task n k → only (up n par i k) x ≡ only (eqb i k) x + only (up n par i (par k)) x
  up_split i k x t =
      ⊎_elim
      (λ e.
      let same = eq-eqb i k e in
      let no : up n par i (par k) ≡ false = ap (λ (a : ℕ). up n par a (par k)) e ∙ not-above-itself k t in
      rw (up_step i k t, same, no) (omega arith))
      (λ d. rw (up_step i k t, ne_eqb i k d) (omega arith))
      (same_or_not i k)

  -- i stands above k just where one of its children is k or stands above k
  above-child-within :
      (m i k x : ℕ)
      → 1 ≤ i
      → Task n k
      → n ≤ m + rank k
      → sum_to (λ c. only (eqb (par c) i) (only (up n par c k) x)) n ≡ only (up n par i (par k)) x
  above-child-within zero i k x p t h = let b = tree.below k t in absurd (omega arith)
  above-child-within (suc m) i k x p t h =
      let own : ℕ → ℕ = λ c. only (eqb c k) (only (eqb (par c) i) x) in
      let later : ℕ → ℕ = λ c. only (eqb (par c) i) (only (up n par c (par k)) x) in
      let parts : sum_to (λ c. only (eqb (par c) i) (only (up n par c k) x)) n ≡ sum_to own n + sum_to later n =
      sum-cong (λ c. only (eqb (par c) i) (only (up n par c k) x)) (λ c. own c + later c) n
      (λ c u.
      ap (only (eqb (par c) i)) (up_split c k x t)
      ∙ only-add (eqb (par c) i) (only (eqb c k) x) (only (up n par c (par k)) x)
      ∙ ap (λ (y : ℕ). y + later c) (only-swap (eqb (par c) i) (eqb c k) x))
      ∙ sum-add own later n
      in
      let self : sum_to own n ≡ only (eqb (par k) i) x = sum-single (λ c. only (eqb (par c) i) x) n k t in
      ⊎_elim
      (λ z.
      let none : sum_to later n ≡ 0 =
      sum-zero later n
      (λ c u. ap (only (eqb (par c) i)) (only-false (up n par c (par k)) x (up-nobody n par c (par k) z)) ∙ only_zero (eqb (par c) i))
      in
      let nobody : only (eqb (par k) i) x ≡ 0 = only-false (eqb (par k) i) x (ne_eqb (par k) i (omega arith)) in
      let nor : only (up n par i (par k)) x ≡ 0 = only-false (up n par i (par k)) x (up-nobody n par i (par k) z) in
      omega arith)
      (λ d.
      let r = tree.rises k t d in
      let u = parent-task k t d in
      let higher : sum_to later n ≡ only (up n par i (par (par k))) x = above-child-within m i (par k) x p u (omega arith) in
      let split : only (up n par i (par k)) x ≡ only (eqb i (par k)) x + only (up n par i (par (par k))) x =
      up_split i (par k) x u
      in
      let turn : only (eqb i (par k)) x ≡ only (eqb (par k) i) x = ap (λ (t : Bool). only t x) (eqb-sym i (par k)) in
      omega arith)
      (same_or_not (par k) 0)

  above-child :
      (i k x : ℕ)
      → 1 ≤ i
      → Task n k
      → only (up n par i (par k)) x ≡ sum_to (λ c. only (eqb (par c) i) (only (up n par c k) x)) n
  above-child i k x p t = sym (above-child-within n i k x p t (omega arith))

  -- the figure of a task is its own part and the figures of its children
  pub figure-splits :
      (b : ℕ → ℕ) (i : ℕ) → Task n i → figure n par b i ≡ b i + sum_to (λ c. only (eqb (par c) i) (figure n par b c)) n
  unfolding figure
  figure-splits b i t =
      let below : ℕ → ℕ → ℕ = λ k c. only (eqb (par c) i) (only (up n par c k) (b k)) in
      let parts : sum_to (λ k. only (up n par i k) (b k)) n ≡ sum_to (λ k. only (eqb k i) (b k)) n + sum_to (λ k. sum_to (below k) n) n =
      sum-cong (λ k. only (up n par i k) (b k)) (λ k. only (eqb k i) (b k) + sum_to (below k) n) n
      (λ k u.
      up_split i k (b k) u
      ∙ ap (λ (t : Bool). only t (b k) + only (up n par i (par k)) (b k)) (eqb-sym i k)
      ∙ ap (λ (y : ℕ). only (eqb k i) (b k) + y) (above-child i k (b k) t.low u))
      ∙ sum-add (λ k. only (eqb k i) (b k)) (λ k. sum_to (below k) n) n
      in
      let own : sum_to (λ k. only (eqb k i) (b k)) n ≡ b i = sum-single b n i t in
      let swapped : sum_to (λ k. sum_to (below k) n) n ≡ sum_to (λ c. sum_to (λ k. below k c) n) n = sum-swap below n n in
      let out : sum_to (λ c. sum_to (λ k. below k c) n) n
      ≡ sum_to (λ c. only (eqb (par c) i) (sum_to (λ k. only (up n par c k) (b k)) n)) n =
      sum-cong (λ c. sum_to (λ k. below k c) n)
      (λ c. only (eqb (par c) i) (sum_to (λ k. only (up n par c k) (b k)) n)) n
      (λ c u. sym (only_sum (eqb (par c) i) (λ k. only (up n par c k) (b k)) n))
      in
      omega arith

-- one part changed: the figure of each task at or above it changes as much. No tree is asked for
pub figure-change :
    (n : ℕ) (par b c : ℕ → ℕ) (x d a : ℕ)
    → Task n x
    → c x ≡ b x + d
    → ((i : ℕ) → Task n i → (i ≡ x → ⊥) → c i ≡ b i)
    → figure n par c a ≡ figure n par b a + only (up n par a x) d
unfolding figure
figure-change n par b c x d a t at_x other =
    sum-change (λ k. only (up n par a k) (b k)) (λ k. only (up n par a k) (c k)) n x (only (up n par a x) d) t
    (ap (only (up n par a x)) at_x ∙ only-add (up n par a x) (b x) d)
    (λ i u v. ap (only (up n par a i)) (other i u v))

-- equal parts have equal figures
pub figure-cong :
    (n : ℕ) (par b c : ℕ → ℕ) (a : ℕ) → ((i : ℕ) → Task n i → c i ≡ b i) → figure n par c a ≡ figure n par b a
unfolding figure
figure-cong n par b c a same =
    sum-cong (λ k. only (up n par a k) (c k)) (λ k. only (up n par a k) (b k)) n
    (λ i t. ap (only (up n par a i)) (same i t))
