-- Laws of sums over the children of a task.
use mathlib.Core.Path.{◌≡◌, refl, sym, ap, ◌∙◌}
use mathlib.Core.Bool.{Bool, true, false, not, ◌&&◌}
use mathlib.Core.Logic.{⊎_elim}
use Prim.Native.Nat.{ℕ, ◌+◌, ◌≤◌}
use native.Mathlib.Omega.{arith}
use lib.Dec.{eqb}
use borrow.Author.Tests.{eqb-true, eq-eqb, ne_eqb}
use Rattle.numbers.specs.Sums.{only, sum_to}
use Rattle.tree.specs.Tree.{children, figure, Tree}
use Rattle.tree.specs.Need.{resident}
use Rattle.tree.proofs.Tree.{figure-splits}
use Rattle.numbers.proofs.Tests.{same_or_not, eqb-sym}
use Rattle.numbers.proofs.Sums.{Task, sum-cong, sum-le, sum-add, sum-zero, sum-swap, sum-single, sum-change, only_sum, only-add, only-swap, only_zero, only-mono, only-cong, only-false}

-- the figure of a task is its own part and the figures of its children
pub figure-children :
    (n : ℕ) (par rank : ℕ → ℕ) (tree : Tree n par rank) (b : ℕ → ℕ) (i : ℕ)
    → Task n i
    → figure n par b i ≡ b i + children n par (λ c. figure n par b c) i
unfolding children
figure-children = figure-splits

-- an order or an equation at each child
pub children-le :
    (n : ℕ) (par f g : ℕ → ℕ) (i : ℕ)
    → ((c : ℕ) → Task n c → par c ≡ i → f c ≤ g c)
    → children n par f i ≤ children n par g i
unfolding children
children-le n par f g i h =
    sum-le (λ c. only (eqb (par c) i) (f c)) (λ c. only (eqb (par c) i) (g c)) n
    (λ c t. only-mono (eqb (par c) i) (f c) (g c) (λ e. h c t (eqb-true (par c) i e)))

pub children-cong :
    (n : ℕ) (par f g : ℕ → ℕ) (i : ℕ)
    → ((c : ℕ) → Task n c → par c ≡ i → f c ≡ g c)
    → children n par f i ≡ children n par g i
unfolding children
children-cong n par f g i h =
    sum-cong (λ c. only (eqb (par c) i) (f c)) (λ c. only (eqb (par c) i) (g c)) n
    (λ c t. only-cong (eqb (par c) i) (f c) (g c) (λ e. h c t (eqb-true (par c) i e)))

pub children-zero :
    (n : ℕ) (par f : ℕ → ℕ) (i : ℕ) → ((c : ℕ) → Task n c → par c ≡ i → f c ≡ 0) → children n par f i ≡ 0
unfolding children
children-zero n par f i h =
    sum-zero (λ c. only (eqb (par c) i) (f c)) n
    (λ c t. only-cong (eqb (par c) i) (f c) 0 (λ e. h c t (eqb-true (par c) i e)) ∙ only_zero (eqb (par c) i))

pub children-add :
    (n : ℕ) (par f g : ℕ → ℕ) (i : ℕ) → children n par (λ c. f c + g c) i ≡ children n par f i + children n par g i
unfolding children
children-add n par f g i =
    sum-cong (λ c. only (eqb (par c) i) (f c + g c)) (λ c. only (eqb (par c) i) (f c) + only (eqb (par c) i) (g c)) n
    (λ c _. only-add (eqb (par c) i) (f c) (g c))
    ∙ sum-add (λ c. only (eqb (par c) i) (f c)) (λ c. only (eqb (par c) i) (g c)) n

-- one child's part changed
pub children-change :
    (n : ℕ) (par f g : ℕ → ℕ) (x d i : ℕ)
    → Task n x
    → g x ≡ f x + d
    → ((c : ℕ) → Task n c → (c ≡ x → ⊥) → g c ≡ f c)
    → children n par g i ≡ children n par f i + only (eqb (par x) i) d
unfolding children
children-change n par f g x d i t at_x other =
    sum-change (λ c. only (eqb (par c) i) (f c)) (λ c. only (eqb (par c) i) (g c)) n x (only (eqb (par x) i) d) t
    (ap (only (eqb (par x) i)) at_x ∙ only-add (eqb (par x) i) (f x) d)
    (λ c u v. ap (only (eqb (par c) i)) (other c u v))

-- a sum over all tasks with a child's part taken at its parent: each task that has a parent counts once
pub by-parent :
    (n : ℕ) (par f : ℕ → ℕ) (at-parent : ℕ → Bool)
    → ((c : ℕ) → Task n c → par c ≤ n)
    → sum_to (λ i. only (at-parent i) (children n par f i)) n
    ≡ sum_to (λ c. only (not (eqb (par c) 0) && at-parent (par c)) (f c)) n
unfolding children
by-parent n par f at-parent within =
    sum-cong (λ i. only (at-parent i) (sum_to (λ c. only (eqb (par c) i) (f c)) n))
    (λ i. sum_to (λ c. only (at-parent i) (only (eqb (par c) i) (f c))) n) n
    (λ i _. only_sum (at-parent i) (λ c. only (eqb (par c) i) (f c)) n)
    ∙ sum-swap (λ i c. only (at-parent i) (only (eqb (par c) i) (f c))) n n
    ∙ sum-cong (λ c. sum_to (λ i. only (at-parent i) (only (eqb (par c) i) (f c))) n)
    (λ c. only (not (eqb (par c) 0) && at-parent (par c)) (f c)) n
    (λ c t.
    sum-cong (λ i. only (at-parent i) (only (eqb (par c) i) (f c)))
    (λ i. only (eqb i (par c)) (only (at-parent i) (f c))) n
    (λ i _.
    only-swap (at-parent i) (eqb (par c) i) (f c)
    ∙ ap (λ (t : Bool). only t (only (at-parent i) (f c))) (eqb-sym (par c) i))
    ∙ ⊎_elim
    (λ z.
    sum-zero (λ i. only (eqb i (par c)) (only (at-parent i) (f c))) n
    (λ i u. only-false (eqb i (par c)) (only (at-parent i) (f c)) (ne_eqb i (par c) (omega arith)))
    ∙ sym (only-false (not (eqb (par c) 0) && at-parent (par c)) (f c) (rw (eq-eqb (par c) 0 z) refl)))
    (λ d.
    let w = within c t in
    sum-single (λ i. only (at-parent i) (f c)) n (par c) (omega arith)
    ∙ sym (ap (λ (t : Bool). only (not t && at-parent (par c)) (f c)) (ne_eqb (par c) 0 d)))
    (same_or_not (par c) 0))

-- what is resident, taken at the parents: the outs of the ended children of each task that has not begun
pub resident-by-parent :
    (n : ℕ) (par out : ℕ → ℕ) (ended begun : ℕ → Bool)
    → ((c : ℕ) → Task n c → par c ≤ n)
    → resident n par out ended begun
    ≡ sum_to (λ i. only (not (begun i)) (children n par (λ c. only (ended c) (out c)) i)) n
unfolding resident
resident-by-parent n par out ended begun within =
    sum-cong (λ c. only (ended c && not (eqb (par c) 0) && not (begun (par c))) (out c))
    (λ c. only (not (eqb (par c) 0) && not (begun (par c))) (only (ended c) (out c))) n
    (λ c _. regroup (ended c) (not (eqb (par c) 0)) (not (begun (par c))) (out c))
    ∙ sym (by-parent n par (λ c. only (ended c) (out c)) (λ i. not (begun i)) within)
  where
    regroup : (r s t : Bool) (x : ℕ) → only (r && s && t) x ≡ only (s && t) (only r x)
    regroup true s t x = refl
    regroup false s t x = sym (only_zero (s && t))
