-- What follows from the balance of one store that is left open, over functions.
use mathlib.Core.Path.{◌≡◌, sym, ap, ◌∙◌}
use mathlib.Core.Bool.{Bool, true, false, not, ◌&&◌}
use mathlib.Core.Logic.{⊎_elim}
use mathlib.Core.List.{List, []}
use Prim.Native.Nat.{ℕ, ◌+◌, ◌-◌, ◌≤◌}
use native.Mathlib.Omega.{arith}
use lib.Dec.{eqb}
use borrow.Author.Tests.{eqb-true, eqb-false, eq-eqb}
use Rattle.numbers.specs.Sums.{only, sum_to}
use Rattle.numbers.specs.Lists.{mem}
use Rattle.tree.specs.Tree.{figure, Tree, up, children}
use Rattle.books.specs.Booking.{children_figure, missing}
use Rattle.books.specs.Standing.{running, finished}
use Rattle.books.specs.Invariant.{arrived, pending, Active, Balance, Balanced, Shape}
use Rattle.numbers.proofs.Tests.{decide}
use Rattle.numbers.proofs.Sums.{Task, sum-cong, sum-zero, only-and, only_zero, only-false, only-cong}
use Rattle.tree.proofs.Tree.{figure-splits}
use Rattle.tree.proofs.Children.{children-cong, children-le, children-zero, children-add}
use Rattle.books.proofs.Shape.{finished-below}

-- what has arrived and what is to come are together the outs of the children
pub arrived-pending :
    (n : ℕ) (par out st : ℕ → ℕ) (i : ℕ) → arrived n par out st i + pending n par out st i ≡ children n par out i
unfolding arrived pending
arrived-pending n par out st i =
    sym
    (children-cong n par out (λ c. only (eqb (st c) finished) (out c) + only (not (eqb (st c) finished)) (out c)) i
    (λ c _ _. either (eqb (st c) finished) (out c))
    ∙ children-add n par (λ c. only (eqb (st c) finished) (out c)) (λ c. only (not (eqb (st c) finished)) (out c)) i)
  where
    either : (t : Bool) (x : ℕ) → x ≡ only t x + only (not t) x
    either true x = omega arith
    either false x = omega arith

-- with nothing owed, a booked or running task and all below it hold its need
pub settled :
    (n : ℕ) (par need out st b : ℕ → ℕ)
    → Balanced n par need out st b
    → (i : ℕ)
    → Task n i
    → Active st i
    → need i ≤ figure n par b i
unfolding mem
settled n par need out st b books i t a = let h = books.covered i t a in omega arith

-- books in which nothing is really owed
pub cleared :
    (n : ℕ) (par need out st b : ℕ → ℕ) (path : List ℕ) (r : ℕ)
    → Balance n par need out st b path r
    → ((i : ℕ) → Task n i → Active st i → only (mem i path) r ≡ 0)
    → Balanced n par need out st b
unfolding mem
cleared n par need out st b path r books nothing =
    record {
      waits = books.waits;
      keeps = books.keeps;
      covered = λ i t a. let h = books.covered i t a in let z = nothing i t a in omega arith;
      capped = books.capped;
      empty = books.empty;
    }

module _ (n : ℕ) (par rank : ℕ → ℕ) (tree : Tree n par rank)
    (need out st b : ℕ → ℕ) (shape : Shape n par rank st) where
  -- the subtree figure of an ended task is 0
  pub finished-figure :
      (path : List ℕ) (r : ℕ)
      → Balance n par need out st b path r
      → (i : ℕ)
      → Task n i
      → st i ≡ finished
      → figure n par b i ≡ 0
  unfolding figure
  finished-figure path r books i t e =
      sum-zero (λ k. only (up n par i k) (b k)) n
      (λ k u.
      only-cong (up n par i k) (b k) 0
      (λ h. books.empty k u (finished-below n par rank tree st shape i k u h e))
      ∙ only_zero (up n par i k))

  -- so that the children's figures are those of the children that have not ended
  pub missing-is :
      (path : List ℕ) (r : ℕ)
      → Balance n par need out st b path r
      → (i : ℕ)
      → Task n i
      → missing n par need st b i ≡ need i - figure n par b i
  unfolding missing children_figure children
  missing-is path r books i t =
      ap (λ (x : ℕ). need i - x)
      (ap (λ (x : ℕ). b i + x)
      (sum-cong (λ c. only (eqb (par c) i && not (eqb (st c) finished)) (figure n par b c))
      (λ c. only (eqb (par c) i) (figure n par b c)) n
      (λ c u.
      only-and (eqb (par c) i) (not (eqb (st c) finished)) (figure n par b c)
      ∙ ap (only (eqb (par c) i))
      (⊎_elim
      (λ (e : eqb (st c) finished ≡ true).
      let none = finished-figure path r books c u (eqb-true (st c) finished e) in
      ap (λ (x : ℕ). only (not (eqb (st c) finished)) x) none ∙ only_zero (not (eqb (st c) finished)) ∙ sym none)
      (λ (e : eqb (st c) finished ≡ false). ap (λ (t : Bool). only (not t) (figure n par b c)) e)
      (decide (eqb (st c) finished)))))
      ∙ sym (figure-splits n par rank tree b i t))

  -- the children of a task that has begun have ended, so that nothing is to come
  pub nothing-pending : (i : ℕ) → Task n i → running ≤ st i → pending n par out st i ≡ 0
  unfolding pending
  nothing-pending i t h =
      children-zero n par (λ c. only (not (eqb (st c) finished)) (out c)) i
      (λ c u e.
      only-false (not (eqb (st c) finished)) (out c)
      (ap (λ (t : Bool). not t) (eq-eqb (st c) finished (shape.fed i c t u e h))))

  -- "a step runs only while it holds exactly its need"
  pub running-holds-need : Balanced n par need out st b → (i : ℕ) → Task n i → st i ≡ running → b i ≡ need i
  unfolding children mem
  running-holds-need books i t e =
      let a : Active st i = omega arith in
      let low = books.covered i t a in
      let high = books.capped i t a in
      let none = nothing-pending i t (omega arith) in
      let split = figure-splits n par rank tree b i t in
      let below : sum_to (λ c. only (eqb (par c) i) (figure n par b c)) n ≡ 0 =
      children-zero n par (λ c. figure n par b c) i
      (λ c u q. finished-figure [] 0 books c u (shape.fed i c t u q (omega arith)))
      in
      omega arith

-- what is still to come to a task is below its children's figures, where each of those that have not ended has its out covered
pub pending-covered :
    (n : ℕ) (par out st b : ℕ → ℕ) (i : ℕ)
    → ((c : ℕ) → Task n c → par c ≡ i → (st c ≡ finished → ⊥) → out c ≤ figure n par b c)
    → pending n par out st i ≤ children n par (λ c. figure n par b c) i
unfolding pending
pending-covered n par out st b i h =
    children-le n par (λ c. only (not (eqb (st c) finished)) (out c)) (λ c. figure n par b c) i
    (λ c u e.
    ⊎_elim (λ (q : eqb (st c) finished ≡ true). rw q (omega arith))
    (λ (q : eqb (st c) finished ≡ false). rw q (h c u e (eqb-false (st c) finished q))) (decide (eqb (st c) finished)))

-- where the same tasks have ended, the same has arrived and the same is to come
module _ (n : ℕ) (par out st st' : ℕ → ℕ)
    (same : (c : ℕ) → Task n c → eqb (st' c) finished ≡ eqb (st c) finished) (i : ℕ) where
  pub arrived-same : arrived n par out st' i ≡ arrived n par out st i
  unfolding arrived
  arrived-same =
      children-cong n par (λ c. only (eqb (st' c) finished) (out c)) (λ c. only (eqb (st c) finished) (out c)) i
      (λ c u _. ap (λ (t : Bool). only t (out c)) (same c u))

  pub pending-same : pending n par out st' i ≡ pending n par out st i
  unfolding pending
  pending-same =
      children-cong n par (λ c. only (not (eqb (st' c) finished)) (out c))
      (λ c. only (not (eqb (st c) finished)) (out c)) i
      (λ c u _. ap (λ (t : Bool). only (not t) (out c)) (same c u))
