-- How trays in use change: with a start by the work and the out of the task, with an end by its need and its out.
use mathlib.Core.Path.{◌≡◌, refl, sym, ap, ap₂, ◌∙◌}
use mathlib.Core.Bool.{Bool, true, false, not, ◌&&◌}
use mathlib.Core.Logic.{⊎_elim}
use Prim.Native.Nat.{ℕ, ◌+◌, ◌≤◌}
use native.Mathlib.Omega.{arith}
use lib.Dec.{eqb, leb}
use borrow.Author.Tests.{eq-eqb, ne_eqb, le-leb, lt-leb}
use Rattle.numbers.specs.Sums.{Task, only, sum_to}
use Rattle.tree.specs.Need.{need, in_process}
use Rattle.tree.specs.Tree.{children}
use Rattle.books.specs.Standing.{activated, running, finished}
use Rattle.numbers.proofs.Tests.{same_or_not, eqb-sym}
use Rattle.numbers.proofs.Sums.{sum-cong, term-le, sum-add, sum-change, sum-single, only-true, only-false, only-add, only_zero}
use Rattle.tree.proofs.Children.{children-cong, children-change, resident-by-parent}
use Rattle.books.proofs.Shape.{Moved}
use Rattle.books.proofs.Usage.{has_ended, has_begun}
use Rattle.store.specs.Cached.{in_process_by}

-- what is in use on account of task i: its need while it runs, or the outs of its ended children until it starts
unfoldable pub charge : (n : ℕ) (par work out st : ℕ → ℕ) → ℕ → ℕ
charge n par work out st i =
    only (has_begun st i && not (has_ended st i)) (need n par work out i)
    + only (not (has_begun st i)) (children n par (λ c. only (has_ended st c) (out c)) i)

module _ (n : ℕ) (par work out : ℕ → ℕ) (within : (i : ℕ) → Task n i → par i ≤ n) where
  pub used-is : (st : ℕ → ℕ) → in_process_by n par work out st ≡ sum_to (charge n par work out st) n
  unfolding in_process charge
  used-is st =
      let resides = resident-by-parent n par out (has_ended st) (has_begun st) within in
      let parts =
      sum-add (λ i. only (has_begun st i && not (has_ended st i)) (need n par work out i))
      (λ i. only (not (has_begun st i)) (children n par (λ c. only (has_ended st c) (out c)) i)) n
      in
      omega arith

  -- a running task's need is in use
  pub used-holds : (st : ℕ → ℕ) (j : ℕ) → Task n j → st j ≡ running → need n par work out j ≤ in_process_by n par work out st
  unfolding charge
  used-holds st j t runs =
      let begun : has_begun st j ≡ true = le-leb running (st j) (omega arith) in
      let not-ended : has_ended st j ≡ false = ne_eqb (st j) finished (λ q. omega arith) in
      let mine =
      only-true (has_begun st j && not (has_ended st j)) (need n par work out j)
      (ap₂ (λ (a b : Bool). a && not b) begun not-ended)
      in
      let part = term-le (charge n par work out st) n j t in
      let all = used-is st in
      omega arith

  -- a booked task whose children have ended starts
  pub used-started :
      (st st' : ℕ → ℕ) (x : ℕ)
      → Task n x
      → st x ≡ activated
      → ((c : ℕ) → Task n c → par c ≡ x → st c ≡ finished)
      → Moved n st st' x running
      → in_process_by n par work out st' ≡ in_process_by n par work out st + (work x + out x)
  unfolding charge need
  used-started st st' x t booked fed moved =
      let same_ended : (c : ℕ) → Task n c → has_ended st' c ≡ has_ended st c =
      λ c u.
      ⊎_elim
      (λ e.
      let new : st' c ≡ running = ap st' e ∙ moved.there in
      let old : st c ≡ activated = ap st e ∙ booked in
      ne_eqb (st' c) finished (λ q. omega arith) ∙ sym (ne_eqb (st c) finished (λ q. omega arith)))
      (λ d. ap (λ (v : ℕ). eqb v finished) (moved.elsewhere c u d))
      (same_or_not c x)
      in
      let arrives : (i : ℕ) → children n par (λ c. only (has_ended st' c) (out c)) i ≡ children n par (λ c. only (has_ended st c) (out c)) i =
      λ i.
      children-cong n par (λ c. only (has_ended st' c) (out c)) (λ c. only (has_ended st c) (out c)) i
      (λ c u _. ap (λ (b : Bool). only b (out c)) (same_ended c u))
      in
      let all_there : children n par (λ c. only (has_ended st c) (out c)) x ≡ children n par out x =
      children-cong n par (λ c. only (has_ended st c) (out c)) out x
      (λ c u e. only-true (has_ended st c) (out c) (eq-eqb (st c) finished (fed c u e)))
      in
      let new = moved.there in
      let sum =
      sum-change (charge n par work out st) (charge n par work out st') n x (work x + out x) t
      (let a : only (has_begun st' x && not (has_ended st' x)) (need n par work out x) ≡ need n par work out x =
      rw (le-leb running (st' x) (omega arith), ne_eqb (st' x) finished (λ q. omega arith)) refl
      in
      let b : only (not (has_begun st' x)) (children n par (λ c. only (has_ended st' c) (out c)) x) ≡ 0 =
      rw (le-leb running (st' x) (omega arith)) refl
      in
      let c : only (has_begun st x && not (has_ended st x)) (need n par work out x) ≡ 0 =
      rw (lt-leb running (st x) (omega arith)) refl
      in
      let d : only (not (has_begun st x)) (children n par (λ c. only (has_ended st c) (out c)) x) ≡ children n par (λ c. only (has_ended st c) (out c)) x =
      rw (lt-leb running (st x) (omega arith)) refl
      in
      omega arith)
      (λ i u v.
      let begun : has_begun st' i ≡ has_begun st i = ap (leb running) (moved.elsewhere i u v) in
      let ended = same_ended i u in
      ap₂ (λ (p q : ℕ). p + q)
      (ap₂ (λ (p q : Bool). only (p && not q) (need n par work out i)) begun ended)
      (ap₂ (λ (p : Bool) (q : ℕ). only (not p) q) begun (arrives i)))
      in
      used-is st' ∙ sum ∙ ap (λ (v : ℕ). v + (work x + out x)) (sym (used-is st))

  -- a running task with a parent ends, and the parent has not begun
  pub used-ended :
      (st st' : ℕ → ℕ) (j : ℕ)
      → Task n j
      → st j ≡ running
      → (par j ≡ 0 → ⊥)
      → ((i : ℕ) → Task n i → par j ≡ i → st i ≤ activated)
      → Moved n st st' j finished
      → in_process_by n par work out st' + need n par work out j ≡ in_process_by n par work out st + out j
  unfolding charge
  used-ended st st' j t runs higher idle moved =
      let new = moved.there in
      let mid : ℕ → ℕ = λ i. charge n par work out st i + only (eqb (par j) i) (out j) in
      let arrives : (i : ℕ) → children n par (λ c. only (has_ended st' c) (out c)) i ≡ children n par (λ c. only (has_ended st c) (out c)) i + only (eqb (par j) i) (out j) =
      λ i.
      children-change n par (λ c. only (has_ended st c) (out c)) (λ c. only (has_ended st' c) (out c)) j (out j) i t
      (let a = only-false (has_ended st j) (out j) (ne_eqb (st j) finished (λ q. omega arith)) in
      let b = only-true (has_ended st' j) (out j) (eq-eqb (st' j) finished new) in
      omega arith)
      (λ c u d. ap (λ (v : ℕ). only (eqb v finished) (out c)) (moved.elsewhere c u d))
      in
      let own-parent : only (eqb (par j) j) (out j) ≡ 0 =
      only-false (eqb (par j) j) (out j) (ne_eqb (par j) j (λ e. let h = idle j t e in omega arith))
      in
      let sum =
      sum-change (charge n par work out st') mid n j (need n par work out j) t
      (let a : only (has_begun st' j && not (has_ended st' j)) (need n par work out j) ≡ 0 =
      rw (le-leb running (st' j) (omega arith), eq-eqb (st' j) finished new) refl
      in
      let b : only (not (has_begun st' j)) (children n par (λ c. only (has_ended st' c) (out c)) j) ≡ 0 =
      rw (le-leb running (st' j) (omega arith)) refl
      in
      let c : only (has_begun st j && not (has_ended st j)) (need n par work out j) ≡ need n par work out j =
      rw (le-leb running (st j) (omega arith), ne_eqb (st j) finished (λ q. omega arith)) refl
      in
      let d : only (not (has_begun st j)) (children n par (λ c. only (has_ended st c) (out c)) j) ≡ 0 =
      rw (le-leb running (st j) (omega arith)) refl
      in
      omega arith)
      (λ i u v.
      let same = moved.elsewhere i u v in
      let begun : has_begun st' i ≡ has_begun st i = ap (leb running) same in
      let ended : has_ended st' i ≡ has_ended st i = ap (λ (w : ℕ). eqb w finished) same in
      let first : only (has_begun st' i && not (has_ended st' i)) (need n par work out i) ≡ only (has_begun st i && not (has_ended st i)) (need n par work out i) =
      ap₂ (λ (p q : Bool). only (p && not q) (need n par work out i)) begun ended
      in
      let second : only (not (has_begun st' i)) (children n par (λ c. only (has_ended st' c) (out c)) i) ≡ only (not (has_begun st i)) (children n par (λ c. only (has_ended st c) (out c)) i) + only (not (has_begun st i)) (only (eqb (par j) i) (out j)) =
      ap₂ (λ (p : Bool) (q : ℕ). only (not p) q) begun (arrives i)
      ∙ only-add (not (has_begun st i)) (children n par (λ c. only (has_ended st c) (out c)) i) (only (eqb (par j) i) (out j))
      in
      let third : only (not (has_begun st i)) (only (eqb (par j) i) (out j)) ≡ only (eqb (par j) i) (out j) =
      ⊎_elim
      (λ e.
      let low = idle i u e in
      only-true (not (has_begun st i)) (only (eqb (par j) i) (out j)) (ap (λ (b : Bool). not b) (lt-leb running (st i) (omega arith))))
      (λ d.
      let none = only-false (eqb (par j) i) (out j) (ne_eqb (par j) i d) in
      ap (only (not (has_begun st i))) none ∙ only_zero (not (has_begun st i)) ∙ sym none)
      (same_or_not (par j) i)
      in
      omega arith)
      in
      let parts = sum-add (charge n par work out st) (λ i. only (eqb (par j) i) (out j)) n in
      let one : sum_to (λ i. only (eqb (par j) i) (out j)) n ≡ out j =
      (let w = within j t in
      sum-cong (λ i. only (eqb (par j) i) (out j)) (λ i. only (eqb i (par j)) (out j)) n
      (λ i _. ap (λ (b : Bool). only b (out j)) (eqb-sym (par j) i))
      ∙ sum-single (λ _. out j) n (par j) (omega arith))
      in
      let before = used-is st in
      let after = used-is st' in
      omega arith
