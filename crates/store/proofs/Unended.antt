-- Laws of children that have not ended, and of who is ready by them.
use mathlib.Core.Path.{◌≡◌, sym, ap, ap₂, ◌∙◌}
use mathlib.Core.Bool.{Bool, true, false, not, ◌&&◌}
use mathlib.Core.List.{List}
use Prim.Native.Nat.{ℕ, ◌+◌}
use lib.Dec.{eqb}
use Rattle.numbers.specs.Sums.{Task, only, count_to}
use Rattle.numbers.specs.Lists.{at}
use Rattle.books.specs.Standing.{activated, finished}
use Rattle.books.specs.Booking.{ready, fed}
use native.Mathlib.Omega.{arith}
use borrow.Author.Tests.{eq-eqb, ne_eqb}
use Rattle.numbers.proofs.Sums.{sum-cong, sum-change, only-and, only_zero}
use Rattle.books.proofs.Shape.{Moved}
use Rattle.store.specs.Cached.{unended_children}

-- the children that have not ended are the same where the same tasks have ended
pub unended-same :
    (n : ℕ) (par st st' : ℕ → ℕ) (i : ℕ)
    → ((c : ℕ) → Task n c → eqb (st' c) finished ≡ eqb (st c) finished)
    → unended_children n par st' i ≡ unended_children n par st i
unfolding unended_children count_to
unended-same n par st st' i same =
    sum-cong (λ c. only (eqb (par c) i && not (eqb (st' c) finished)) 1) (λ c. only (eqb (par c) i && not (eqb (st c) finished)) 1) n
    (λ c t. ap (λ (b : Bool). only (eqb (par c) i && not b) 1) (same c t))

-- a task is fed where no child has yet to end
pub fed-is : (n : ℕ) (par st : ℕ → ℕ) (i : ℕ) → fed n par st i ≡ eqb (unended_children n par st i) 0
unfolding fed unended_children
fed-is n par st i = λ _. fed n par st i

-- so that another task is ready as it was, if its own standing is as it was
pub ready-same :
    (n : ℕ) (par : ℕ → ℕ) (st st' : List ℕ) (i : ℕ)
    → ((c : ℕ) → Task n c → eqb (at st' c) finished ≡ eqb (at st c) finished)
    → at st' i ≡ at st i
    → ready n par st' i ≡ ready n par st i
unfolding ready
ready-same n par st st' i same e =
    ap₂ (λ (a b : Bool). a && b) (ap (λ (v : ℕ). eqb v activated) e)
    (fed-is n par (at st') i
    ∙ ap (λ (v : ℕ). eqb v 0) (unended-same n par (at st) (at st') i same)
    ∙ sym (fed-is n par (at st) i))

-- a child that ends is no longer one of those that have not
pub unended-one :
    (n : ℕ) (par st st' : ℕ → ℕ) (j i : ℕ)
    → Task n j
    → (st j ≡ finished → ⊥)
    → Moved n st st' j finished
    → unended_children n par st i ≡ unended_children n par st' i + only (eqb (par j) i) 1
unfolding unended_children count_to
unended-one n par st st' j i t d moved =
    sum-change (λ c. only (eqb (par c) i && not (eqb (st' c) finished)) 1) (λ c. only (eqb (par c) i && not (eqb (st c) finished)) 1) n j
    (only (eqb (par j) i) 1) t
    (let old : only (eqb (par j) i && not (eqb (st j) finished)) 1 ≡ only (eqb (par j) i) 1 =
    ap (λ (b : Bool). only (eqb (par j) i && not b) 1) (ne_eqb (st j) finished d)
    ∙ only-and (eqb (par j) i) true 1
    in
    let new : only (eqb (par j) i && not (eqb (st' j) finished)) 1 ≡ 0 =
    ap (λ (b : Bool). only (eqb (par j) i && not b) 1) (eq-eqb (st' j) finished moved.there)
    ∙ only-and (eqb (par j) i) false 1
    ∙ only_zero (eqb (par j) i)
    in
    omega arith)
    (λ c u e. ap (λ (v : ℕ). only (eqb (par c) i && not (eqb v finished)) 1) (sym (moved.elsewhere c u e)))
