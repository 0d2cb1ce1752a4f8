-- Laws of sums and counts over the tasks 1 to n.
use mathlib.Core.Path.{◌≡◌, refl, sym, ap, ◌∙◌}
use mathlib.Core.Bool.{Bool, true, false, ◌&&◌}
use mathlib.Core.Logic.{◌⊎◌, inl, inr, ⊎_elim}
use Prim.Native.Nat.{ℕ, zero, suc, ◌+◌, ◌*◌, ◌≤◌}
use native.Mathlib.Nat.{mul-suc}
use native.Mathlib.Omega.{arith}
use lib.Dec.{eqb}
use borrow.Author.Tests.{eq-eqb, ne_eqb}
use Rattle.numbers.specs.Sums.{only, sum_to, every_to, count_to}
pub use Rattle.numbers.specs.Sums.{Task}
use Rattle.numbers.proofs.Tests.{decide, clash, same_or_not, and-true, and_both, and-false}

-- sums of equal terms are equal
pub sum-cong : (f g : ℕ → ℕ) (n : ℕ) → ((i : ℕ) → Task n i → f i ≡ g i) → sum_to f n ≡ sum_to g n
unfolding sum_to
sum-cong f g zero h = refl
sum-cong f g (suc n) h =
    let before : sum_to f n ≡ sum_to g n = sum-cong f g n (λ i t. h i (omega arith)) in
    let here : f (suc n) ≡ g (suc n) = h (suc n) (omega arith) in
    omega arith

-- sums of smaller terms are smaller
pub sum-le : (f g : ℕ → ℕ) (n : ℕ) → ((i : ℕ) → Task n i → f i ≤ g i) → sum_to f n ≤ sum_to g n
unfolding sum_to
sum-le f g zero h = omega arith
sum-le f g (suc n) h =
    let before : sum_to f n ≤ sum_to g n = sum-le f g n (λ i t. h i (omega arith)) in
    let here : f (suc n) ≤ g (suc n) = h (suc n) (omega arith) in
    omega arith

-- the sum of sums
pub sum-add : (f g : ℕ → ℕ) (n : ℕ) → sum_to (λ i. f i + g i) n ≡ sum_to f n + sum_to g n
unfolding sum_to
sum-add f g zero = refl
sum-add f g (suc n) = omega (arith, sum-add f g n)

-- a sum of nothing
pub sum-zero : (f : ℕ → ℕ) (n : ℕ) → ((i : ℕ) → Task n i → f i ≡ 0) → sum_to f n ≡ 0
unfolding sum_to
sum-zero f zero h = refl
sum-zero f (suc n) h =
    let before : sum_to f n ≡ 0 = sum-zero f n (λ i t. h i (omega arith)) in
    let here : f (suc n) ≡ 0 = h (suc n) (omega arith) in
    omega arith

-- one term is at most the sum
pub term-le : (f : ℕ → ℕ) (n x : ℕ) → Task n x → f x ≤ sum_to f n
unfolding sum_to
term-le f zero x t = omega arith
term-le f (suc n) x t =
    ⊎_elim (λ e. let here : f x ≡ f (suc n) = ap f e in omega arith)
    (λ d. let before : f x ≤ sum_to f n = term-le f n x (omega arith) in omega arith) (same_or_not x (suc n))

-- one term changed: the sum changes as much
pub sum-change :
    (f g : ℕ → ℕ) (n x d : ℕ)
    → Task n x
    → g x ≡ f x + d
    → ((i : ℕ) → Task n i → (i ≡ x → ⊥) → g i ≡ f i)
    → sum_to g n ≡ sum_to f n + d
unfolding sum_to
sum-change f g zero x d t at_x other = omega arith
sum-change f g (suc n) x d t at_x other =
    ⊎_elim
    (λ e.
    let before : sum_to g n ≡ sum_to f n = sum-cong g f n (λ i r. other i (omega arith) (λ q. omega arith)) in
    let here : g (suc n) ≡ g x = ap g (sym e) in
    let there : f x ≡ f (suc n) = ap f e in
    omega arith)
    (λ v.
    let before : sum_to g n ≡ sum_to f n + d = sum-change f g n x d (omega arith) at_x (λ i r. other i (omega arith)) in
    let here : g (suc n) ≡ f (suc n) = other (suc n) (omega arith) (λ q. v (sym q)) in
    omega arith)
    (same_or_not x (suc n))

-- a test that is decided leaves the value, or 0
pub only-true : (t : Bool) (x : ℕ) → t ≡ true → only t x ≡ x
only-true t x e = rw e

pub only-false : (t : Bool) (x : ℕ) → t ≡ false → only t x ≡ 0
only-false t x e = rw e

pub only_zero : (t : Bool) → only t 0 ≡ 0
only_zero true = refl
only_zero false = refl

pub only-le : (t : Bool) (x : ℕ) → only t x ≤ x
only-le true x = omega arith
only-le false x = omega arith

pub only-add : (t : Bool) (x y : ℕ) → only t (x + y) ≡ only t x + only t y
only-add true x y = refl
only-add false x y = refl

-- values that are compared only where the test holds
pub only-mono : (t : Bool) (x y : ℕ) → (t ≡ true → x ≤ y) → only t x ≤ only t y
only-mono true x y h = h refl
only-mono false x y h = omega arith

pub only-cong : (t : Bool) (x y : ℕ) → (t ≡ true → x ≡ y) → only t x ≡ only t y
only-cong true x y h = h refl
only-cong false x y h = refl

-- both of two tests, one after the other
pub only-and : (s t : Bool) (x : ℕ) → only (s && t) x ≡ only s (only t x)
only-and true t x = refl
only-and false t x = refl

-- two tests in either order
pub only-swap : (s t : Bool) (x : ℕ) → only s (only t x) ≡ only t (only s x)
only-swap true t x = refl
only-swap false true x = refl
only-swap false false x = refl

-- a sum with one term
pub sum-single : (f : ℕ → ℕ) (n x : ℕ) → Task n x → sum_to (λ i. only (eqb i x) (f i)) n ≡ f x
sum-single f n x t =
    sum-change (λ _. 0) (λ i. only (eqb i x) (f i)) n x (f x) t (only-true (eqb x x) (f x) (eq-eqb x x refl) ∙ omega arith)
    (λ i _ d. only-false (eqb i x) (f i) (ne_eqb i x d))
    ∙ (let z : sum_to (λ _. 0) n ≡ 0 = sum-zero (λ _. 0) n (λ _ _. refl) in omega arith)

-- a test goes into a sum
pub only_sum : (t : Bool) (f : ℕ → ℕ) (n : ℕ) → only t (sum_to f n) ≡ sum_to (λ i. only t (f i)) n
only_sum true f n = refl
only_sum false f n = sym (sum-zero (λ _. 0) n (λ _ _. refl))

-- a sum of sums, in either order
pub sum-swap :
    (f : ℕ → ℕ → ℕ) (m n : ℕ) → sum_to (λ i. sum_to (λ j. f i j) n) m ≡ sum_to (λ j. sum_to (λ i. f i j) m) n
unfolding sum_to
sum-swap f zero n = sym (sum-zero (λ _. 0) n (λ _ _. refl))
sum-swap f (suc m) n =
    let before : sum_to (λ i. sum_to (λ j. f i j) n) m ≡ sum_to (λ j. sum_to (λ i. f i j) m) n = sum-swap f m n in
    let both : sum_to (λ j. sum_to (λ i. f i j) m + f (suc m) j) n ≡ sum_to (λ j. sum_to (λ i. f i j) m) n + sum_to (f (suc m)) n
    = sum-add (λ j. sum_to (λ i. f i j) m) (f (suc m)) n in
    omega arith

-- a sum of n terms, none above b
pub sum-most : (f : ℕ → ℕ) (n b : ℕ) → ((i : ℕ) → Task n i → f i ≤ b) → sum_to f n ≤ b * n
unfolding sum_to
sum-most f zero b most = omega arith
sum-most f (suc n) b most =
    let before : sum_to f n ≤ b * n = sum-most f n b (λ i t. most i (omega arith)) in
    let here : f (suc n) ≤ b = most (suc n) (omega arith) in
    omega (arith, mul-suc b n)

-- a positive sum has a positive term
pub sum-positive : (f : ℕ → ℕ) (n : ℕ) → 1 ≤ sum_to f n → (i : ℕ) × Task n i × (1 ≤ f i)
unfolding sum_to
sum-positive f zero h = absurd (omega arith)
sum-positive f (suc n) h =
    ⊎_elim (λ e. let k = sum-positive f n (omega arith) in (k.0, omega (arith, k.1), k.2))
    (λ d. (suc n, omega arith, omega arith)) (same_or_not (f (suc n)) 0)

-- a count is nothing just where no task passes
pub count_none : (test : ℕ → Bool) (n : ℕ) → ((i : ℕ) → Task n i → test i ≡ false) → count_to test n ≡ 0
unfolding count_to
count_none test n h = sum-zero (λ i. only (test i) 1) n (λ i t. only-false (test i) 1 (h i t))

pub none-counted : (test : ℕ → Bool) (n : ℕ) → count_to test n ≡ 0 → (i : ℕ) → Task n i → test i ≡ false
unfolding count_to
none-counted test n h i t = go (decide (test i))
  where
    go : (test i ≡ true) ⊎ (test i ≡ false) → test i ≡ false
    go (inl e) =
        let here : only (test i) 1 ≡ 1 = only-true (test i) 1 e in
        absurd (omega (arith, term-le (λ k. only (test k) 1) n i t))
    go (inr e) = e

-- a count that is not nothing has a task
pub counted : (test : ℕ → Bool) (n : ℕ) → 1 ≤ count_to test n → (i : ℕ) × Task n i × (test i ≡ true)
unfolding count_to
counted test n h = let k = sum-positive (λ i. only (test i) 1) n h in (k.0, k.1, passes k.0 k.2)
  where
    passes : (i : ℕ) → 1 ≤ only (test i) 1 → test i ≡ true
    passes i p = go (decide (test i))
      where
        go : (test i ≡ true) ⊎ (test i ≡ false) → test i ≡ true
        go (inl e) = e
        go (inr e) = absurd (omega (arith, only-false (test i) 1 e))

-- no more than n are counted, and all n where all pass
pub count-le : (test : ℕ → Bool) (n : ℕ) → count_to test n ≤ n
unfolding count_to sum_to
count-le test zero = omega arith
count-le test (suc n) = let k = count-le test n in let o = only-le (test (suc n)) 1 in omega arith

pub count-all : (test : ℕ → Bool) (n : ℕ) → ((i : ℕ) → Task n i → test i ≡ true) → count_to test n ≡ n
unfolding count_to sum_to
count-all test zero h = refl
count-all test (suc n) h =
    let k = count-all test n (λ i t. h i (omega arith)) in
    let o = only-true (test (suc n)) 1 (h (suc n) (omega arith)) in
    omega arith

-- each task passes the test, as a whole and one by one, or one does not
pub every-to : (test : ℕ → Bool) (n : ℕ) → ((i : ℕ) → Task n i → test i ≡ true) → every_to test n ≡ true
unfolding every_to
every-to test zero h = refl
every-to test (suc n) h =
    and_both (every_to test n) (test (suc n)) (every-to test n (λ i t. h i (omega arith))) (h (suc n) (omega arith))

pub every_one : (test : ℕ → Bool) (n i : ℕ) → every_to test n ≡ true → Task n i → test i ≡ true
unfolding every_to
every_one test zero i all t = absurd (omega arith)
every_one test (suc n) i all t =
    let both = and-true (every_to test n) (test (suc n)) all in
    ⊎_elim (λ (e : i ≡ suc n). ap test e ∙ both.1) (λ d. every_one test n i both.0 (omega arith)) (same_or_not i (suc n))

pub not-every : (test : ℕ → Bool) (n : ℕ) → every_to test n ≡ false → (i : ℕ) × Task n i × (test i ≡ false)
unfolding every_to
not-every test zero e = absurd (clash refl e)
not-every test (suc n) e =
    ⊎_elim (λ f. let k = not-every test n f in (k.0, omega (arith, k.1), k.2)) (λ f. (suc n, omega arith, f))
    (and-false (every_to test n) (test (suc n)) e)
