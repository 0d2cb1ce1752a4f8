-- The lowest of the tasks 1 to n that passes a test.
use mathlib.Core.Path.{◌≡◌, refl}
use mathlib.Core.Bool.{Bool, true, false}
use mathlib.Core.Logic.{◌⊎◌, inl, inr, ⊎_elim}
use Prim.Native.Nat.{ℕ, zero, suc, ◌≤◌, ◌<◌}
use native.Mathlib.Omega.{arith}
use borrow.Author.Tests.{ne_eqb}
use Rattle.numbers.specs.Sums.{Task, count_to, lowest_to}
use Rattle.numbers.proofs.Tests.{decide, clash, same_or_not}
use Rattle.numbers.proofs.Sums.{counted}

-- c passes, and nobody below it does
pub record Lowest (test : ℕ → Bool) (n c : ℕ) : Type 0 where
  pub task : Task n c
  pub passes : test c ≡ true
  pub below : (d : ℕ) → 1 ≤ d → d < c → test d ≡ false

-- where nobody passes there is none
pub lowest-none : (test : ℕ → Bool) (n : ℕ) → ((i : ℕ) → Task n i → test i ≡ false) → lowest_to test n ≡ 0
unfolding lowest_to
lowest-none test zero none = refl
lowest-none test (suc n) none =
    rw (lowest-none test n (λ i t. none i (omega arith)), none (suc n) (omega arith))

-- who is lowest is the one that is found
pub lowest-is : (test : ℕ → Bool) (n c : ℕ) → Lowest test n c → lowest_to test n ≡ c
unfolding lowest_to
lowest-is test zero c low = absurd (let t = low.task in omega arith)
lowest-is test (suc n) c low =
    ⊎_elim
    (λ (e : c ≡ suc n).
    rw (
      lowest-none test n (λ i t. low.below i (omega arith) (omega arith)),
      rw e at low.passes,
    ) (rw e))
    (λ d.
    let t = low.task in
    let found = lowest-is test n c (record { task = omega arith; passes = low.passes; below = low.below }) in
    rw (found, ne_eqb c 0 (λ z. omega arith)))
    (same_or_not c (suc n))

-- somebody passes, or nobody does
search : (test : ℕ → Bool) (n : ℕ) → ((c : ℕ) × Lowest test n c) ⊎ ((i : ℕ) → Task n i → test i ≡ false)
search test zero = inr (λ i t. absurd (omega arith))
search test (suc n) =
    ⊎_elim
    (λ f.
    let l = f.1 in
    let t = l.task in
    inl (f.0, record { task = omega arith; passes = l.passes; below = l.below }))
    (λ none.
    ⊎_elim
    (λ (e : test (suc n) ≡ true).
    inl (suc n, record { task = omega arith; passes = e; below = λ d p h. none d (omega arith) }))
    (λ (e : test (suc n) ≡ false).
    inr
    (λ i t.
    ⊎_elim (λ (q : i ≡ suc n). rw q e) (λ d. none i (omega arith)) (same_or_not i (suc n))))
    (decide (test (suc n))))
    (search test n)

-- where somebody is counted, the one that is found is the lowest
pub lowest-found : (test : ℕ → Bool) (n : ℕ) → 1 ≤ count_to test n → Lowest test n (lowest_to test n)
lowest-found test n some =
    ⊎_elim (λ f. rw (lowest-is test n f.0 f.1) f.1)
    (λ none. let k = counted test n some in absurd (clash k.2 (none k.0 k.1)))
    (search test n)
