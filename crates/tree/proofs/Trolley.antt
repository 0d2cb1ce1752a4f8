-- Trays in use by their parts: before the root has ended there is no loaded trolley, and once all have ended there is nothing else.
use mathlib.Core.Path.{◌≡◌, refl, sym, ap, ◌∙◌}
use mathlib.Core.Bool.{Bool, true, false, not, ◌&&◌}
use mathlib.Core.Logic.{⊎_elim}
use Prim.Native.Nat.{ℕ, ◌≤◌}
use native.Mathlib.Omega.{arith}
use lib.Dec.{eqb}
use borrow.Author.Tests.{eqb-true, eq-eqb, ne_eqb}
use Rattle.numbers.specs.Sums.{Task, only, sum_to}
use Rattle.tree.specs.Need.{need, resident, in_process, trolley}
use Rattle.tree.specs.Tree.{roots}
use Rattle.numbers.proofs.Tests.{decide, same_or_not, and_none}
use Rattle.numbers.proofs.Sums.{sum-cong, sum-zero, sum-single, only-true, only-false, only_zero, only-and, only_sum}
use Rattle.tree.proofs.Roots.{one-root}

-- what remains booked in a store once the root has ended: its out, until it is fetched
abbrev pub remains : (par out : ℕ → ℕ) (fetched : Bool) → ℕ → ℕ
remains par out fetched i = only (not fetched && eqb (par i) 0) (out i)

module _ (n : ℕ) (par out : ℕ → ℕ) (ended : ℕ → Bool) where
  -- the root has not ended
  pub no-trolley :
      (fetched : Bool) → ((r : ℕ) → Task n r → par r ≡ 0 → ended r ≡ false) → trolley n par out ended fetched ≡ 0
  unfolding trolley
  no-trolley fetched unended =
      ap (only (not fetched))
      (sum-zero (λ i. only (ended i && eqb (par i) 0) (out i)) n
      (λ i t.
      ⊎_elim (λ (z : eqb (par i) 0 ≡ true). rw (unended i t (eqb-true (par i) 0 z)) refl)
      (λ (z : eqb (par i) 0 ≡ false). rw (z, and_none (ended i)) refl) (decide (eqb (par i) 0))))
      ∙ only_zero (not fetched)

  module _ (all : (i : ℕ) → Task n i → ended i ≡ true) where
    -- all have ended
    pub all-trolley : (fetched : Bool) → trolley n par out ended fetched ≡ sum_to (remains par out fetched) n
    unfolding trolley
    all-trolley fetched =
        only_sum (not fetched) (λ i. only (ended i && eqb (par i) 0) (out i)) n
        ∙ sum-cong (λ i. only (not fetched) (only (ended i && eqb (par i) 0) (out i))) (remains par out fetched) n
        (λ i t. rw (all i t) (sym (only-and (not fetched) (eqb (par i) 0) (out i))))

    pub none-in-process :
        (work : ℕ → ℕ) (begun : ℕ → Bool)
        → ((i : ℕ) → Task n i → begun i ≡ true)
        → ((i : ℕ) → Task n i → par i ≤ n)
        → in_process n par work out ended begun ≡ 0
    unfolding in_process resident
    none-in-process work begun started within =
        let nobody =
        sum-zero (λ i. only (begun i && not (ended i)) (need n par work out i)) n (λ i t. rw (started i t, all i t) refl)
        in
        let nothing =
        sum-zero (λ i. only (ended i && not (eqb (par i) 0) && not (begun (par i))) (out i)) n
        (λ i t.
        ⊎_elim (λ z. rw (all i t, eq-eqb (par i) 0 z) refl)
        (λ d.
        let w = within i t in
        rw (all i t, ne_eqb (par i) 0 d, started (par i) (record { low = omega arith; high = w })) refl)
        (same_or_not (par i) 0))
        in
        omega arith

-- of one root its out remains, and once it is fetched nothing
pub root-remains :
    (n : ℕ) (par out : ℕ → ℕ)
    → roots n par ≡ 1
    → (r : ℕ)
    → Task n r
    → par r ≡ 0
    → sum_to (remains par out false) n ≡ out r
root-remains n par out one r t root =
    sum-cong (remains par out false) (λ i. only (eqb i r) (out i)) n
    (λ i u.
    ⊎_elim
    (λ q.
    only-true (eqb (par i) 0) (out i) (eq-eqb (par i) 0 (ap par q ∙ root)) ∙ sym (only-true (eqb i r) (out i) (eq-eqb i r q)))
    (λ d.
    only-false (eqb (par i) 0) (out i) (ne_eqb (par i) 0 (λ z. d (one-root n par one i r u t z root)))
    ∙ sym (only-false (eqb i r) (out i) (ne_eqb i r d)))
    (same_or_not i r))
    ∙ sum-single out n r t

pub nothing-remains : (n : ℕ) (par out : ℕ → ℕ) → sum_to (remains par out true) n ≡ 0
nothing-remains n par out = sum-zero (remains par out true) n (λ i t. refl)
