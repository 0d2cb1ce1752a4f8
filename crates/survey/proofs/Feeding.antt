-- A loop that adds the out of each task to the entry of its parent.
use mathlib.Core.Path.{◌≡◌, ap, ◌∙◌}
use mathlib.Core.List.{List}
use Prim.Native.Nat.{ℕ, ◌+◌, ◌*◌, ◌^◌, ◌≤◌, ◌<◌}
use native.Mathlib.Omega.{arith}
use native.Mathlib.Numerals.{add-one}
use lib.Dec.{eqb}
use lib.ListN.{length, set, replicate, length-set, length-replicate, get_or-replicate}
use Rattle.numbers.specs.Sums.{only, sum_to}
use Rattle.numbers.specs.Lists.{at}
use Rattle.numbers.specs.Limits.{max_tasks}
use Rattle.tree.specs.Tree.{children}
use Rattle.numbers.proofs.Sums.{only-le}
use Rattle.words.specs.Layout.{rows}
use Rattle.store.proofs.Entries.{set_more}
use Rattle.survey.specs.Level.{Fed}

-- the outs of the children of i among one task more
children-more :
    (k : ℕ) (par out : ℕ → ℕ) (i : ℕ)
    → children (k + 1) par out i ≡ children k par out i + only (eqb (par (k + 1)) i) (out (k + 1))
unfolding children sum_to
children-more k par out i = rw (add-one k)

-- the outs of the first k of n tasks are with their parents
pub record Feeding (n : ℕ) (par out : ℕ → ℕ) (k : ℕ) (fed : List ℕ) : Type 0 where
  pub small : n ≤ max_tasks
  pub passed : k ≤ n
  pub size : length fed ≡ rows
  pub sums : (i : ℕ) → i ≤ n → at fed i ≡ children k par out i
  -- numbers of 32 bits
  pub fits : (i : ℕ) → i ≤ n → at fed i ≤ k * 2 ^ 32

pub fed-none :
    (n : ℕ) (par out : ℕ → ℕ) (fed : List ℕ) → n ≤ max_tasks → fed ≡ replicate rows 0 → Feeding n par out 0 fed
unfolding children sum_to
fed-none n par out fed small empty =
    let none : (i : ℕ) → i ≤ n → at fed i ≡ 0 =
    λ i h. ap (λ (l : List ℕ). at l i) empty ∙ get_or-replicate rows i 0 0 (omega arith)
    in
    record {
      small = small;
      passed = omega arith;
      size = ap length empty ∙ length-replicate {A = ℕ} rows 0;
      sums = none;
      fits = λ i h. let z = none i h in omega arith;
    }

module _ (n : ℕ) (par out : ℕ → ℕ) (k : ℕ) (fed : List ℕ) (f : Feeding n par out k fed) where
  -- one task more, with its parent
  pub fed-next :
      (p o : ℕ)
      → p ≡ par (k + 1)
      → o ≡ out (k + 1)
      → k < n
      → p ≤ n
      → o < 2 ^ 32
      → Feeding n par out (k + 1) (set fed p (at fed p + o))
  fed-next p o parent leaves h low narrow =
      let small = f.small in
      let size = f.size in
      let grows : (i : ℕ) → at (set fed p (at fed p + o)) i ≡ at fed i + only (eqb p i) o =
      λ i. set_more fed p o i (omega arith)
      in
      record {
        small = small;
        passed = omega arith;
        size = length-set fed p (at fed p + o) ∙ size;
        sums = λ i b.
            (let now = grows i in
            let before = f.sums i b in
            let more = rw (← parent, ← leaves) at (children-more k par out i) in
            omega arith);
        fits = λ i b.
            (let now = grows i in
            let before = f.fits i b in
            let most = only-le (eqb p i) o in
            omega arith);
      }

  -- all n tasks
  pub fed-all : n ≤ k → Fed n par out fed
  fed-all h i b = let end : k ≡ n = omega (arith, f.passed) in rw end at (f.sums i b)
