-- A valid activation order gives each task a rank, its place, that rises towards the root.
use mathlib.Core.Path.{◌≡◌, refl, ◌∙◌}
use mathlib.Core.Bool.{true, false}
use mathlib.Core.Logic.{⊎_elim}
use mathlib.Core.List.{List, ◌∷◌, ◌++◌}
use Prim.Native.Nat.{ℕ, ◌+◌, ◌≤◌, ◌<◌}
use native.Mathlib.Omega.{arith}
use lib.ListN.{length}
use Rattle.numbers.specs.Lists.{mem, place}
use Rattle.numbers.specs.Sums.{within}
use Rattle.tree.specs.Tree.{rank_in, Valid, Tree}
use Rattle.numbers.proofs.Tests.{decide}
use Rattle.numbers.proofs.Sums.{Task}
use Rattle.tree.proofs.Orders.{within-task, every-mem, mem-here, mem-among, place-lt, place-second, place-split, place-injective, new-behind, all_in, ordered-rises}

module _ (n : ℕ) (par : ℕ → ℕ) (order : List ℕ) (valid : Valid n par order) where
  -- every task stands in the order
  pub stands : (i : ℕ) → Task n i → mem i order ≡ true
  stands = all_in n order valid.inside valid.once valid.whole

  -- whoever stands in the order is a task
  pub member-task : (x : ℕ) → mem x order ≡ true → Task n x
  member-task x m = within-task n x (every-mem (λ i. within i n) order x valid.inside m)

  -- an entry of the order is a task
  pub entry : (pre : List ℕ) (x : ℕ) (later : List ℕ) → order ≡ pre ++ x ∷ later → Task n x
  entry pre x later e =
      member-task x (rw e (mem-among x x pre later ∙ mem-here x x (pre ++ later) refl))

  -- two tasks of one rank are one
  pub same_rank : (i j : ℕ) → Task n i → Task n j → rank_in order i ≡ rank_in order j → i ≡ j
  same_rank i j t u e = place-injective i j order (stands i t) (stands j u) e

  pub tree_of : ((i : ℕ) → Task n i → par i ≤ n) → Tree n par (rank_in order)
  tree_of inside =
      record {
        within = inside;
        rises = λ i t d. (ordered-rises par order i valid.upward valid.once (stands i t) d).rises;
        below = λ i t. let p = place-lt i order (stands i t) in let w = valid.whole in omega arith;
      }

  -- those of lower rank than x stand in front of it
  pub in-front :
      (pre : List ℕ) (x : ℕ) (later : List ℕ)
      → order ≡ pre ++ x ∷ later
      → (j : ℕ)
      → rank_in order j < rank_in order x
      → mem j pre ≡ true
  in-front pre x later e j h =
      ⊎_elim (λ m. m)
      (λ (m : mem j pre ≡ false).
      let own : place x order ≡ length pre = rw e (place-split x pre later (new-behind pre x later (rw e at valid.once))) in
      let other : place j order ≡ length pre + place j (x ∷ later) = rw e (place-second j pre (x ∷ later) m) in
      absurd (omega arith))
      (decide (mem j pre))
