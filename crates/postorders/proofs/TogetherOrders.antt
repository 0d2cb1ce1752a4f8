-- An order in which each subtree stands together finishes each subtree before it turns to its neighbour, by the tree.
use mathlib.Core.Path.{◌≡◌, refl}
use mathlib.Core.List.{List, []}
use Prim.Native.Nat.{ℕ, zero, suc, ◌≤◌, ◌<◌}
use native.Mathlib.Omega.{arith}
use borrow.Author.Tests.{eqb-true, eq-eqb}
use Rattle.numbers.specs.Sums.{Task}
use Rattle.tree.specs.Tree.{is_child, roots, Valid, rank_in, Tree, up}
use Rattle.postorders.specs.Postorder.{children_of}
use Rattle.postorders.specs.FindHolds.{Together}
use Rattle.tree.proofs.Ranks.{stands, member-task, tree_of}
use Rattle.postorders.proofs.Sorting.{Permuted}
use Rattle.postorders.proofs.Siblings.{child-of, permuted-by}
use Rattle.postorders.proofs.Subtrees.{Finishes, each-finishes}
use Rattle.postorders.proofs.Levels.{child-low}
use Rattle.postorders.proofs.Nested.{root-above}
use Rattle.postorders.proofs.Keeping.{keep_all, keep-in, kept, distinct-keep}
use Rattle.postorders.proofs.Groups.{subtree_in, below_in, children_in, groups, subtree-last}

-- the children of i as they stand in the order
children-stand :
    (n : ℕ) (par : ℕ → ℕ) (order : List ℕ)
    → Valid n par order
    → (i : ℕ)
    → Permuted (children_of n par i) (children_in par order i)
children-stand n par order valid i =
    permuted-by n par i (children_in par order i) (distinct-keep (is_child par i) order valid.once)
    (λ c e.
    let k = kept (is_child par i) order c e in
    record { task = member-task n par order valid c k.0; parent = eqb-true (par c) i k.1 })
    (λ c k. keep-in (is_child par i) order c (stands n par order valid c k.task) (eq-eqb (par c) i k.parent))

module _ (n : ℕ) (par : ℕ → ℕ) (order : List ℕ) (valid : Valid n par order) (tree : Tree n par (rank_in order))
    (together : Together n par order) where
  -- the tasks of a subtree, as they stand in the order
  subtree-finishes : (most i : ℕ) → Task n i → rank_in order i < most → Finishes most n par i (subtree_in n par order i)
  unfolding Finishes
  subtree-finishes zero i t h = absurd (omega arith)
  subtree-finishes (suc most) i t h = (
    children_in par order i,
    below_in n par order i,
    children-stand n par order valid i,
    rw (groups n par order valid tree together i t [] order refl)
        (each-finishes (Finishes most n par) (subtree_in n par order) (children_in par order i)
        (λ c e.
        let child = child-of n par i (children_in par order i) (children-stand n par order valid i) c e in
        subtree-finishes most c child.task (child-low n par (rank_in order) tree most i c t h child))),
    subtree-last n par order valid tree i t,
  )

-- an order in which each subtree stands together finishes each subtree
pub together-finishes :
    (n : ℕ) (par : ℕ → ℕ)
    → ((i : ℕ) → Task n i → par i ≤ n)
    → roots n par ≡ 1
    → (r : ℕ)
    → Task n r
    → par r ≡ 0
    → (order : List ℕ)
    → Valid n par order
    → Together n par order
    → Finishes n n par r order
together-finishes n par inside one r task root order valid together =
    let tree = tree_of n par order valid inside in
    let all : subtree_in n par order r ≡ order
    = keep_all (λ k. up n par r k) order
    (λ k m. root-above n par (rank_in order) tree one r task root k (member-task n par order valid k m)) in
    rw all at (subtree-finishes n par order valid tree together n r task (tree.below r task))
