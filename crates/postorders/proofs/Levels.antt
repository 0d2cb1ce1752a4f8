-- The order found for the subtree of a task, down to so many levels: it finishes each subtree, and more levels than the subtree has
-- change nothing.
use mathlib.Core.Path.{◌≡◌, refl, ap, ◌∙◌}
use mathlib.Core.List.{List, [], ◌∷◌, ◌++◌, flat_map}
use Prim.Native.Nat.{ℕ, zero, suc, ◌<◌}
use native.Mathlib.Omega.{arith}
use Rattle.numbers.specs.Sums.{Task}
use Rattle.tree.specs.Tree.{Tree}
use Rattle.postorders.specs.Postorder.{children_of, by_falling, peak_less_out, best_postorder}
use Rattle.postorders.proofs.Sorting.{Permuted, sorted-permuted, sorted-cong}
use Rattle.postorders.proofs.Siblings.{Child, child-in, children-once, child-of}
use Rattle.postorders.proofs.Subtrees.{Finishes, each-finishes}
use Rattle.tree.proofs.Concatenated.{flatMap-cong}

-- by what the children are sorted: what the order found for each frees
abbrev pub found_key : (most n : ℕ) (par work out : ℕ → ℕ) → ℕ → ℕ
found_key most n par work out c = peak_less_out n par work out (best_postorder most n par work out c) c

-- the children in the sequence in which they are taken
abbrev pub found_children : (most n : ℕ) (par work out : ℕ → ℕ) → ℕ → List ℕ
found_children most n par work out i = by_falling (found_key most n par work out) (children_of n par i)

-- they are the children
pub found-permuted :
    (n : ℕ) (par work out : ℕ → ℕ) (most i : ℕ) → Permuted (children_of n par i) (found_children most n par work out i)
found-permuted n par work out most i = sorted-permuted (found_key most n par work out) (children_of n par i) (children-once n par i)

-- levels that are enough for a task are enough for its children, with one fewer
pub child-low :
    (n : ℕ) (par rank : ℕ → ℕ)
    → Tree n par rank
    → (most i c : ℕ)
    → Task n i
    → rank i < suc most
    → Child n par i c
    → rank c < most
child-low n par rank tree most i c t h child =
    let q = child.parent in
    let rises = tree.rises c child.task (λ z. omega arith) in
    let r : rank (par c) ≡ rank i = ap rank q in
    omega arith

module _ (n : ℕ) (par work out rank : ℕ → ℕ) (tree : Tree n par rank) where
  -- the order found, down to enough levels, finishes each subtree
  pub found-finishes :
      (most i : ℕ)
      → Task n i
      → rank i < most
      → Finishes most n par i (best_postorder most n par work out i)
  unfolding Finishes best_postorder
  found-finishes zero i t h = absurd (omega arith)
  found-finishes (suc most) i t h =
      let permuted = found-permuted n par work out most i in (
        found_children most n par work out i,
        flat_map (best_postorder most n par work out) (found_children most n par work out i),
        permuted,
        each-finishes (Finishes most n par) (best_postorder most n par work out) (found_children most n par work out i)
            (λ c e.
            let child = child-of n par i (found_children most n par work out i) permuted c e in
            found-finishes most c child.task (child-low n par rank tree most i c t h child)),
        refl,
      )

  -- where each child has the same order, so has the task
  same-node :
      (most most' i : ℕ)
      → ((c : ℕ) → Child n par i c → best_postorder most n par work out c ≡ best_postorder most' n par work out c)
      → best_postorder (suc most) n par work out i ≡ best_postorder (suc most') n par work out i
  unfolding best_postorder
  same-node most most' i same =
      ap (λ (l : List ℕ). l ++ i ∷ [])
      (flatMap-cong (best_postorder most n par work out) (best_postorder most' n par work out) (found_children most n par work out i)
      (λ c e. same c (child-of n par i (found_children most n par work out i) (found-permuted n par work out most i) c e))
      ∙ ap (flat_map (best_postorder most' n par work out))
      (sorted-cong (found_key most n par work out) (found_key most' n par work out) (children_of n par i)
      (λ c e. ap (λ (l : List ℕ). peak_less_out n par work out l c) (same c (child-in n par i c e)))))

  -- levels that are enough
  levels-enough :
      (most most' i : ℕ)
      → Task n i
      → rank i < most
      → rank i < most'
      → best_postorder most n par work out i ≡ best_postorder most' n par work out i
  levels-enough zero most' i t h h' = absurd (omega arith)
  levels-enough (suc most) zero i t h h' = absurd (omega arith)
  levels-enough (suc most) (suc most') i t h h' =
      same-node most most' i
      (λ c child.
      levels-enough most most' c child.task (child-low n par rank tree most i c t h child)
      (child-low n par rank tree most' i c t h' child))

  -- so with n levels
  pub found-node :
      (i : ℕ)
      → Task n i
      → best_postorder n n par work out i
      ≡ flat_map (best_postorder n n par work out) (found_children n n par work out i) ++ i ∷ []
  unfolding best_postorder
  found-node i t =
      let b = tree.below i t in
      levels-enough n (suc n) i t b (omega arith)
