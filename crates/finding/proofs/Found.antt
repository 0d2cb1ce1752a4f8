-- Laws of the order that is found, where its tasks form a tree: its peak by those of its children, and that no task stands there twice.
use mathlib.Core.Path.{◌≡◌, sym, ap, ◌∙◌}
use mathlib.Core.Bool.{true}
use mathlib.Core.List.{List, [], ◌∷◌, flat_map}
use Prim.Native.Nat.{ℕ, ◌+◌, ◌≤◌, max}
use native.Mathlib.Omega.{arith}
use Rattle.numbers.specs.Sums.{Task}
use Rattle.numbers.specs.Lists.{mem, distinct}
use Rattle.tree.specs.Peak.{peak}
use Rattle.tree.specs.Tree.{Tree}
use Rattle.postorders.specs.Postorder.{best_postorder}
use Rattle.numbers.proofs.Tests.{fails}
use Rattle.tree.proofs.Orders.{mem-left, Apart, distinct_more, distinct_append, sum_over}
use Rattle.postorders.proofs.Siblings.{children-along}
use Rattle.postorders.proofs.Exchange.{cost}
use Rattle.postorders.proofs.Levels.{found_children, found-permuted, found-finishes, found-node}
use Rattle.postorders.proofs.BestOrder.{peak-costs}
use Rattle.postorders.proofs.BestOrder as best
use Rattle.postorders.proofs.Taking.{found-subtree}

module _ (n : ℕ) (par work out rank : ℕ → ℕ) (tree : Tree n par rank) where
  -- the order that is found of each task, and the children in the sequence in which they are taken
  abbrev found : ℕ → List ℕ
  found = best_postorder n n par work out

  abbrev sequence : ℕ → List ℕ
  sequence = found_children n n par work out

  -- its peak is not below the out of its task
  pub found-enough : (i : ℕ) → Task n i → out i ≤ peak n par work out (found i)
  found-enough i t =
      (peak-costs n par work out rank tree n i (found i) t (found-finishes n par work out rank tree n i t (tree.below i t))).1

  -- its peak by those of its children
  pub found-peak :
      (i : ℕ)
      → Task n i
      → peak n par work out (found i)
      ≡ max (cost (λ c. peak n par work out (found c)) out (sequence i)) (sum_over out (sequence i) + work i + out i)
  unfolding best_postorder
  found-peak i t =
      let below = tree.below i t in
      ap (peak n par work out) (found-node n par work out rank tree i t)
      ∙ best.found-peak n par work out rank tree n i t (omega arith)
      ∙ ap (λ (x : ℕ). max (cost (λ c. peak n par work out (found c)) out (sequence i)) (x + work i + out i))
      (sym (children-along n par i (sequence i) (found-permuted n par work out n i) out))

  -- no task stands in two of the children's orders, and nobody in any
  pub found-once : (i : ℕ) → Task n i → distinct (0 ∷ flat_map found (sequence i)) ≡ true
  found-once i t =
      let subtree = found-subtree n par work out rank tree i t in
      let flat = flat_map found (sequence i) in
      let node = found-node n par work out rank tree i t in
      let apart : Apart flat (i ∷ []) = distinct_append flat (i ∷ []) (sym (ap distinct node) ∙ subtree.once) in
      distinct_more 0 flat
      (fails (mem 0 flat)
      (λ m.
      let at-0 : Task n 0 = subtree.tasks 0 (ap (mem 0) node ∙ mem-left 0 flat (i ∷ []) m) in
      omega arith))
      apart.first
