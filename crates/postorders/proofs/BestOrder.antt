-- Of the orders that finish each subtree none has a lower peak than the one found.
use mathlib.Core.Path.{◌≡◌, sym, ◌∙◌}
use mathlib.Core.List.{List, flat_map}
use Prim.Native.Nat.{ℕ, zero, suc, ◌+◌, ◌≤◌, ◌<◌, max}
use native.Mathlib.Omega.{arith}
use Rattle.numbers.specs.Sums.{Task}
use Rattle.tree.specs.Tree.{children, Tree}
use Rattle.tree.specs.Peak.{peak}
use Rattle.postorders.specs.Postorder.{children_of, peak_less_out, best_postorder}
use Rattle.tree.proofs.Orders.{sum_over}
use Rattle.tree.proofs.Peaks.{kept, peak-alone}
use Rattle.postorders.proofs.Sorting.{sorted-taken}
use Rattle.postorders.proofs.Siblings.{Child, children-rising, child-of}
use Rattle.postorders.proofs.Exchange.{cost, falling-lowest}
use Rattle.postorders.proofs.Subtrees.{Finishes}
use Rattle.postorders.proofs.Levels.{found_key, found_children, found-permuted, child-low, found-finishes}
use Rattle.postorders.proofs.FinishedOrders.{subtree-left, finishes-subtree}
use Rattle.postorders.proofs.Costs.{Costs, CostsBefore, kept-child, costs-alone, each-costs, given-costs, node-costs}

module _ (n : ℕ) (par work out : ℕ → ℕ) where
  -- an order that finishes each subtree has a cost, not below the task's out
  finishes-costs :
      (most i : ℕ) (l : List ℕ)
      → Task n i
      → Finishes most n par i l
      → (p : ℕ) × Costs n par work out l p (kept par out i) × (out i ≤ p)
  unfolding Finishes
  finishes-costs zero i l t f = absurd f
  finishes-costs (suc most) i l t f =
      let q =
      each-costs n par work out (Finishes most n par) (λ _. 0) f.0 f.1
      (λ c a e g.
      let child = child-of n par i f.0 f.2 c e in
      let k = finishes-costs most c a child.task g in
      (k.0, rw (kept-child par out c i child.parent t.low) at k.1, omega arith))
      f.3 in (
        max q.0 (children n par out i + work i + out i),
        rw f.4 (node-costs n par work out i f.0 f.1 q.0 f.2 q.1),
        omega arith,
      )

module _ (n : ℕ) (par work out rank : ℕ → ℕ) (tree : Tree n par rank) where
  -- and that is its peak
  costs-peak :
      (most i : ℕ) (l : List ℕ) (p o : ℕ)
      → Task n i
      → Finishes most n par i l
      → Costs n par work out l p o
      → peak n par work out l ≡ p
  costs-peak most i l p o t f c =
      peak-alone n par work out l (subtree-left n par rank tree i l t (finishes-subtree n par rank tree most i l t f))
      ∙ costs-alone n par work out l p o c

  -- so it costs its peak, which is not below the task's out
  pub peak-costs :
      (most i : ℕ) (l : List ℕ)
      → Task n i
      → Finishes most n par i l
      → Costs n par work out l (peak n par work out l) (kept par out i) × (out i ≤ peak n par work out l)
  peak-costs most i l t f =
      let k = finishes-costs n par work out most i l t f in
      let same : peak n par work out l ≡ k.0 = costs-peak most i l k.0 (kept par out i) t f k.1 in
      (rw same k.1, rw same k.2)

  -- that of a child leaves its out
  child-costs :
      (most i c : ℕ) (a : List ℕ)
      → Task n i
      → Child n par i c
      → Finishes most n par c a
      → Costs n par work out a (peak n par work out a) (out c) × (out c ≤ peak n par work out a)
  child-costs most i c a t child f =
      let k = peak-costs most c a child.task f in
      (rw (kept-child par out c i child.parent t.low) at k.0, k.1)

  -- so does the one found for it
  found-costs :
      (most i c : ℕ)
      → Task n i
      → rank i < suc most
      → Child n par i c
      → Costs n par work out (best_postorder most n par work out c) (peak n par work out (best_postorder most n par work out c)) (out c)
      × (out c ≤ peak n par work out (best_postorder most n par work out c))
  found-costs most i c t h child =
      child-costs most i c (best_postorder most n par work out c) t child
      (found-finishes n par work out rank tree most c child.task (child-low n par rank tree most i c t h child))

  -- the peak of the order found: its children's orders in their sequence, and the task
  pub found-peak :
      (most i : ℕ)
      → Task n i
      → rank i < suc most
      → peak n par work out (best_postorder (suc most) n par work out i)
      ≡ max (cost (λ c. peak n par work out (best_postorder most n par work out c)) out (found_children most n par work out i))
      (children n par out i + work i + out i)
  unfolding best_postorder
  found-peak most i t h =
      let best : ℕ → ℕ = λ c. peak n par work out (best_postorder most n par work out c) in
      let s = found_children most n par work out i in
      let permuted = found-permuted n par work out most i in
      let given : CostsBefore n par work out (flat_map (best_postorder most n par work out) s) (cost best out s) (sum_over out s)
      = given-costs n par work out (best_postorder most n par work out) best s
      (λ c e. (found-costs most i c t h (child-of n par i s permuted c e)).0) in
      costs-peak (suc most) i (best_postorder (suc most) n par work out i) (max (cost best out s) (children n par out i + work i + out i))
      (kept par out i) t (found-finishes n par work out rank tree (suc most) i t h)
      (node-costs n par work out i s (flat_map (best_postorder most n par work out) s) (cost best out s) permuted given)

-- no order that finishes each subtree has a lower peak than the order found
pub lowest :
    (n : ℕ) (par work out rank : ℕ → ℕ)
    → Tree n par rank
    → (most i : ℕ)
    → Task n i
    → rank i < most
    → (l : List ℕ)
    → Finishes most n par i l
    → peak n par work out (best_postorder most n par work out i) ≤ peak n par work out l
unfolding Finishes peak_less_out
lowest n par work out rank tree zero i t h l f = absurd f
lowest n par work out rank tree (suc most) i t h l f =
    let best : ℕ → ℕ = λ c. peak n par work out (best_postorder most n par work out c) in
    let cs = f.0 in
    let s = found_children most n par work out i in
    let last = children n par out i + work i + out i in
    let permuted = found-permuted n par work out most i in
    let q =
    each-costs n par work out (Finishes most n par) best cs f.1
    (λ c a e g.
    let child = child-of n par i cs f.2 c e in (
      peak n par work out a,
      (child-costs n par work out rank tree most i c a t child g).0,
      lowest n par work out rank tree most c child.task (child-low n par rank tree most i c t h child) a g,
    ))
    f.3 in
    let own : peak n par work out l ≡ max q.0 last
    = costs-peak n par work out rank tree (suc most) i l (max q.0 last) (kept par out i) t f
    (rw f.4 (node-costs n par work out i cs f.1 q.0 f.2 q.1)) in
    let sorted : cost best out s ≤ cost best out cs
    = falling-lowest best out s cs (sorted-taken (found_key most n par work out) (children_of n par i) (children-rising n par i))
    (λ c e. (found-costs n par work out rank tree most i c t h (child-of n par i s permuted c e)).1)
    permuted.once (λ c. sym (permuted.same c) ∙ f.2.same c) f.2.once in
    omega (arith, q.2, found-peak n par work out rank tree most i t h)
