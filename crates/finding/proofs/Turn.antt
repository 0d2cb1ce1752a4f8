-- Laws of one task's turn: its children are sorted, their orders are joined, and it has its own order and its peak.
use mathlib.Core.Path.{◌≡◌, refl, sym, ap, ◌∙◌}
use mathlib.Core.Bool.{true}
use mathlib.Core.List.{List, [], ◌∷◌}
use Prim.Native.Nat.{ℕ, ◌+◌, ◌-◌, ◌≤◌, ◌<◌, max}
use native.Mathlib.Omega.{arith}
use lib.ListN.{length, set}
use Rattle.numbers.specs.Sums.{Task}
use Rattle.numbers.specs.Lists.{at, mem}
use Rattle.numbers.specs.Limits.{max_tasks}
use Rattle.tree.specs.Peak.{peak}
use Rattle.postorders.specs.Postorder.{children_of, by_falling, peak_less_out, best_postorder}
use Rattle.postorders.proofs.Siblings.{Child, child-in, child-of}
use Rattle.tree.proofs.Orders.{mem-here, mem-more, every-within, length-within, sum_over}
use Rattle.tree.proofs.Peaks.{peak-most}
use Rattle.postorders.proofs.Exchange.{cost}
use Rattle.postorders.proofs.Sorting.{sorted-cong}
use Rattle.postorders.proofs.Levels.{found_key, found_children, found-permuted, found-node}
use Rattle.children.specs.Scratch.{tall, first, sibling, subtree_peak, head, after, field}
use Rattle.children.specs.Links.{Passes}
use Rattle.children.specs.Sorting.{key_in, MaySort, Sorted}
use Rattle.children.specs.Linked.{linked_in, Linked}
use Rattle.children.proofs.Following.{passes_same}
use Rattle.children.proofs.Storing.{stored, stored_other, stored-length}
use Rattle.children.proofs.Walking.{walking-linked}
use Rattle.finding.specs.Joining.{highest, peak_along, MayWeigh, OrderAt, Joined}
use Rattle.finding.specs.Arranging.{MayJoin, HasJoined}
use Rattle.finding.proofs.Found.{found-enough, found-peak, found-once}

-- the peak of a sequence of orders, and of the task behind them, by their cost
highest-is :
    (p q o : ℕ → ℕ) (own : ℕ) (l : List ℕ)
    → ((c : ℕ) → mem c l ≡ true → p c ≡ q c)
    → highest p o own l ≡ max (cost q o l) (sum_over o l + own)
unfolding highest cost sum_over
highest-is p q o own [] same = omega arith
highest-is p q o own (c ∷ l) same =
    let here = same c (mem-here c c l refl) in
    let later = highest-is p q o own l (λ x m. same x (mem-more x c l m)) in
    omega arith

-- an order whose links are the same
pub order_same :
    (w w' : List ℕ) (c : ℕ) (l : List ℕ) (o : OrderAt w c l)
    → ((x : ℕ) → mem x o.front ≡ true → field after w' x ≡ field after w x)
    → field head w' c ≡ field head w c
    → OrderAt w' c l
order_same w w' c l o links begins =
    record {
      front = o.front;
      whole = o.whole;
      links = rw begins (passes_same (field after w) (field after w') (field head w c) o.front c links o.links);
    }

module _ (n : ℕ) (par work out : ℕ → ℕ) (i : ℕ) (w : List ℕ) (may : MayJoin n par work out i w) where
  abbrev order : ℕ → List ℕ
  order = best_postorder n n par work out

  abbrev cs : List ℕ
  cs = found_children n n par work out i

  pub may-sort : MaySort n par out i w
  may-sort =
      let small = may.plan.small in
      record {
        long = may.long;
        small = small;
        task = may.task;
        list = may.list;
        keyed = λ c t q.
            (let enough = found-enough n par work out may.plan.rank may.plan.tree c t in
            let is = (may.below c t q).peak_is in
            record { task = record { low = omega arith; high = omega arith }; enough = omega arith });
      }

  -- the keys are those of the rules
  sorted-is : by_falling (key_in out w) (children_of n par i) ≡ cs
  unfolding peak_less_out
  sorted-is =
      sorted-cong (key_in out w) (found_key n n par work out) (children_of n par i)
      (λ c m.
      let child = child-in n par i c m in
      ap (λ (x : ℕ). x - out c) (may.below c child.task child.parent).peak_is)

  cs-child : (c : ℕ) → mem c cs ≡ true → Child n par i c
  cs-child = child-of n par i cs (found-permuted n par work out n i)

  cs-few : length cs ≤ tall
  cs-few =
      let small = may.plan.small in
      let few = length-within n cs (every-within n cs (λ c m. (cs-child c m).task)) (found-permuted n par work out n i).once in
      omega arith

  cs-task : (c : ℕ) → mem c cs ≡ true → Task max_tasks c
  cs-task c m =
      let small = may.plan.small in
      let t = (cs-child c m).task in
      record { low = omega arith; high = omega arith }

  -- where they are linked, they are what is linked
  linked-here : (v : List ℕ) → Passes (field sibling v) (field first v i) cs 0 → (linked_in v i ≡ cs) × Linked v i
  linked-here v list =
      let small = may.plan.small in
      let t = may.task in
      walking-linked v i cs (omega arith) (record { left = list; task = cs-task; few = cs-few })

  module _ (w₁ : List ℕ) (s : Sorted n par out i w w₁) where
    list-sorted : Passes (field sibling w₁) (field first w₁ i) cs 0
    list-sorted = rw sorted-is at s.list

    pub linked-sorted : Linked w₁ i
    linked-sorted = (linked-here w₁ list-sorted).1

    sorted-linked : linked_in w₁ i ≡ cs
    sorted-linked = (linked-here w₁ list-sorted).0

    -- the columns behind the links are as they were
    behind : (q : ℕ) → subtree_peak ≤ q → at w₁ q ≡ at w q
    behind q h =
        let small = may.plan.small in
        let t = may.task in
        s.same q (λ z. omega arith) (λ z. omega arith) (λ c u p z. omega arith)

    orders : (c : ℕ) → mem c (linked_in w₁ i) ≡ true → OrderAt w₁ c (order c)
    orders c m =
        let child = cs-child c (sym (ap (mem c) sorted-linked) ∙ m) in
        let o = (may.below c child.task child.parent).order in
        order_same w w₁ c (order c) o (λ x h. behind (after + x) (omega arith)) (behind (head + c) (omega arith))

    module _ (w₂ : List ℕ) (j : Joined w₁ i w₂) where
      -- the columns before the heads are as they were
      ahead : (q : ℕ) → q < head → at w₂ q ≡ at w₁ q
      ahead q h = j.same q (λ z. omega arith) (λ z. omega arith) (λ c m z. omega arith)

      list-joined : Passes (field sibling w₂) (field first w₂ i) cs 0
      list-joined =
          let small = may.plan.small in
          let t = may.task in
          rw (ahead (first + i) (omega arith))
          (passes_same (field sibling w₁) (field sibling w₂) (field first w₁ i) cs 0
          (λ x m. let u = cs-task x m in ahead (sibling + x) (omega arith)) list-sorted)

      peaks : (c : ℕ) → mem c cs ≡ true → field subtree_peak w₂ c ≡ peak n par work out (order c)
      peaks c m =
          let child = cs-child c m in
          let u = cs-task c m in
          ahead (subtree_peak + c) (omega arith)
          ∙ behind (subtree_peak + c) (omega arith)
          ∙ (may.below c child.task child.parent).peak_is

      own-order : OrderAt w₂ i (order i)
      own-order =
          rw (found-node n par work out may.plan.rank may.plan.tree i may.task)
          (rw sorted-linked at
          (j.order order orders
          (rw sorted-linked (found-once n par work out may.plan.rank may.plan.tree i may.task))))

      pub own-peak : peak_along work out w₂ i ≡ peak n par work out (order i)
      own-peak =
          rw (linked-here w₂ list-joined).0
          (highest-is (field subtree_peak w₂) (λ c. peak n par work out (order c)) out (work i + out i) cs peaks
          ∙ (let whole = found-peak n par work out may.plan.rank may.plan.tree i may.task in omega arith))

      pub may-weigh : MayWeigh work out w₂ i
      may-weigh =
          record {
            linked = (linked-here w₂ list-joined).1;
            fits = rw own-peak (peak-most n par work out (order i) may.plan.small may.plan.works may.plan.outs);
          }

      pub has-joined :
          (v : ℕ) (w₃ : List ℕ) → v ≡ peak_along work out w₂ i → w₃ ≡ set w₂ (subtree_peak + i) v → HasJoined n par work out i w w₃
      has-joined v w₃ e₂ e₃ =
          let small = may.plan.small in
          let t = may.task in
          let long = j.long in
          let other : (q : ℕ) → (q ≡ subtree_peak + i → ⊥) → at w₃ q ≡ at w₂ q
          = stored_other w₂ (subtree_peak + i) v e₃ in
          record {
            long = stored-length w₂ (subtree_peak + i) v e₃ ∙ j.long;
            own =
                record {
                  peak_is = stored w₂ (subtree_peak + i) v e₃ (omega arith) ∙ e₂ ∙ own-peak;
                  order =
                      order_same w₂ w₃ i (order i) own-order (λ x m. other (after + x) (λ z. omega arith))
                      (other (head + i) (λ z. omega arith));
                };
            same = λ q a.
                other q a.peak_apart
                ∙ j.same q a.head_of a.after_none
                (λ c m.
                let child = cs-child c (sym (ap (mem c) sorted-linked) ∙ m) in
                a.after_of c child.task child.parent)
                ∙ s.same q a.first_of a.sibling_none a.sibling_of;
          }
