-- The activation order used for both: 04 for one of its entries after another.
use mathlib.Core.Path.{◌≡◌, sym, ap, subst, ◌∙◌}
use mathlib.Core.Bool.{true, false}
use mathlib.Core.List.{List, [], ◌∷◌, ◌++◌}
use Prim.Native.Nat.{ℕ, suc, ◌+◌, ◌<◌}
use native.Mathlib.Omega.{arith}
use lib.ListN.{length, take, drop, take-append-drop}
use lib.Seq.{take_all, take-suc, drop-cons, get_or-take, length-take-le}
use Rattle.numbers.specs.Sums.{Task, within}
use Rattle.numbers.specs.Lists.{at, mem}
use Rattle.rules.specs.State.{State}
use Rattle.format.specs.Command as rules
use Rattle.rules.specs.Grounds.{ground_for}
use Rattle.rules.specs.Obey.{Outcome, with_orders, obey}
use Rattle.streams.specs.OneOrder.{one_order}
use Rattle.rules.specs.Reachable.{Reachable}
use Rattle.tree.proofs.Orders.{within-task, mem-at, every-mem, new-behind}
use Rattle.rules.proofs.Reaching.{obeyed-reachable, lives}
use Rattle.streams.proofs.Leading.{execution-granted}
use Rattle.streams.proofs.OneOrder.{Found, found, found-alone, found-completed, completed-given}
use Rattle.words.specs.Layout.{entries, activation_base, execution_base}
use Rattle.words.specs.Contents.{contents}
use Rattle.words.proofs.Views.{part_at}
use Rattle.words.proofs.Contents.{lengths}
use Rattle.answer.specs.Meaning.{meaning, plan_of}
use Rattle.answer.specs.Sound.{Sound}
use Rattle.answer.specs.ValidPlan.{ValidPlan}
use Rattle.answer.proofs.Meant.{ranked-length, placed-length}
use Rattle.ordering.specs.Order.{MayAppend, appended_to}
use Rattle.ordering.specs.Completed.{Completed}
use Rattle.ordering.proofs.Ordering.{Allowed, allowed}
use Rattle.ordering.proofs.Appending.{placing, execution-ground, placing-sound, placing-means, placing-contents}

-- the first k entries stand in the execution order too
pub record Copied (w : List ℕ) (k : ℕ) (w' : List ℕ) : Type 0 where
  pub valid : ValidPlan w'
  pub means : plan_of w' ≡ with_orders (plan_of w) (plan_of w).activation (take k (plan_of w).activation)

module _ {w : List ℕ} (valid : ValidPlan w) (one : one_order (plan_of w) ≡ true) where
  abbrev s : State
  s = plan_of w

  f : Found s
  f = found s one

  pub copied_none : Copied w 0 w
  copied_none = record { valid = valid; means = sym (found-alone s f) }

  pub copied_all : {w' : List ℕ} → Copied w s.size w' → Completed w w'
  copied_all c =
      let long = f.ranked in
      record {
        valid = c.valid;
        means = c.means ∙ ap (with_orders s s.activation) (take_all s.size s.activation (omega arith)) ∙ found-completed s f;
      }

  -- the next entry is a task that does not stand there yet
  module _ (k : ℕ) (more : k < s.size) where
    inside : k < length s.activation
    inside = let long = f.ranked in omega arith

    next-task : Task s.size (at s.activation k)
    next-task =
        within-task s.size _
        (every-mem (λ i. within i s.size) s.activation _ (lives valid.reached).formed.activation-inside (mem-at s.activation k inside))

    next-new : mem (at s.activation k) (take k s.activation) ≡ false
    next-new =
        new-behind (take k s.activation) (at s.activation k) (drop (suc k) s.activation)
        (rw (← drop-cons s.activation k 0 inside, take-append-drop k s.activation) (lives valid.reached).formed.activation-once)

    module _ {w₁ : List ℕ} (c : Copied w k w₁) where
      -- it is read from the words as they are then
      next-is : at (contents w₁).activation k ≡ at s.activation k
      unfolding with_orders
      next-is =
          let same : (plan_of w₁).activation ≡ s.activation = ap (λ (t : State). t.activation) c.means in
          let all = ranked-length (contents w₁) c.valid.sound (lengths w₁) in
          let long = ap length same in
          let here = inside in
          sym (get_or-take (contents w₁).ranked (contents w₁).activation k 0 (omega arith)) ∙ ap (λ (l : List ℕ). at l k) same

      next-ground : ground_for (plan_of w₁) (rules.execution (at s.activation k)) ≡ 0
      next-ground =
          let first = length-take-le k s.activation (let here = inside in omega arith) in
          rw c.means
          (execution-granted s s.activation (take k s.activation) (at s.activation k) f.now (omega arith) next-task next-new)

      next-allowed :
          Allowed (contents w₁).phase (contents w₁).size (contents w₁).execution (contents w₁).placed (at s.activation k)
      next-allowed =
          allowed _ _ _ _ (at s.activation k)
          (sym (execution-ground (contents w₁) c.valid.sound (lengths w₁) (at s.activation k)) ∙ next-ground)

      next-may : MayAppend 8 execution_base 2 (at s.activation k) w₁
      unfolding contents
      next-may =
          let small = c.valid.sound.small in
          let room = next-allowed.room in
          let high = next-allowed.high in
          record { counted_in = omega arith; base_in = omega arith; k_in = omega arith; room = omega arith; within = omega arith }

      copied_more : {w₂ : List ℕ} → w₂ ≡ appended_to 8 execution_base 2 w₁ (at s.activation k) → Copied w (k + 1) w₂
      unfolding obey with_orders
      copied_more {w₂} wrote =
          let i : ℕ = at s.activation k in
          let is : contents w₂ ≡ placing (contents w₁) i =
          ap contents wrote ∙ placing-contents w₁ c.valid.sound i next-allowed
          in
          let left : plan_of w₂ ≡ (obey (plan_of w₁) (rules.execution i)).state =
          ap meaning is ∙ sym (ap (λ (o : Outcome). o.state) (placing-means (contents w₁) c.valid.sound (lengths w₁) i next-allowed))
          in
          let one_more : suc k ≡ k + 1 = omega arith in
          let more-taken : take k s.activation ++ (i ∷ []) ≡ take (k + 1) s.activation =
          sym (take-suc s.activation k 0 inside) ∙ ap (λ (n : ℕ). take n s.activation) one_more
          in
          let later :
          with_orders (plan_of w₁) (plan_of w₁).activation ((plan_of w₁).execution ++ (i ∷ []))
          ≡ with_orders s s.activation (take k s.activation ++ (i ∷ [])) =
          ap (λ (t : State). with_orders t t.activation (t.execution ++ (i ∷ []))) c.means
          in
          record {
            valid =
                record {
                  reached = subst Reachable (sym left) (obeyed-reachable (plan_of w₁) (rules.execution i) next-ground c.valid.reached);
                  sound = subst Sound (sym is) (placing-sound (contents w₁) c.valid.sound (lengths w₁) i next-allowed);
                };
            means = left ∙ later ∙ ap (with_orders s s.activation) more-taken;
          }

      -- by what is read and written
      module _ {task : ℕ} (read : task ≡ at w₁ (activation_base + k)) where
        task-is : task ≡ at s.activation k
        unfolding contents
        task-is =
            let small = valid.sound.small in
            read ∙ part_at activation_base entries w₁ k (omega arith) ∙ next-is

        pub entry-may : MayAppend 8 execution_base 2 task w₁
        entry-may = subst (λ (i : ℕ). MayAppend 8 execution_base 2 i w₁) (sym task-is) next-may

        pub entry-copied : {w₂ : List ℕ} → w₂ ≡ appended_to 8 execution_base 2 w₁ task → Copied w (k + 1) w₂
        entry-copied {w₂} wrote = copied_more (wrote ∙ ap (appended_to 8 execution_base 2 w₁) task-is)

-- where 04 was given nothing is copied
pub complete-given : {w : List ℕ} → ValidPlan w → ((contents w).placed ≡ 0 → ⊥) → Completed w w
complete-given {w} valid some =
    record {
      valid = valid;
      means =
          sym
          (completed-given (plan_of w) (λ e. some (sym (placed-length (contents w) valid.sound (lengths w)) ∙ e)));
    }
