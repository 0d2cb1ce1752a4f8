-- The orders of a plan that is whole, as they lie in its words.
use mathlib.Core.Path.{◌≡◌, sym, ap, ◌∙◌}
use mathlib.Core.Bool.{true}
use mathlib.Core.List.{List}
use Prim.Native.Nat.{ℕ, ◌+◌, ◌≤◌}
use native.Mathlib.Omega.{arith}
use lib.ListN.{take}
use lib.Seq.{get_or-take, length-take-le}
use Rattle.numbers.specs.Limits.{max_tasks}
use Rattle.numbers.specs.Lists.{at, every}
use Rattle.numbers.specs.Sums.{within}
use Rattle.streams.specs.Instance.{instance_of}
use Rattle.tree.proofs.Orders.{within-task, mem-at, every-mem}
use Rattle.streams.proofs.Instance.{Proper, proper}
use Rattle.words.specs.Layout.{words, entries, activation_base, execution_base}
use Rattle.words.specs.Views.{part}
use Rattle.words.specs.Contents.{contents}
use Rattle.words.proofs.Views.{part_length, part_at}
use Rattle.words.proofs.Contents.{lengths}
use Rattle.answer.specs.Meaning.{plan_of}
use Rattle.answer.proofs.Meant.{ranked-length, placed-length}
use Rattle.writer.specs.Writing.{WholePlan, OrderAt}

-- an order that lies from some word on
order-at :
    (base : ℕ) (w : List ℕ)
    → (contents w).size ≤ max_tasks
    → base + entries ≤ words
    → every (λ i. within i (contents w).size) (take (contents w).size (part base entries w)) ≡ true
    → OrderAt base w
order-at base w small inside all =
    record {
      small = small;
      inside = inside;
      tasks =
          λ k low.
          (let n = (contents w).size in
          let order = part base entries w in
          let long = part_length base entries w in
          let there : at w (base + k) ≡ at (take n order) k =
          part_at base entries w k (omega arith) ∙ sym (get_or-take n order k 0 low) in
          let in_order = mem-at (take n order) k (let l = length-take-le n order (omega arith) in omega arith) in
          let task = within-task n (at (take n order) k) (every-mem (λ i. within i n) (take n order) (at (take n order) k) all in_order) in
          let high = task.high in
          omega arith);
    }

module _ (w : List ℕ) (whole : WholePlan w) where
  limits : Proper (instance_of (plan_of w))
  limits = proper (plan_of w) whole.valid.reached whole.whole

  -- all entries are given
  pub activation-is : take (contents w).size (part activation_base entries w) ≡ (plan_of w).activation
  unfolding contents
  activation-is =
      ap (λ (k : ℕ). take k (contents w).activation)
      (sym limits.activation.whole ∙ ranked-length (contents w) whole.valid.sound (lengths w))

  pub execution-is : take (contents w).size (part execution_base entries w) ≡ (plan_of w).execution
  unfolding contents
  execution-is =
      ap (λ (k : ℕ). take k (contents w).execution)
      (sym limits.execution.whole ∙ placed-length (contents w) whole.valid.sound (lengths w))

  pub activation-at : OrderAt activation_base w
  activation-at =
      order-at activation_base w whole.valid.sound.small (omega arith) (rw activation-is limits.activation.inside)

  pub execution-at : OrderAt execution_base w
  execution-at =
      order-at execution_base w whole.valid.sound.small (omega arith) (rw execution-is limits.execution.inside)
