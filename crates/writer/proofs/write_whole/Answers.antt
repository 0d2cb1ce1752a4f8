-- `write_whole` meets its contract: the four parts, one behind another, are the written plan.
use Rattle.std.proofs.Common.{◌≡◌, ℕ, List, ◌++◌, map, take}
use mathlib.Core.List.{flat_map}
use Rattle.format.specs.Command.{bytes}
use Rattle.streams.specs.Instance.{instance_of, opening_of, tasks_to, written}
use Rattle.streams.proofs.Written.{written-parts}
use Rattle.words.specs.declared.order.Order.{Order}
use Rattle.words.specs.declared.order.Order.TheVariants.{Activation, Execution}
use Rattle.words.specs.Kept.{order_base, next_in}
use Rattle.words.specs.Layout.{entries}
use Rattle.words.specs.Views.{part}
use Rattle.words.specs.Contents.{contents}
use Rattle.answer.specs.Meaning.{plan_of}
use Rattle.put.proofs.Pages.{◌then◌}
use Rattle.writer.specs.Writing.{WholePlan}
use Rattle.writer.proofs.Ordered.{activation-is, execution-is, activation-at, execution-at}
use Rattle.writer.proofs.write_whole.Goals as goal

-- the bytes of an order, as its words have it
abbrev order_bytes : Order → List ℕ → List ℕ
order_bytes order w = flat_map bytes (map (next_in order) (take (contents w).size (part (order_base order) entries w)))

parts_are :
    (w : List ℕ)
    → WholePlan w
    → written (instance_of (plan_of w))
    ≡ bytes (opening_of (instance_of (plan_of w)))
    ++ flat_map bytes (tasks_to (instance_of (plan_of w)) (plan_of w).size)
    ++ order_bytes Activation w
    ++ order_bytes Execution w
parts_are w whole = rw (activation-is w whole, execution-is w whole) (written-parts (instance_of (plan_of w)))

pub write_order-requires : goal.write_order-requires
write_order-requires c = activation-at _ c.requires

pub write_order-requires-2 : goal.write_order-requires-2
write_order-requires-2 c = execution-at _ c.requires

pub returns : goal.returns
returns c =
    rw (parts_are _ c.requires)
    (c.write_opening.ensures then c.write_tasks.ensures then c.write_order.ensures then c.write_order-2.ensures)
