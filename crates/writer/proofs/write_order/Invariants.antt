-- The entries passed so far are written.
use mathlib.Core.List.{flat_map}
use Rattle.std.proofs.Common.{map, take}
use Rattle.format.specs.Command.{bytes}
use Rattle.words.specs.Kept.{order_base, next_in}
use Rattle.words.specs.Layout.{entries}
use Rattle.words.specs.Views.{part}
use Rattle.put.specs.Pages.{Puts}
use Rattle.writer.proofs.write_order.Given as goal

abbrev pub invariant-loop-k : goal.invariant-loop-k
invariant-loop-k l =
    Puts (flat_map bytes (map (next_in l.order) (take l.k (part (order_base l.order) entries l.plan.words)))) l.fn.page l.page
