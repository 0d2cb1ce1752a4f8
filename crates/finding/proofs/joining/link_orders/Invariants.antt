use Rattle.std.proofs.Common.{length}
use Rattle.children.specs.Linked.{linked_from}
use Rattle.finding.proofs.Linking.{Linking}
use Rattle.finding.proofs.joining.link_orders.Given as goal

abbrev pub invariant-loop-child : goal.invariant-loop-child
invariant-loop-child l = Linking l.fn.scratch.cells l.scratch.cells l.task l.last l.child

abbrev pub decreases-loop-child : goal.decreases-loop-child
decreases-loop-child l = length (linked_from l.scratch.cells l.child)
