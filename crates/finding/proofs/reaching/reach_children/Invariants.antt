use Rattle.std.proofs.Common.{length}
use Rattle.children.specs.Linked.{linked_from}
use Rattle.finding.proofs.Queueing.{Queueing}
use Rattle.finding.proofs.reaching.reach_children.Given as goal

abbrev pub invariant-loop-child : goal.invariant-loop-child
invariant-loop-child l = Queueing l.fn.scratch.cells l.task l.count l.scratch.cells l.next l.child

abbrev pub decreases-loop-child : goal.decreases-loop-child
decreases-loop-child l = length (linked_from l.scratch.cells l.child)
