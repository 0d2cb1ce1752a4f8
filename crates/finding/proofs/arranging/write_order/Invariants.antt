use Rattle.finding.proofs.Written.{WrittenTo}
use Rattle.finding.proofs.arranging.write_order.Given as goal

abbrev pub invariant-loop-place : goal.invariant-loop-place
invariant-loop-place l = WrittenTo l.n l.scratch.cells l.root l.fn.list l.list l.task l.place
