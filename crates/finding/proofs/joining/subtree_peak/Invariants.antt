use Rattle.numbers.specs.Lists.{at}
use Rattle.words.specs.Contents.{contents}
use Rattle.finding.proofs.Weighing.{Weighing}
use Rattle.finding.proofs.joining.subtree_peak.Given as goal

abbrev pub invariant-loop-child : goal.invariant-loop-child
invariant-loop-child l =
    Weighing (at (contents l.plan.words).stores.chilled.works) (at (contents l.plan.words).stores.chilled.outs) l.scratch.cells l.task
    l.best l.level l.child-iterator
