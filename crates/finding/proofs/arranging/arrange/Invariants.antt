use Rattle.numbers.specs.Lists.{at}
use Rattle.words.specs.Contents.{contents}
use Rattle.finding.proofs.Turns.{ArrangedFrom}
use Rattle.finding.proofs.arranging.arrange.Given as goal

abbrev pub invariant-loop-place : goal.invariant-loop-place
invariant-loop-place l =
    ArrangedFrom (contents l.plan.words).size (at (contents l.plan.words).parents) (at (contents l.plan.words).stores.chilled.works)
    (at (contents l.plan.words).stores.chilled.outs) l.fn.scratch.cells l.scratch.cells l.place
