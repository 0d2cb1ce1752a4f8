use Rattle.std.proofs.Common.{◌-◌}
use Rattle.numbers.specs.Lists.{at}
use Rattle.words.specs.Contents.{contents}
use Rattle.finding.proofs.Reached.{Reaching}
use Rattle.finding.proofs.reaching.reach.Given as goal

abbrev pub invariant-loop-k : goal.invariant-loop-k
invariant-loop-k l =
    Reaching (contents l.plan.words).size (at (contents l.plan.words).parents) l.root l.initial.scratch.cells l.scratch.cells l.count l.k

abbrev pub decreases-loop-k : goal.decreases-loop-k
decreases-loop-k l = (contents l.plan.words).size - l.k
