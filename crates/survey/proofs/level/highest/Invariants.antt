use Rattle.numbers.specs.Lists.{at}
use Rattle.words.specs.Contents.{contents, store_contents}
use Rattle.survey.specs.Level.{meant}
use Rattle.survey.proofs.Running.{RunSoFar}
use Rattle.survey.proofs.level.highest.Given as goal

abbrev pub invariant-loop-place : goal.invariant-loop-place
invariant-loop-place l =
    RunSoFar l.n (at (contents l.plan.words).parents) (at (store_contents l.store.offset l.plan.words).works)
    (at (store_contents l.store.offset l.plan.words).outs) (contents l.plan.words).activation l.place l.level (meant l.best)
