use Rattle.std.proofs.Common.{◌-◌}
use Rattle.numbers.specs.Lists.{at}
use Rattle.words.specs.Contents.{contents, store_contents}
use Rattle.survey.proofs.Feeding.{Feeding}
use Rattle.survey.proofs.level.feed.Given as goal

abbrev pub invariant-loop-task : goal.invariant-loop-task
invariant-loop-task l =
    Feeding l.n (at (contents l.plan.words).parents) (at (store_contents l.store.offset l.plan.words).outs) (l.task - 1) l.fed
