use Rattle.std.proofs.Common.{◌-◌}
use Rattle.words.specs.Contents.{contents}
use Rattle.survey.proofs.Weighing.{WeighedTo}
use Rattle.survey.proofs.figures.prepare.Given as goal

abbrev pub invariant-loop-task : goal.invariant-loop-task
invariant-loop-task l = WeighedTo (contents l.fn.plan.words) (l.task - 1) (contents l.plan.words)
