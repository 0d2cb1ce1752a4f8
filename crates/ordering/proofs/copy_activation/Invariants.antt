use Rattle.ordering.proofs.Copying.{Copied}
use Rattle.ordering.proofs.copy_activation.Given as goal

abbrev pub invariant-loop-k : goal.invariant-loop-k
invariant-loop-k l = Copied l.fn.plan.words l.k l.plan.words
