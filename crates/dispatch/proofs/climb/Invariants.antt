-- Between two turns what is still to come is the climb of the rules from i on.
use Rattle.words.specs.Contents.{contents}
use Rattle.dispatch.proofs.Turns.{Climbing, above}
use Rattle.dispatch.proofs.climb.Given as goal

abbrev pub invariant-loop-i : goal.invariant-loop-i
invariant-loop-i l = Climbing l.below l.units (contents l.initial.plan.words) (contents l.plan.words) l.i l.left l.offers

abbrev pub decreases-loop-i : goal.decreases-loop-i
decreases-loop-i l = above (contents l.initial.plan.words) l.i
