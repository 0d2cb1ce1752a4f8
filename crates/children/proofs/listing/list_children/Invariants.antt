use Rattle.std.proofs.Common.{◌-◌}
use Rattle.numbers.specs.Lists.{at}
use Rattle.words.specs.Contents.{contents}
use Rattle.children.specs.Listing.{ListedTo}
use Rattle.children.proofs.listing.list_children.Given as goal

abbrev pub invariant-loop-task : goal.invariant-loop-task
invariant-loop-task l = ListedTo l.n (l.task - 1) (at (contents l.plan.words).parents) l.scratch.cells
