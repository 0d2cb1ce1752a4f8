-- No task passed so far is such a child.
use Rattle.std.proofs.Common.{◌≡◌, ◌≤◌, ◌<◌, ℕ, false}
use Rattle.numbers.specs.Lists.{at}
use Rattle.books.specs.Booking.{is_unended_child}
use Rattle.words.specs.Contents.{contents}
use Rattle.reason.proofs.unended_child.Given as goal

abbrev pub invariant-loop-child : goal.invariant-loop-child
invariant-loop-child l =
    (d : ℕ) → 1 ≤ d → d < l.child → is_unended_child (at (contents l.plan.words).parents) (at (contents l.plan.words).standings) l.task d ≡ false
