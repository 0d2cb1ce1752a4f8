-- Between two turns what is still to come is booking ahead along the rest of the order.
use Rattle.words.specs.Contents.{contents}
use Rattle.booking.proofs.Ahead.{Ahead}
use Rattle.booking.proofs.book_ahead.Given as goal

abbrev pub invariant-loop-next : goal.invariant-loop-next
invariant-loop-next l = Ahead (contents l.initial.plan.words) (contents l.plan.words) l.next
