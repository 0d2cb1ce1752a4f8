-- `fullness` meets its contract: the fullness of what is booked, while trays of the plan lie in the cold room.
use Rattle.words.specs.Contents.{contents, store_contents}
use Rattle.rules.specs.Question as rules
use Rattle.question.proofs.fullness.Goals as goal

pub returns : goal.returns
unfolding contents store_contents rules.fullness
returns c = rw (c.fullness.ensures, c.booked.ensures, c.cell-bound.ensures) at c.while_held.ensures
