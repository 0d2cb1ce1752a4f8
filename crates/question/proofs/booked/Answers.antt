-- `booked` meets its contract: the figure that is kept, while trays of the plan lie in the cold room.
use Rattle.std.proofs.Common.{◌∙◌}
use Rattle.words.specs.Contents.{contents, store_contents}
use Rattle.question.proofs.Questions.{booked-kept}
use Rattle.question.proofs.booked.Goals as goal

pub returns : goal.returns
unfolding contents store_contents
returns c = rw c.cell-total.ensures at c.while_held.ensures ∙ booked-kept (contents c.args.plan.now.words) c.requires.sound
