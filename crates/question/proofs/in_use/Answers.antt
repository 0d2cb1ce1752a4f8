-- `in_use` meets its contract: the figure that is kept, while trays of the plan lie in the cold room.
use Rattle.std.proofs.Common.{◌∙◌}
use Rattle.words.specs.Contents.{contents, store_contents}
use Rattle.question.proofs.Questions.{in-use-kept}
use Rattle.question.proofs.in_use.Goals as goal

pub returns : goal.returns
unfolding contents store_contents
returns c =
    rw c.cell-used.ensures at c.while_held.ensures
    ∙ in-use-kept (contents c.args.plan.now.words) c.requires.reached c.requires.sound
