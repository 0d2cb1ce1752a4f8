-- The byte, and then the operand.
use Rattle.put.proofs.Pages.{◌then◌}
use Rattle.codec.proofs.start.Goals as goal

pub returns : goal.returns
returns c = c.byte.ensures then c.little.ensures
