-- `insert` meets its contract: the place is not in the set.
use Rattle.ready.proofs.Changing.{changed-to}
use Rattle.ready.proofs.insert.Goals as goal

pub returns : goal.returns
returns c = changed-to _ _ _ _ c.flip.ensures
