-- `missing` meets its contract: the two words are the need and the figure.
use native.Mathlib.Omega.{arith}
use Rattle.store.proofs.Writing.{row_at}
use Rattle.store.proofs.Store.missing.Goals as goal

pub returns : goal.returns
returns c = let r = row_at c.args.plan.now.words c.requires in omega arith
