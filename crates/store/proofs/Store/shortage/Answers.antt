-- `shortage` meets its contract: the two words are the bound and what is booked.
use native.Mathlib.Omega.{arith}
use Rattle.store.proofs.Writing.{head_at}
use Rattle.store.proofs.Store.shortage.Goals as goal

pub overflow_sub-bound : goal.overflow_sub-bound
overflow_sub-bound c = let r = head_at c.args.plan.now.words c.requires.0.offset in omega arith

pub returns : goal.returns
returns c = let r = head_at c.args.plan.now.words c.requires.0.offset in omega arith
