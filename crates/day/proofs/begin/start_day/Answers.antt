-- `start_day` meets its contract.
use Rattle.std.proofs.Common.{arith}
use Rattle.words.specs.Contents.{contents}
use Rattle.words.proofs.Contents.{wrote-head}
use Rattle.day.proofs.Days.{begin-advances, begun}
use Rattle.day.proofs.begin.start_day.Goals as goal

pub advance-started-requires : goal.advance-started-requires
advance-started-requires c = begin-advances c.requires c.prepare.ensures

pub returns : goal.returns
unfolding contents
returns c =
    begun c.requires c.prepare.ensures c.advance-started.ensures
    (wrote-head c.advance-started.new.plan.words 0 3 c.advance-started.ensures.kept.cached.long (omega arith) c.set_phase.ensures).0
