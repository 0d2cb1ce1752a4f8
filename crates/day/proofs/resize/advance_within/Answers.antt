-- `advance_within` meets its contract: the words have the new bound.
use Rattle.std.proofs.Common.{arith}
use Rattle.words.specs.Layout.{chilled}
use Rattle.words.specs.Contents.{contents}
use Rattle.words.proofs.Contents.{wrote-head}
use Rattle.day.specs.Day.{with_bound}
use Rattle.day.proofs.Days.{resize-advances, resized}
use Rattle.day.proofs.resize.advance_within.Goals as goal

pub advance-requires : goal.advance-requires
unfolding contents with_bound
advance-requires c =
    resize-advances c.requires
    (wrote-head c.args.plan.now.words chilled c.args.bound c.requires.kept.cached.long (omega arith) c.set_cell.ensures).0

pub returns : goal.returns
unfolding contents with_bound
returns c =
    resized c.requires
    (wrote-head c.args.plan.now.words chilled c.args.bound c.requires.kept.cached.long (omega arith) c.set_cell.ensures).0
    c.advance.ensures
