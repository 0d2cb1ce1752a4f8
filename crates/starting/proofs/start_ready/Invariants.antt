-- Some tasks are started, and the rest start from here on.
use lib.ListN.{drop}
use mathlib.Core.List.{◌++◌}
use Rattle.words.specs.Contents.{contents}
use Rattle.starting.proofs.StartLoop.{StartLoop}
use Rattle.starting.proofs.start_ready.Given as goal

abbrev pub invariant-loop-count : goal.invariant-loop-count
invariant-loop-count l =
    StartLoop (contents l.initial.plan.words) l.fn.starts (contents l.plan.words) (l.start-items ++ drop l.free l.fn.starts) l.count
