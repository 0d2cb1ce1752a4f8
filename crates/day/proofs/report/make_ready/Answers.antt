-- `make_ready` meets its contract.
use Rattle.std.proofs.Common.{arith, ap, ◌∙◌}
use Rattle.rules.specs.Phase
use Rattle.store.specs.Store.{with_store}
use Rattle.dispatch.specs.Ended.{with_progress, ended, root_ended}
use Rattle.words.specs.Contents.{Contents, contents, with_head}
use Rattle.words.proofs.Contents.{wrote-head}
use Rattle.day.specs.Day.{made_ready}
use Rattle.day.proofs.report.make_ready.Goals as goal

pub returns : goal.returns
unfolding contents made_ready root_ended ended with_progress with_store
returns c =
    (wrote-head c.end_root.new.plan.words 0 Phase.ready
    (ap (λ (d : Contents). d.extent) c.end_root.ensures ∙ c.requires.long) (omega arith) c.set_phase.ensures).0
    ∙ ap (with_head 0 Phase.ready) c.end_root.ensures
