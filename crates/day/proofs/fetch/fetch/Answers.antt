-- `fetch` meets its contract: out of turn outside ready, and there nothing is booked any more.
use Rattle.std.proofs.Common.{arith, ap, refl, ℕ, ◌∙◌}
use Rattle.refusal.specs.declared.Refusal.TheVariants.{OutOfTurn}
use Rattle.rules.specs.Phase
use Rattle.store.specs.Store.{with_store}
use Rattle.words.specs.Contents.{Contents, contents, with_head}
use Rattle.words.proofs.Contents.{wrote-head}
use Rattle.answer.proofs.Obeying.{refusal, acceptance}
use Rattle.day.specs.Day.{made_over}
use Rattle.day.proofs.Fetching.{fetch-late, fetch-free, root-task, fetches, fetch-sound}
use Rattle.words.proofs.Tests.{are-same, are-apart}
use Rattle.day.proofs.fetch.fetch.Goals as goal

pub returns-then-not-is_in : goal.returns-then-not-is_in
returns-then-not-is_in c =
    refusal OutOfTurn c.requires.sound
    (fetch-late (contents c.args.plan.now.words) (are-apart c.is_in.ensures c.if-not-is_in.true))

pub hold_alone-requires : goal.hold_alone-requires
hold_alone-requires c =
    let t =
    root-task (contents c.args.plan.now.words) c.requires.reached c.requires.sound
    (are-same c.is_in.ensures c.if-not-is_in.false) in
    let high = t.high in
    let small = c.requires.sound.small in
    let is = c.root-task.ensures in
    record { long = c.requires.sound.long; offset = refl; inside = omega arith; task_in = omega arith }

pub returns : goal.returns
unfolding contents made_over with_store
returns c =
    let w = c.args.plan.now.words in
    let now = are-same c.is_in.ensures c.if-not-is_in.false in
    acceptance (fetch-free (contents w) c.requires.reached c.requires.sound now) c.plain.ensures
    ((wrote-head c.hold_alone.new.plan.words 0 Phase.over
    (ap (λ (d : Contents). d.extent) c.hold_alone.ensures ∙ c.requires.sound.long) (omega arith) c.set_phase.ensures).0
    ∙ ap (with_head 0 Phase.over) c.hold_alone.ensures
    ∙ ap (λ (i : ℕ). made_over i (contents w)) c.root-task.ensures)
    (fetches (contents w) c.requires.reached c.requires.sound now)
    (fetch-sound (contents w) c.requires.reached c.requires.sound now)
