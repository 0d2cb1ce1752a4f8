-- `open` meets its contract: each way out knows its ground, and what is opened is the new plan of the rules.
use Rattle.std.proofs.Common.{arith, sym, subst, ℕ, ◌∙◌}
use Rattle.refusal.specs.declared.Refusal.TheVariants.{OutOfTurn, OutsideLimits}
use Rattle.words.specs.Contents.{contents}
use Rattle.opening.specs.Cleared.{Emptied}
use Rattle.answer.proofs.Obeying.{refusal, acceptance}
use Rattle.opening.proofs.Past.{nothing-past}
use Rattle.opening.proofs.Opening.{blank, opening-sound, opening-means, open-late, open-tasks, open-processors, open_free, opening-contents}
use Rattle.opening.proofs.open.Goals as goal

pub returns-then-holds_trays : goal.returns-then-holds_trays
returns-then-holds_trays c =
    refusal OutOfTurn c.requires.sound
    (open-late (contents c.args.plan.now.words) c.args.n c.args.processors c.args.bound (sym c.holds_trays.ensures ∙ c.if-holds_trays.true))

pub returns-then-not-is_within : goal.returns-then-not-is_within
returns-then-not-is_within c =
    refusal OutsideLimits c.requires.sound
    (open-tasks (contents c.args.plan.now.words) c.args.n c.args.processors c.args.bound
    (sym c.holds_trays.ensures ∙ c.if-holds_trays.false) (sym c.is_within.ensures ∙ c.if-not-is_within.true))

pub returns-then-not-is_within-2 : goal.returns-then-not-is_within-2
returns-then-not-is_within-2 c =
    refusal OutsideLimits c.requires.sound
    (open-processors (contents c.args.plan.now.words) c.args.n c.args.processors c.args.bound
    (sym c.holds_trays.ensures ∙ c.if-holds_trays.false) (sym c.is_within-2.ensures ∙ c.if-not-is_within-2.true))

pub empty-requires : goal.empty-requires
unfolding contents
empty-requires c = record { long = c.requires.sound.long; few = omega (arith, c.requires.sound.small, c.cell-tasks.ensures) }

pub returns : goal.returns
unfolding contents
returns c =
    let w = c.args.plan.now.words in
    let sound = c.requires.sound in
    let emptied = subst (λ (t : ℕ). Emptied t w c.empty.new.plan.words) c.cell-tasks.ensures c.empty.ensures in
    let bare = blank sound.small sound.long emptied (nothing-past (contents w) sound c.requires.reached) in
    let tasks = sym c.is_within.ensures ∙ c.if-not-is_within.false in
    let staff = sym c.is_within-2.ensures ∙ c.if-not-is_within-2.false in
    let fits = c.ranges.bound.fits in
    acceptance
    (open_free (contents w) c.args.n c.args.processors c.args.bound (sym c.holds_trays.ensures ∙ c.if-holds_trays.false) tasks
    staff fits)
    c.plain.ensures
    (opening-contents c.empty.new.plan.words c.set_phase.new.self.words c.set_cell.new.self.words c.set_cell-2.new.self.words
    c.set_cell-3.new.self.words c.args.n c.args.processors c.args.bound bare.long c.set_phase.ensures
    c.set_cell.ensures c.set_cell-2.ensures c.set_cell-3.ensures c.set_cell-4.ensures)
    (opening-means (contents c.empty.new.plan.words) bare c.args.n c.args.processors c.args.bound (contents w))
    (opening-sound (contents c.empty.new.plan.words) bare c.args.n c.args.processors c.args.bound tasks staff fits)
