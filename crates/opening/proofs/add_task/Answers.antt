-- `add_task` meets its contract: each way out knows its ground, and the row that is written is the next task of the rules.
use Rattle.std.proofs.Common.{arith, ap, ap₂, ◌≡◌, ◌≤◌, ◌+◌, ℕ, List, ◌∙◌, cond, eqb}
use Rattle.rules.specs.Phase
use Rattle.refusal.specs.declared.Refusal.TheVariants.{OutOfTurn, OutsideLimits}
use Rattle.numbers.specs.Lists.{at}
use Rattle.words.specs.Layout.{rows, head_base}
use Rattle.words.specs.Contents.{contents}
use Rattle.words.proofs.Contents.{lengths}
use Rattle.answer.specs.Sound.{Sound}
use Rattle.answer.proofs.Obeying.{refusal, acceptance}
use Rattle.opening.proofs.Adding.{filled, in-columns, filled-sound, filled-means, add-late, add-parent, add_free, filled-contents}
use Rattle.words.proofs.Tests.{are-same, are-apart}
use Rattle.opening.proofs.add_task.Goals as goal

given-small :
    (w : List ℕ) {given : ℕ}
    → Sound (contents w)
    → (contents w).phase ≡ Phase.steps
    → given ≡ at w (head_base + 3)
    → given ≤ rows
unfolding contents
given-small w sound turn is-given = let small = in-columns (contents w) sound turn in omega arith

pub returns-then-not-is_in : goal.returns-then-not-is_in
returns-then-not-is_in c =
    refusal OutOfTurn c.requires.sound
    (add-late (contents c.args.plan.now.words) c.args.parent c.args.work c.args.out
    (are-apart c.is_in.ensures c.if-not-is_in.true))

pub returns-then-size-parent : goal.returns-then-size-parent
unfolding contents
returns-then-size-parent c =
    refusal OutsideLimits c.requires.sound
    (add-parent (contents c.args.plan.now.words) c.args.parent c.args.work c.args.out
    (are-same c.is_in.ensures c.if-not-is_in.false) (omega (arith, c.if-size-parent.true, c.cell-size.ensures)))

pub set_cell-requires : goal.set_cell-requires
set_cell-requires c =
    (given-small c.args.plan.now.words c.requires.sound (are-same c.is_in.ensures c.if-not-is_in.false) c.cell-given.ensures, omega arith)

pub set_cell-requires-2 : goal.set_cell-requires-2
set_cell-requires-2 c =
    (given-small c.args.plan.now.words c.requires.sound (are-same c.is_in.ensures c.if-not-is_in.false) c.cell-given.ensures, omega arith)

pub set_cell-requires-3 : goal.set_cell-requires-3
set_cell-requires-3 c =
    (given-small c.args.plan.now.words c.requires.sound (are-same c.is_in.ensures c.if-not-is_in.false) c.cell-given.ensures, omega arith)

pub overflow_add-given : goal.overflow_add-given
overflow_add-given c =
    omega (
      arith,
      given-small c.args.plan.now.words c.requires.sound (are-same c.is_in.ensures c.if-not-is_in.false) c.cell-given.ensures,
    )

pub returns : goal.returns
unfolding contents
returns c =
    let w = c.args.plan.now.words in
    let sound = c.requires.sound in
    let turn = are-same c.is_in.ensures c.if-not-is_in.false in
    let small = in-columns (contents w) sound turn in
    let given = c.cell-given.ensures in
    let work = c.ranges.work in
    let out = c.ranges.out in
    acceptance
    (add_free (contents w) c.args.parent c.args.work c.args.out turn
    (omega (arith, c.if-size-parent.false, c.cell-size.ensures)) (omega arith) (omega arith))
    c.plain.ensures
    (filled-contents w c.set_cell.new.self.words c.set_cell-2.new.self.words c.set_cell-3.new.self.words c.set_cell-4.new.self.words
    c.cell-given.result c.args.parent c.args.work c.args.out (cond (eqb c.cell-given.result c.cell-size.result) Phase.orders Phase.steps) sound.long (omega arith) given
    c.set_cell.ensures c.set_cell-2.ensures c.set_cell-3.ensures c.set_cell-4.ensures (rw c.phase_after.ensures at c.set_phase.ensures)
    ∙ ap (λ (f : ℕ). filled (contents w) f c.args.parent c.args.work c.args.out)
    (ap₂ (λ (g n : ℕ). cond (eqb g n) Phase.orders Phase.steps) given c.cell-size.ensures))
    (filled-means (contents w) c.args.parent c.args.work c.args.out sound (lengths w) turn)
    (filled-sound (contents w) c.args.parent c.args.work c.args.out sound (lengths w) turn (omega arith) (omega arith))
