-- `standing` meets its contract: before a day four zeros, and the numbers that are kept of it from then on.
use Rattle.std.proofs.Common.{arith}
use Rattle.words.specs.Contents.{contents}
use Rattle.question.proofs.Questions.{standing-early, tallied}
use Rattle.question.proofs.standing.Goals as goal

pub returns-then-phase : goal.returns-then-phase
returns-then-phase c = standing-early (contents c.args.plan.now.words) (omega (arith, c.phase.ensures, c.if-phase.true))

pub overflow_sub-result : goal.overflow_sub-result
unfolding contents
overflow_sub-result c =
    let t = tallied (contents c.args.plan.now.words) c.requires.reached c.requires.sound (omega (arith, c.phase.ensures, c.if-phase.false)) in
    omega (arith, t.within, t.parts)

pub overflow_sub-result-2 : goal.overflow_sub-result-2
unfolding contents
overflow_sub-result-2 c =
    let t = tallied (contents c.args.plan.now.words) c.requires.reached c.requires.sound (omega (arith, c.phase.ensures, c.if-phase.false)) in
    omega (arith, t.within, t.parts)

pub overflow_sub-result-3 : goal.overflow_sub-result-3
unfolding contents
overflow_sub-result-3 c =
    let t = tallied (contents c.args.plan.now.words) c.requires.reached c.requires.sound (omega (arith, c.phase.ensures, c.if-phase.false)) in
    omega (arith, t.within, t.parts)

pub returns : goal.returns
unfolding contents
returns c =
    let t = tallied (contents c.args.plan.now.words) c.requires.reached c.requires.sound (omega (arith, c.phase.ensures, c.if-phase.false)) in
    rw (c.cell-size.ensures, c.cell-next.ensures, c.cell-active.ensures, c.cell-ended.ensures) t.same
