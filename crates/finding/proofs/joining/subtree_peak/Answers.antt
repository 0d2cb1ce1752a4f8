-- The largest sum and the level are those of the children passed.
use Rattle.std.proofs.Common.{◌∙◌, ap, ℕ, ◌+◌, arith}
use Prim.Native.Nat.{max}
use Rattle.words.specs.Layout.{chilled}
use Rattle.words.specs.Contents.{contents}
use Rattle.survey.proofs.Reading.{work-at, out_at}
use Rattle.finding.proofs.Weighing.{weighing-none, weighing-task, weighing-next, weighing-end}
use Rattle.finding.proofs.joining.subtree_peak.Goals as goal

pub loop-child-init : goal.loop-child-init
loop-child-init c =
    weighing-none _ _ _ _ c.requires _ (c.into_iter-child-iterator.ensures.into_iter_gives ∙ c.children-child-items.ensures)

pub get-requires : goal.get-requires
get-requires c = omega (arith, weighing-task _ _ _ _ _ _ _ c.loop-child.invariant _ _ c.in-Some.ensures.steps)

pub cell-requires : goal.cell-requires
cell-requires c =
    let t = weighing-task _ _ _ _ _ _ _ c.loop-child.invariant _ _ c.in-Some.ensures.steps in
    (omega arith, omega arith)

pub loop-child-preserved : goal.loop-child-preserved
unfolding contents
loop-child-preserved c =
    let t = weighing-task _ _ _ _ _ _ _ c.loop-child.invariant _ _ c.in-Some.ensures.steps in
    let out = c.cell.ensures ∙ out_at c.args.plan.now.words c.in-Some.child (omega arith) chilled in
    weighing-next _ _ _ _ _ _ _ c.loop-child.invariant _ _ c.in-Some.ensures.steps _ _
    (c.max-best.ensures ∙ ap (λ (x : ℕ). max c.loop-child.best (c.loop-child.level + x)) c.get.ensures.0)
    (ap (λ (x : ℕ). c.loop-child.level + x) out)

pub returns : goal.returns
unfolding contents
returns c =
    let t = c.requires.linked.task in
    let work = c.cell-work.ensures ∙ work-at c.args.plan.now.words c.args.task (omega arith) chilled in
    let out = c.cell-out.ensures ∙ out_at c.args.plan.now.words c.args.task (omega arith) chilled in
    c.max.ensures ∙ rw (work, out) (weighing-end _ _ _ _ _ _ _ c.loop-child.invariant c.in-None.ensures.steps.0)
