use Rattle.std.proofs.Common.{◌≡◌, ℕ, ◌+◌, ◌-◌, ◌*◌, ◌≤◌, List, ◌∙◌, arith}
use Rattle.numbers.specs.Lists.{at}
use Rattle.words.specs.Layout.{row}
use Rattle.words.specs.Contents.{contents}
use Rattle.survey.specs.Checks.{Parented}
use Rattle.survey.proofs.Reading.{parent-at, out_at}
use Rattle.survey.proofs.Feeding.{fed-none, fed-next, fed-all}
use Rattle.survey.proofs.level.feed.Goals as goal

-- the first word read is the parent, which is in its limits
parent :
    (w : List ℕ) (n task : ℕ)
    → Parented n (at (contents w).parents)
    → 1 ≤ task
    → task ≤ n
    → (word : ℕ)
    → word ≡ at w (row * task + 0)
    → (word ≡ at (contents w).parents task) × (word ≤ n)
parent w n task parented low high word read =
    let small = parented.small in
    let is : word ≡ at (contents w).parents task = read ∙ parent-at w task (omega arith) in
    let inside = parented.inside task (record { low = low; high = high }) in
    (is, omega arith)

pub loop-task-init : goal.loop-task-init
loop-task-init c = fed-none _ _ _ _ c.requires.parented.small c.requires.empty

pub bounds-fed-parent : goal.bounds-fed-parent
bounds-fed-parent c =
    let up = parent _ _ c.loop-task.task c.requires.parented (omega arith) (omega arith) _ c.cell-parent.ensures in
    omega (arith, c.requires.parented.small)

pub overflow_add-fed : goal.overflow_add-fed
overflow_add-fed c =
    let up = parent _ _ c.loop-task.task c.requires.parented (omega arith) (omega arith) _ c.cell-parent.ensures in
    omega (arith, c.requires.parented.small, c.loop-task.invariant.fits c.cell-parent.result up.1)

pub bounds-fed-parent-in-loop-task : goal.bounds-fed-parent-in-loop-task
bounds-fed-parent-in-loop-task c =
    let up = parent _ _ c.loop-task.task c.requires.parented (omega arith) (omega arith) _ c.cell-parent.ensures in
    omega (arith, c.requires.parented.small)

pub loop-task-preserved : goal.loop-task-preserved
loop-task-preserved c =
    let small = c.requires.parented.small in
    let up = parent _ _ c.loop-task.task c.requires.parented (omega arith) (omega arith) _ c.cell-parent.ensures in
    let out = c.cell-out.ensures ∙ out_at c.args.plan.now.words c.loop-task.task (omega arith) c.args.store.offset in
    let task_is : c.loop-task.task - 1 + 1 ≡ c.loop-task.task = omega arith in
    let next_is : c.loop-task.task + 1 - 1 ≡ c.loop-task.task - 1 + 1 = omega arith in
    rw next_is
    (fed-next _ _ _ _ _ c.loop-task.invariant _ _ (rw task_is up.0) (rw task_is out) (omega arith) up.1 (omega arith))

pub returns : goal.returns
returns c = fed-all _ _ _ _ _ c.loop-task.invariant (omega arith)
