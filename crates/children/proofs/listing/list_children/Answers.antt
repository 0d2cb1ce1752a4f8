use Rattle.std.proofs.Common.{◌≡◌, ◌+◌, ◌-◌, ◌∙◌, arith}
use Rattle.survey.proofs.Reading.{parent-at}
use Rattle.children.proofs.Listed.{listed-none, listed_next}
use Rattle.children.proofs.listing.list_children.Goals as goal

pub loop-task-init : goal.loop-task-init
loop-task-init c = listed-none _ _ _ c.requires

pub add_child-requires : goal.add_child-requires
add_child-requires c =
    let small = c.requires.parented.small in
    let is = c.cell-parent.ensures ∙ parent-at _ c.loop-task.task (omega arith) in
    let inside = c.requires.parented.inside c.loop-task.task (record { low = omega arith; high = omega arith }) in
    (omega arith, omega arith)

pub loop-task-preserved : goal.loop-task-preserved
loop-task-preserved c =
    let small = c.requires.parented.small in
    let is = c.cell-parent.ensures ∙ parent-at c.args.plan.now.words c.loop-task.task (omega arith) in
    let inside = c.requires.parented.inside c.loop-task.task (record { low = omega arith; high = omega arith }) in
    let task_is : c.loop-task.task - 1 + 1 ≡ c.loop-task.task = omega arith in
    let next_is : c.loop-task.task + 1 - 1 ≡ c.loop-task.task - 1 + 1 = omega arith in
    rw next_is
    (listed_next _ _ _ _ small (omega arith) c.loop-task.invariant c.cell-parent.result (omega arith) _ (rw task_is c.add_child.ensures) (rw task_is is))

pub returns : goal.returns
returns c = let all : c.loop-task.task - 1 ≡ c.args.n = omega arith in rw all at c.loop-task.invariant
