use Rattle.std.proofs.Common.{◌≡◌, ◌+◌, ◌-◌, arith}
use Rattle.books.specs.Kind.{chilled}
use Rattle.words.specs.Contents.{contents}
use Rattle.words.proofs.Contents.{lengths}
use Rattle.survey.proofs.Weighing.{weighed-none, weigh-may, weighed-next}
use Rattle.survey.proofs.Beginning.{prepared}
use Rattle.survey.proofs.figures.prepare.Goals as goal

-- the word read is n
size_is : (c : goal.After-loop-task) → c.cell-n.result ≡ (contents c.args.plan.now.words).size
unfolding contents
size_is c = c.cell-n.ensures

pub loop-task-init : goal.loop-task-init
loop-task-init c =
    let long = lengths c.args.plan.now.words in
    weighed-none _ c.requires (long.needs chilled) long.unended

pub weigh-requires : goal.weigh-requires
unfolding contents
weigh-requires c =
    let task_is : c.loop-task.task - 1 + 1 ≡ c.loop-task.task = omega arith in
    rw (← task_is) (weigh-may _ c.requires _ _ c.loop-task.invariant (omega arith))

pub loop-task-preserved : goal.loop-task-preserved
unfolding contents
loop-task-preserved c =
    let task_is : c.loop-task.task - 1 + 1 ≡ c.loop-task.task = omega arith in
    let next_is : c.loop-task.task + 1 - 1 ≡ c.loop-task.task - 1 + 1 = omega arith in
    rw next_is (weighed-next _ c.requires _ _ _ c.loop-task.invariant (omega arith) (rw task_is c.weigh.ensures))

pub returns : goal.returns
returns c =
    let long = lengths c.args.plan.now.words in
    prepared _ c.requires long.standings long.booked _ _ c.loop-task.invariant (omega (arith, size_is c))
