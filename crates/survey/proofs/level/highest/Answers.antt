use Rattle.std.proofs.Common.{◌≡◌, ℕ, ◌+◌, ◌≤◌, ◌<◌, List, length, take, sym, ◌∙◌, arith}
use Rattle.numbers.specs.Sums.{Task}
use Rattle.numbers.specs.Lists.{at}
use Rattle.numbers.specs.Limits.{max_tasks}
use Rattle.tree.specs.Tree.{Valid}
use Rattle.tree.proofs.Peaks.{kept}
use Rattle.words.specs.Layout.{activation_base}
use Rattle.words.specs.Contents.{contents}
use Rattle.words.proofs.Contents.{lengths}
use Rattle.survey.proofs.Reading.{activation-at}
use Rattle.survey.proofs.Running.{ran-none, ran-task, ran-next, ran-all, ran-enough}
use Rattle.survey.proofs.level.highest.Goals as goal

-- the order has an entry for each task
long : (c : goal.After-entry-first) → (c.args.n ≤ max_tasks) × (c.args.n ≤ length (contents c.args.plan.now.words).activation)
long c =
    let small = c.requires.order.parented.small in
    let whole = (lengths c.args.plan.now.words).activation in
    (small, omega arith)

-- its first entry, which is a task
first-is : (c : goal.After-entry-first) → c.entry-first.result ≡ at (contents c.args.plan.now.words).activation 0
first-is c = c.entry-first.ensures ∙ activation-at _ _ (omega arith)

pub overflow_cast-first : goal.overflow_cast-first
overflow_cast-first c =
    let some = c.requires.order.some in
    omega (arith, long c, ran-task _ _ _ c.requires.order.valid (long c).1 0 (omega arith) _ (sym (first-is c)))

pub loop-place-init : goal.loop-place-init
loop-place-init c = ran-none _ _ _ _ _ _ c.requires.order.some (long c).1 (sym (first-is c))

-- the word read is an entry of the order, which is a task
task :
    (w : List ℕ) (n : ℕ) (par : ℕ → ℕ)
    → n ≤ max_tasks
    → Valid n par (take n (contents w).activation)
    → (place : ℕ)
    → place < n
    → (word : ℕ)
    → word ≡ at w (activation_base + place)
    → (word ≡ at (contents w).activation place) × Task n word
task w n par small valid place here word read =
    let whole = (lengths w).activation in
    let is : word ≡ at (contents w).activation place = read ∙ activation-at w place (omega arith) in
    (is, ran-task n par _ valid (omega arith) place here word (sym is))

pub sum-requires : goal.sum-requires
sum-requires c =
    let small = c.requires.order.parented.small in
    let is = task _ _ _ small c.requires.order.valid _ c.loop-place-test.true _ c.entry-task.ensures in
    let fits = c.loop-place.invariant.fits in
    (record { offset = c.requires.order.offset; task_in = omega (arith, is.1.high) }, omega arith)

pub overflow_cast-task-in-loop-place : goal.overflow_cast-task-in-loop-place
overflow_cast-task-in-loop-place c =
    let small = c.requires.order.parented.small in
    let is = task _ _ _ small c.requires.order.valid _ c.loop-place-test.true _ c.entry-task.ensures in
    omega (arith, is.1.high)

pub kept_out-requires : goal.kept_out-requires
kept_out-requires c =
    let small = c.requires.order.parented.small in
    let is = task _ _ _ small c.requires.order.valid _ c.loop-place-test.true _ c.entry-task.ensures in
    record { offset = c.requires.order.offset; task_in = omega (arith, is.1.high) }

pub bounds-fed-task : goal.bounds-fed-task
bounds-fed-task c =
    let small = c.requires.order.parented.small in
    let is = task _ _ _ small c.requires.order.valid _ c.loop-place-test.true _ c.entry-task.ensures in
    omega (arith, is.1.high)

pub overflow_sub-level : goal.overflow_sub-level
unfolding kept
overflow_sub-level c =
    let small = c.requires.order.parented.small in
    let whole = (lengths c.args.plan.now.words).activation in
    let is = task _ _ _ small c.requires.order.valid _ c.loop-place-test.true _ c.entry-task.ensures in
    let taken = c.requires.sums c.entry-task.result is.1.high in
    let enough =
    ran-enough _ _ _ c.requires.order.valid (omega arith) _ c.loop-place-test.true _ _ _ _ c.loop-place.invariant _ (sym is.0)
    in
    omega (arith, c.kept_out.ensures.0)

pub loop-place-preserved : goal.loop-place-preserved
unfolding kept
loop-place-preserved c =
    let small = c.requires.order.parented.small in
    let whole = (lengths c.args.plan.now.words).activation in
    let is = task _ _ _ small c.requires.order.valid _ c.loop-place-test.true _ c.entry-task.ensures in
    let taken = c.requires.sums c.entry-task.result is.1.high in
    ran-next _ _ _ c.requires.order.valid (omega arith) _ c.loop-place-test.true _ _ _ _ c.loop-place.invariant _ _ _ _ _
    (sym is.0) c.kept_out.ensures.0 c.kept_out.ensures.1 taken c.sum.ensures c.highest_of-best.ensures

pub returns : goal.returns
returns c =
    let small = c.requires.order.parented.small in
    let whole = (lengths c.args.plan.now.words).activation in
    ran-all _ _ _ c.requires.order.valid (omega arith) _ _ _ _ _ c.loop-place.invariant (omega arith)
