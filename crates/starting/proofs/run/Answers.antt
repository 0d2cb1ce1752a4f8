-- `run` meets its contract.
use mathlib.Core.Path.{◌≡◌, sym, ◌∙◌}
use mathlib.Core.List.{List}
use Prim.Native.Nat.{ℕ, ◌+◌, ◌≤◌, ◌<◌}
use native.Mathlib.Omega.{arith}
use lib.Seq.{get_or-take}
use Rattle.books.specs.Kind
use Rattle.numbers.specs.Lists.{at}
use Rattle.numbers.specs.Limits.{max_tasks}
use Rattle.words.specs.Layout.{entries, execution_base}
use Rattle.words.specs.Contents.{contents}
use Rattle.words.proofs.Views.{part_at}
use Rattle.store.specs.Rows.{execution_of}
use Rattle.starting.specs.Started.{MayRun}
use Rattle.starting.proofs.Running.{place_in, task, used_fits, ran, active-small, may_load, after-load}
use Rattle.starting.proofs.run.Goals as goal

place-small : {place : ℕ} (w : List ℕ) → MayRun place (contents w) → place < entries
place-small w may = let h = place_in may in omega (arith, may.kept.invariant.small)

-- the task that is read there
task-is :
    {place t : ℕ} (w : List ℕ)
    → MayRun place (contents w)
    → t ≡ at w (execution_base + place)
    → t ≡ at (execution_of (contents w)) place
unfolding contents
task-is {place} w may read =
    read
    ∙ part_at execution_base entries w place (place-small w may)
    ∙ sym (get_or-take (contents w).size (contents w).execution place 0 (place_in may))

task-small :
    {place t : ℕ} (w : List ℕ)
    → MayRun place (contents w)
    → t ≡ at w (execution_base + place)
    → t ≤ max_tasks
task-small w may read =
    let e = task-is w may read in
    omega (arith, (task may).high, may.kept.invariant.small)

pub entry-task-requires : goal.entry-task-requires
entry-task-requires c = let p = place-small c.args.plan.now.words c.requires in omega arith

pub remove-requires : goal.remove-requires
remove-requires c =
    record {
      long = c.requires.kept.cached.long;
      inside = place-small c.args.plan.now.words c.requires;
      test = _;
      marks = c.requires.kept.cached.marks;
      there = c.requires.ready;
    }

pub set_standing-requires : goal.set_standing-requires
set_standing-requires c = let t = task-small c.args.plan.now.words c.requires c.entry-task.ensures in omega arith

pub overflow_add-active : goal.overflow_add-active
unfolding contents
overflow_add-active c = let a = active-small c.requires in omega arith

pub load-requires : goal.load-requires
unfolding contents
load-requires c =
    let t = task-small c.args.plan.now.words c.requires c.entry-task.ensures in
    may_load c.remove.new.plan.words c.requires.kept.cached.long (omega arith) c.cell-active.ensures c.remove.ensures
    c.set_standing.ensures c.set_cell.ensures
    (rw (task-is c.args.plan.now.words c.requires c.entry-task.ensures) (used_fits c.requires Kind.chilled))

pub overflow_cast-result : goal.overflow_cast-result
overflow_cast-result c = let t = task-small c.args.plan.now.words c.requires c.entry-task.ensures in omega arith

pub returns : goal.returns
unfolding contents
returns c =
    let t = task-small c.args.plan.now.words c.requires c.entry-task.ensures in
    ran c.requires c.remove.ensures (task-is c.args.plan.now.words c.requires c.entry-task.ensures)
    (after-load c.remove.new.plan.words c.requires.kept.cached.long (omega arith) c.cell-active.ensures c.remove.ensures
    c.set_standing.ensures c.set_cell.ensures c.load.ensures)
