-- `end_root` meets its contract: the task is an ended one, and its out is all that is booked and in use.
use mathlib.Core.Path.{refl, ap, ◌∙◌}
use Prim.Native.Nat.{ℕ}
use native.Mathlib.Omega.{arith}
use Rattle.books.specs.Kind
use Rattle.numbers.specs.Lists.{at}
use Rattle.words.specs.Contents.{Contents, contents, store_contents}
use Rattle.words.proofs.Views.{column-at}
use Rattle.store.specs.Store.{with_store, held_alone}
use Rattle.dispatch.specs.Ended.{with_progress, ended, root_ended}
use Rattle.dispatch.proofs.end_root.Goals as goal

pub hold_alone-requires : goal.hold_alone-requires
unfolding ended with_progress
hold_alone-requires c =
    record {
      long = ap (λ (d : Contents). d.extent) c.end.ensures ∙ c.requires.long;
      offset = refl;
      inside = omega arith;
      task_in = c.requires.task_in;
    }

pub returns : goal.returns
unfolding contents store_contents root_ended ended with_progress
returns c =
    let w = c.end.new.plan.words in
    let old = contents c.args.plan.now.words in
    let out =
    c.cell-out.ensures
    ∙ column-at 6 w c.args.task c.requires.task_in
    ∙ ap (λ (d : Contents). at d.stores.chilled.outs c.args.task) c.end.ensures
    in
    c.hold_alone.ensures
    ∙ ap (λ (v : ℕ). with_store Kind.chilled (held_alone c.args.task v (contents w).stores.chilled) (contents w)) out
    ∙ ap (λ (d : Contents). with_store Kind.chilled (held_alone c.args.task (at old.stores.chilled.outs c.args.task) d.stores.chilled) d)
    c.end.ensures
