-- What is read of a task is what was given of it.
use mathlib.Core.Path.{◌≡◌, sym, ap, ◌∙◌}
use mathlib.Core.List.{List}
use Prim.Native.Nat.{ℕ, ◌+◌, ◌*◌, ◌<◌}
use native.Mathlib.Omega.{arith}
use Rattle.numbers.specs.Lists.{at}
use Rattle.words.specs.Layout.{row, rows}
use Rattle.words.specs.Contents.{contents, store_contents}
use Rattle.words.proofs.Views.{column-at}
use Rattle.answer.specs.Meaning.{plan_of}
use Rattle.answer.proofs.Meant.{parents-meant, works-meant, outs-meant}
use Rattle.writer.specs.Writing.{WholeTask}

module _ {w : List ℕ} {task : ℕ} (t : WholeTask w task) where
  row_in : task < rows
  row_in = let high = t.is_task.high in let small = t.plan.valid.sound.small in omega arith

  pub parent-read : at w (row * task + 0) ≡ at (plan_of w).parents task
  unfolding contents
  parent-read =
      column-at 0 w task row_in ∙ ap (λ (f : ℕ → ℕ). f task) (sym (parents-meant (contents w) t.plan.valid.sound))

  pub work-read : at w (row * task + 5) ≡ at (plan_of w).stores.chilled.works task
  unfolding contents store_contents
  work-read =
      column-at 5 w task row_in ∙ ap (λ (f : ℕ → ℕ). f task) (sym (works-meant (contents w) t.plan.valid.sound))

  pub out-read : at w (row * task + 6) ≡ at (plan_of w).stores.chilled.outs task
  unfolding contents store_contents
  out-read =
      column-at 6 w task row_in ∙ ap (λ (f : ℕ → ℕ). f task) (sym (outs-meant (contents w) t.plan.valid.sound))
