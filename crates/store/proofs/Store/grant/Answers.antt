-- `grant` meets its contract: a word of the head and three words of rows are written, one after the other.
use mathlib.Core.Path.{◌≡◌, ap, ◌∙◌}
use Prim.Native.Nat.{ℕ, ◌+◌, ◌*◌, ◌<◌}
use native.Mathlib.Omega.{arith}
use mathlib.Core.List.{List}
use lib.ListN.{set}
use Rattle.numbers.specs.Lists.{at}
use Rattle.words.specs.Layout.{kind_at, row, rows}
use Rattle.words.specs.Contents.{contents}
use Rattle.store.specs.Store.{store_at, MayGrant, with_store, with_holdings, granted}
use Rattle.store.proofs.Writing.{Held, holds, row_read, row_at, head_at, total-written, booked-written, figure-written, figures-grown}
use Rattle.store.proofs.Store.grant.Goals as goal

pub overflow_add-figure : goal.overflow_add-figure
overflow_add-figure c = let r = row_at c.args.plan.now.words c.requires.at_task in omega arith

pub overflow_add-total : goal.overflow_add-total
overflow_add-total c = let h = head_at c.args.plan.now.words c.requires.at_task.offset in omega arith

pub overflow_add-booked : goal.overflow_add-booked
overflow_add-booked c = let r = row_at c.args.plan.now.words c.requires.at_task in omega arith

-- the words after the three writes before the parent's figure
written :
    (w : List ℕ) {w₁ w₂ w₃ : List ℕ} {store x m total booked figure : ℕ}
    → MayGrant store x m (contents w)
    → total ≡ (store_at store (contents w)).total + m
    → booked ≡ at (store_at store (contents w)).booked x + m
    → figure ≡ at (store_at store (contents w)).figures x + m
    → w₁ ≡ set w (row * rows + (store + 1)) total
    → w₂ ≡ set w₁ (row * x + (store + 3)) booked
    → w₃ ≡ set w₂ (row * x + (store + 4)) figure
    → Held w₃ (contents w) (kind_at store) ((store_at store (contents w)).total + m) (store_at store (contents w)).used
    (set (store_at store (contents w)).booked x (at (store_at store (contents w)).booked x + m))
    (set (store_at store (contents w)).figures x (at (store_at store (contents w)).figures x + m))
written w {store = store} {x = x} may t b f first second third =
    let here = may.at_task in
    figure-written
    (booked-written (total-written (holds w (kind_at store) here.long) here.offset _ t first) here.offset _ b x here.task_in second)
    here.offset _ f x here.task_in third

pub grow-requires : goal.grow-requires
unfolding with_store with_holdings
grow-requires c =
    let here = c.requires.at_task in
    let r = row_at c.args.plan.now.words here in
    let h = head_at c.args.plan.now.words here.offset in
    let p = c.cell-parent.ensures ∙ r.parent in
    let small : c.cell-parent.result < rows = omega (arith, c.requires.parent_in, p) in
    record {
      task_in = small;
      column_in = omega (arith, here.inside);
      fits =
          λ d.
          let is =
          (row_read
          (written c.args.plan.now.words c.requires (omega arith) (omega arith) (omega arith) c.set_cell.ensures
          c.set_cell-2.ensures c.set_cell-3.ensures)
          here.offset _ small).figure
          in
          let was = store_at c.args.self.offset (contents c.args.plan.now.words) in
          let there = ap (at (set was.figures c.args.task (at was.figures c.args.task + c.args.units))) p in
          omega (arith, c.requires.parent_fits (λ e. d (p ∙ e)));
    }

pub returns : goal.returns
unfolding with_store with_holdings granted
returns c =
    let here = c.requires.at_task in
    let r = row_at c.args.plan.now.words here in
    let h = head_at c.args.plan.now.words here.offset in
    (figures-grown
    (written c.args.plan.now.words c.requires (omega arith) (omega arith) (omega arith) c.set_cell.ensures c.set_cell-2.ensures
    c.set_cell-3.ensures)
    here.offset _ _ (c.cell-parent.ensures ∙ r.parent) (omega arith) c.requires.parent_in c.grow.ensures).same
