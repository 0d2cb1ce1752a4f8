-- `release` meets its contract: a word of the head and three words of rows are written, one after the other.
use mathlib.Core.Path.{◌≡◌, refl, ap, ◌∙◌}
use Prim.Native.Nat.{ℕ, ◌+◌, ◌-◌, ◌*◌, ◌<◌}
use native.Mathlib.Omega.{arith}
use mathlib.Core.List.{List}
use lib.ListN.{set}
use Rattle.numbers.specs.Lists.{at}
use Rattle.words.specs.Layout.{kind_at, row, rows}
use Rattle.words.specs.Contents.{contents}
use Rattle.store.specs.Store.{store_at, MayRelease, with_store, with_holdings, released}
use Rattle.store.proofs.Writing.{Held, holds, row_read, row_at, head_at, used-written, booked-written, figure-written, booked-grown}
use Rattle.store.proofs.Store.release.Goals as goal

pub overflow_sub-used : goal.overflow_sub-used
overflow_sub-used c =
    let r = row_at c.args.plan.now.words c.requires.at_task in
    let h = head_at c.args.plan.now.words c.requires.at_task.offset in
    omega arith

pub overflow_add-used : goal.overflow_add-used
overflow_add-used c =
    let r = row_at c.args.plan.now.words c.requires.at_task in
    let h = head_at c.args.plan.now.words c.requires.at_task.offset in
    omega arith

-- the words after the three writes before the parent's booked trays
written :
    (w : List ℕ) {w₁ w₂ w₃ : List ℕ} {store x used : ℕ}
    → MayRelease store x (contents w)
    → used
    ≡ (store_at store (contents w)).used - at (store_at store (contents w)).needs x + at (store_at store (contents w)).outs x
    → w₁ ≡ set w (row * rows + (store + 2)) used
    → w₂ ≡ set w₁ (row * x + (store + 3)) 0
    → w₃ ≡ set w₂ (row * x + (store + 4)) 0
    → Held w₃ (contents w) (kind_at store) (store_at store (contents w)).total
    ((store_at store (contents w)).used - at (store_at store (contents w)).needs x + at (store_at store (contents w)).outs x)
    (set (store_at store (contents w)).booked x 0) (set (store_at store (contents w)).figures x 0)
written w {store = store} {x = x} may u first second third =
    let here = may.at_task in
    figure-written
    (booked-written (used-written (holds w (kind_at store) here.long) here.offset _ u first) here.offset 0 refl x here.task_in second)
    here.offset 0 refl x here.task_in third

pub grow-requires : goal.grow-requires
unfolding with_store with_holdings
grow-requires c =
    let here = c.requires.at_task in
    let r = row_at c.args.plan.now.words here in
    let h = head_at c.args.plan.now.words here.offset in
    let p = c.cell-parent.ensures ∙ r.parent in
    let small : c.cell-parent.result < rows = omega (arith, c.requires.parent_in, p) in
    record {
      task_in = small;
      column_in = omega (arith, here.inside);
      fits =
          λ _.
          let is =
          (row_read
          (written c.args.plan.now.words c.requires (omega arith) c.set_cell.ensures c.set_cell-2.ensures c.set_cell-3.ensures)
          here.offset _ small).booked
          in
          let was = store_at c.args.self.offset (contents c.args.plan.now.words) in
          let there = ap (at (set was.booked c.args.task 0)) p in
          omega (arith, c.requires.parent_fits);
    }

pub overflow_sub-result : goal.overflow_sub-result
overflow_sub-result c = let r = row_at c.args.plan.now.words c.requires.at_task in omega arith

pub returns : goal.returns
unfolding with_store with_holdings released
returns c =
    let here = c.requires.at_task in
    let r = row_at c.args.plan.now.words here in
    let h = head_at c.args.plan.now.words here.offset in (
      (booked-grown
          (written c.args.plan.now.words c.requires (omega arith) c.set_cell.ensures c.set_cell-2.ensures c.set_cell-3.ensures)
          here.offset _ _ (c.cell-parent.ensures ∙ r.parent) (c.cell-out.ensures ∙ r.out) c.requires.parent_in c.grow.ensures).same,
      omega arith,
    )
