use Rattle.std.proofs.Common.{◌≡◌, ℕ, ◌+◌, ◌*◌, ◌<◌, List, ◌∙◌, arith}
use Rattle.numbers.specs.Lists.{at}
use Rattle.words.specs.Layout.{row, rows, chilled}
use Rattle.words.specs.Contents.{contents}
use Rattle.survey.proofs.Reading.{parent-at, work-at, out_at}
use Rattle.survey.proofs.Adding.{may-own, may-parent, may-child, weighed-is}
use Rattle.survey.proofs.figures.weigh.Goals as goal

-- the words read are the parent, the work and the out
record Read (w : List ℕ) (i parent work out : ℕ) : Type 0 where
  up : parent ≡ at (contents w).parents i
  works : work ≡ at (contents w).stores.chilled.works i
  outs : out ≡ at (contents w).stores.chilled.outs i

read :
    (w : List ℕ) (i : ℕ)
    → i < rows
    → (parent work out : ℕ)
    → parent ≡ at w (row * i + 0)
    → work ≡ at w (row * i + (chilled + 0))
    → out ≡ at w (row * i + (chilled + 1))
    → Read w i parent work out
unfolding contents
read w i here parent work out p q o =
    record { up = p ∙ parent-at w i here; works = q ∙ work-at w i here chilled; outs = o ∙ out_at w i here chilled }

pub overflow_add-work : goal.overflow_add-work
overflow_add-work c =
    let r = read _ _ c.requires.here _ _ _ c.cell-parent.ensures c.cell-work.ensures c.cell-out.ensures in
    omega (arith, c.requires.own_fits)

pub add-requires : goal.add-requires
add-requires c =
    let r = read _ _ c.requires.here _ _ _ c.cell-parent.ensures c.cell-work.ensures c.cell-out.ensures in
    may-own _ _ _ _ _ c.requires r.up r.works r.outs

pub add-requires-2 : goal.add-requires-2
add-requires-2 c =
    let r = read _ _ c.requires.here _ _ _ c.cell-parent.ensures c.cell-work.ensures c.cell-out.ensures in
    may-parent _ _ _ _ _ c.requires r.up r.works r.outs _ c.add.ensures

pub add-requires-3 : goal.add-requires-3
add-requires-3 c =
    let r = read _ _ c.requires.here _ _ _ c.cell-parent.ensures c.cell-work.ensures c.cell-out.ensures in
    may-child _ _ _ _ _ c.requires r.up r.works r.outs _ c.add.ensures _ c.add-2.ensures

pub returns : goal.returns
returns c =
    let r = read _ _ c.requires.here _ _ _ c.cell-parent.ensures c.cell-work.ensures c.cell-out.ensures in
    weighed-is _ _ _ _ _ c.requires r.up r.works r.outs _ c.add.ensures _ c.add-2.ensures _ c.add-3.ensures
