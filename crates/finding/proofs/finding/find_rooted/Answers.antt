use Rattle.std.proofs.Common.{sym, ◌∙◌, arith}
use Rattle.words.specs.Contents.{contents}
use Rattle.finding.proofs.Root.{may-reach, finds-stray, finds-short, may-write-found, finds}
use Rattle.finding.proofs.finding.find_rooted.Goals as goal

pub list_children-requires : goal.list_children-requires
unfolding contents
list_children-requires c =
    rw c.cell-n.ensures (record { parented = c.requires.light.parented; empty = c.new-scratch.ensures })

pub reach-requires : goal.reach-requires
unfolding contents
reach-requires c = may-reach _ _ _ _ c.requires _ (rw c.cell-n.ensures at c.list_children.ensures)

pub returns-then-reach-n : goal.returns-then-reach-n
unfolding contents
returns-then-reach-n c =
    finds-stray _ _ _ _ c.requires _ (rw c.cell-n.ensures at c.list_children.ensures) _ _ c.reach.ensures _
    (λ e. c.if-reach-n.true (e ∙ sym c.cell-n.ensures))

pub returns-then-list-n : goal.returns-then-list-n
unfolding contents
returns-then-list-n c =
    let size = c.cell-n.ensures in
    finds-short _ _ _ _ c.requires _ (rw c.cell-n.ensures at c.list_children.ensures) _ _ c.reach.ensures _
    (c.if-reach-n.false ∙ size) (omega arith)

pub write_found-requires : goal.write_found-requires
unfolding contents
write_found-requires c =
    let size = c.cell-n.ensures in (
      size,
      may-write-found _ _ _ _ c.requires _ (rw c.cell-n.ensures at c.list_children.ensures) _ _ c.reach.ensures _
          (c.if-reach-n.false ∙ size) (rw c.cell-n.ensures at c.if-list-n.false),
    )

pub returns : goal.returns
unfolding contents
returns c =
    let size = c.cell-n.ensures in
    finds _ _ _ _ c.requires _ (rw c.cell-n.ensures at c.list_children.ensures) _ _ c.reach.ensures _
    (c.if-reach-n.false ∙ size) _ (rw c.cell-n.ensures at c.if-list-n.false) c.write_found.ensures
