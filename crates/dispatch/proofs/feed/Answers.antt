-- `feed` meets its contract: one child fewer, and one ready task more where the parent is booked.
use mathlib.Core.Path.{◌≡◌, sym, ap, ◌∙◌}
use mathlib.Core.Bool.{Bool}
use mathlib.Core.List.{List}
use Prim.Native.Nat.{ℕ, ◌+◌, ◌-◌, ◌*◌}
use native.Mathlib.Omega.{arith}
use lib.Dec.{eqb}
use borrow.Author.Tests.{eqb-true, eqb-false}
use Rattle.books.specs.Standing.{activated}
use Rattle.numbers.specs.Lists.{at}
use Rattle.words.specs.Layout.{row, standing}
use Rattle.words.specs.Contents.{contents}
use Rattle.dispatch.specs.Ended.{MayFeed}
use Rattle.dispatch.proofs.Cells.{row_read}
use Rattle.dispatch.proofs.Feeding.{waits_for_fewer, fewer-written, waits-still, is-not-booked, is-ready, standing_is, may-insert, fed-still, fed-ready}
use Rattle.dispatch.proofs.feed.Goals as goal
use Rattle.dispatch.proofs.feed.Goals.{else-unended-eq0-via-then-unended-eq0+else-stands, else-unended-eq0-via-else-unended-eq0}

-- its standing is as before
told :
    (w w' : List ℕ) {parent : ℕ} {b : Bool}
    → MayFeed parent (contents w)
    → contents w' ≡ waits_for_fewer parent (contents w)
    → b ≡ eqb (at w' (row * parent + standing)) activated
    → eqb (at (contents w).standings parent) activated ≡ b
told w w' {parent} may fewer read =
    sym
    (read
    ∙ ap (λ (v : ℕ). eqb v activated) ((row_read w' parent may.parent_in).standing ∙ standing_is may fewer))

pub overflow_sub-unended : goal.overflow_sub-unended
overflow_sub-unended c =
    let r = row_read c.args.plan.now.words c.args.parent c.requires.parent_in in
    omega (arith, c.requires.unfed.waited)

pub insert-requires : goal.insert-requires
insert-requires c =
    let r = row_read c.args.plan.now.words c.args.parent c.requires.parent_in in
    may-insert c.requires
    (fewer-written c.args.plan.now.words c.args.parent c.requires (c.cell-unended.ensures ∙ r.unended) c.set_cell.ensures)
    (c.cell-place.ensures ∙ (row_read c.set_cell.new.self.words c.args.parent c.requires.parent_in).place)

pub returns-then-stands : goal.returns-then-stands
returns-then-stands c =
    let w = c.args.plan.now.words in
    let r = row_read w c.args.parent c.requires.parent_in in
    let fewer = fewer-written w c.args.parent c.requires (c.cell-unended.ensures ∙ r.unended) c.set_cell.ensures in
    fed-ready c.requires fewer c.insert.ensures
    (c.cell-place.ensures ∙ (row_read c.set_cell.new.self.words c.args.parent c.requires.parent_in).place)
    (is-ready c.args.parent (contents w)
    (sym (ap (λ (v : ℕ). v - 1) (c.cell-unended.ensures ∙ r.unended)) ∙ c.if-unended-eq0.true)
    (eqb-true _ _ (told w c.set_cell.new.self.words c.requires fewer c.stands.ensures ∙ c.if-stands.true)))

pub returns-else-unended-eq0 : goal.returns-else-unended-eq0
returns-else-unended-eq0 c =
    let w = c.args.plan.now.words in
    let r = row_read w c.args.parent c.requires.parent_in in
    let fewer = fewer-written w c.args.parent c.requires (c.cell-unended.ensures ∙ r.unended) c.set_cell.ensures in
    elim c.else-unended-eq0.branch [
      | else-unended-eq0-via-then-unended-eq0+else-stands b ↦
          fed-still c.requires fewer
          (is-not-booked c.args.parent (contents w)
          (eqb-false _ _ (told w c.set_cell.new.self.words c.requires fewer b.stands.ensures ∙ b.if-stands.false)))
      | else-unended-eq0-via-else-unended-eq0 b ↦
          fed-still c.requires fewer
          (waits-still c.args.parent (contents w)
          (λ z. b.if-unended-eq0.false (ap (λ (v : ℕ). v - 1) (c.cell-unended.ensures ∙ r.unended) ∙ z)))
    ]
