-- `climb` meets its contract.
use mathlib.Core.Path.{◌≡◌, sym, ap, ◌∙◌}
use mathlib.Core.Bool.{Bool}
use mathlib.Core.List.{List}
use Prim.Native.Nat.{ℕ, ◌+◌, ◌*◌, ◌<◌}
use lib.Dec.{eqb}
use borrow.Author.Tests.{eqb-true, eqb-false}
use Rattle.books.specs.Standing.{waiting}
use Rattle.numbers.specs.Lists.{at}
use Rattle.words.specs.Layout.{row, rows, standing}
use Rattle.words.specs.Contents.{contents}
use Rattle.words.proofs.Contents.{lengths}
use Rattle.dispatch.proofs.Cells.{row_read}
use Rattle.dispatch.proofs.Turns.{below_in, climb-first, turn_in, climb-root, climb-nothing, may-rest, climb-waiting, may-pass, climb-shorter, climb-next}
use Rattle.dispatch.proofs.climb.Goals as goal

-- the standing that is tested is the task's
told :
    (w : List ℕ) {i : ℕ} {b : Bool}
    → i < rows
    → b ≡ eqb (at w (row * i + standing)) waiting
    → eqb (at (contents w).standings i) waiting ≡ b
told w {i} h read = sym (read ∙ ap (λ (v : ℕ). eqb v waiting) (row_read w i h).standing)

pub loop-i-init : goal.loop-i-init
loop-i-init c =
    let w = c.args.plan.now.words in
    climb-first c.requires (lengths w) (c.cell-i.ensures ∙ (row_read w c.args.below (below_in c.requires)).parent)

pub rest-requires : goal.rest-requires
rest-requires c =
    may-rest c.requires c.loop-i.invariant c.loop-i-test.true
    (eqb-true _ _
    (told c.loop-i.plan.words (turn_in c.requires c.loop-i.invariant) c.stands.ensures ∙ c.if-stands.true))

pub pass-left-requires : goal.pass-left-requires
pass-left-requires c =
    may-pass c.requires c.loop-i.invariant c.loop-i-test.true
    (eqb-false _ _
    (told c.loop-i.plan.words (turn_in c.requires c.loop-i.invariant) c.stands.ensures ∙ c.if-stands.false))

pub loop-i-smaller : goal.loop-i-smaller
loop-i-smaller c =
    let h = turn_in c.requires c.loop-i.invariant in
    climb-shorter c.requires c.loop-i.invariant c.loop-i-test.true
    (eqb-false _ _ (told c.loop-i.plan.words h c.stands.ensures ∙ c.if-stands.false)) c.pass-left.ensures.0
    (c.cell-i-in-loop-i.ensures ∙ (row_read c.pass-left.new.plan.words c.loop-i.i h).parent)

pub loop-i-preserved : goal.loop-i-preserved
loop-i-preserved c =
    let h = turn_in c.requires c.loop-i.invariant in
    climb-next c.requires c.loop-i.invariant c.loop-i-test.true
    (eqb-false _ _ (told c.loop-i.plan.words h c.stands.ensures ∙ c.if-stands.false)) c.pass-left.ensures.0
    (c.cell-i-in-loop-i.ensures ∙ (row_read c.pass-left.new.plan.words c.loop-i.i h).parent) c.pass-left.ensures.1
    c.if-left-ne0.true

pub returns-else-left-ne0 : goal.returns-else-left-ne0
returns-else-left-ne0 c = climb-nothing c.requires c.loop-i.invariant c.if-left-ne0.false

pub returns-after-loop-i : goal.returns-after-loop-i
returns-after-loop-i c = climb-root c.requires c.loop-i.invariant c.loop-i-test.false

pub returns-then-stands : goal.returns-then-stands
returns-then-stands c =
    climb-waiting c.requires c.loop-i.invariant c.loop-i-test.true
    (eqb-true _ _
    (told c.loop-i.plan.words (turn_in c.requires c.loop-i.invariant) c.stands.ensures ∙ c.if-stands.true))
    c.rest.ensures
