-- The entries passed stand at the ranks of their tasks.
use Rattle.std.proofs.Common.{sym, ◌∙◌, arith}
use Rattle.numbers.specs.Lists.{at}
use Rattle.survey.proofs.Reading.{rank-at}
use Rattle.desk.proofs.Listing.{entry-task}
use Rattle.desk.proofs.Ranking.{seen_none, seen_next, seen_twice, seen_all}
use Rattle.desk.proofs.room.is_distinct.Goals as goal

pub loop-place-init : goal.loop-place-init
loop-place-init c = seen_none _ _

pub cell-requires : goal.cell-requires
cell-requires c =
    let task = entry-task _ _ c.requires.listed c.loop-place-test.true in
    (omega (arith, c.requires.listed.few), omega arith)

pub returns-then-cell-place : goal.returns-then-cell-place
returns-then-cell-place c =
    let task = entry-task _ _ c.requires.listed c.loop-place-test.true in
    let small = c.requires.listed.few in
    let rank = c.cell.ensures ∙ rank-at _ (at c.args.activation.now c.loop-place.place) (omega arith) in
    seen_twice c.requires c.loop-place-test.true (λ e. c.if-cell-place.true (rank ∙ e))

pub loop-place-preserved : goal.loop-place-preserved
loop-place-preserved c =
    let task = entry-task _ _ c.requires.listed c.loop-place-test.true in
    let small = c.requires.listed.few in
    let rank = c.cell.ensures ∙ rank-at _ (at c.args.activation.now c.loop-place.place) (omega arith) in
    seen_next c.loop-place.invariant c.loop-place-test.true (sym rank ∙ c.if-cell-place.false)

pub returns : goal.returns
returns c = seen_all c.loop-place.invariant c.loop-place-test.false
