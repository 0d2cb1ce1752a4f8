-- The checks stand in the order of the rules, and the plan that is written is surveyed.
use Rattle.std.proofs.Common.{sym, ◌∙◌}
use Rattle.desk.proofs.Records.{desk-is}
use Rattle.desk.proofs.Surveying.{in-limits, unequal, outside, strayed, unlisted, twice, may-survey, told, outcome, may-list, fill}
use Rattle.desk.proofs.answer.Goals as goal

pub returns-then-activation-n : goal.returns-then-activation-n
returns-then-activation-n c = desk-is _ _ ∙ unequal _ _ _ _ _ c.if-activation-n.true

pub returns-then-not-is_within : goal.returns-then-not-is_within
returns-then-not-is_within c = desk-is _ _ ∙ outside _ _ _ _ _ (sym c.if-not-is_within.ensures)

pub returns-then-not-write_rows : goal.returns-then-not-write_rows
returns-then-not-write_rows c = desk-is _ _ ∙ strayed _ _ _ _ _ (sym c.if-not-write_rows.ensures.0)

pub returns-then-not-is_listed : goal.returns-then-not-is_listed
returns-then-not-is_listed c = desk-is _ _ ∙ unlisted _ _ _ _ _ (sym c.if-not-is_listed.ensures)

pub write_order-requires : goal.write_order-requires
write_order-requires c =
    may-list _ _ _ _ _ (c.write_rows.ensures.1 c.if-not-write_rows.false)
    (in-limits c.if-activation-n.false c.if-not-is_within.ensures c.if-not-write_rows.ensures.0 c.if-not-is_listed.ensures)
    c.set_cell.ensures

pub returns-then-not-is_distinct : goal.returns-then-not-is_distinct
returns-then-not-is_distinct c =
    desk-is _ _
    ∙ twice _ _ _ _ _
    (in-limits c.if-activation-n.false c.if-not-is_within.ensures c.if-not-write_rows.ensures.0 c.if-not-is_listed.ensures)
    (sym c.if-not-is_distinct.ensures)

pub survey-requires : goal.survey-requires
survey-requires c =
    may-survey _ _ _ _ _ _
    (fill _ _ _ _ _ (c.write_rows.ensures.1 c.if-not-write_rows.false)
    (in-limits c.if-activation-n.false c.if-not-is_within.ensures c.if-not-write_rows.ensures.0 c.if-not-is_listed.ensures)
    c.set_cell.ensures _ c.write_order.ensures (sym c.if-not-is_distinct.ensures))

pub returns : goal.returns
returns c =
    desk-is _ _
    ∙ told _ _ _ _ _ _
    (fill _ _ _ _ _ (c.write_rows.ensures.1 c.if-not-write_rows.false)
    (in-limits c.if-activation-n.false c.if-not-is_within.ensures c.if-not-write_rows.ensures.0 c.if-not-is_listed.ensures)
    c.set_cell.ensures _ c.write_order.ensures (sym c.if-not-is_distinct.ensures))
    _ _ c.survey.ensures.0 c.survey.ensures.1
    ∙ outcome c.survey.result
