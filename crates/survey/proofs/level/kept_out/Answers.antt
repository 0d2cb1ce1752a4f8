use Rattle.std.proofs.Common.{◌∙◌, arith, sym, eq-eqb, ne_eqb}
use Rattle.survey.proofs.Reading.{parent-at, out_at}
use Rattle.survey.proofs.level.kept_out.Goals as goal

pub returns-then-cell-eq0 : goal.returns-then-cell-eq0
returns-then-cell-eq0 c =
    let parent = c.cell.ensures ∙ parent-at _ c.args.task (omega arith) in
    (rw (eq-eqb _ 0 (sym parent ∙ c.if-cell-eq0.true)), omega arith)

pub returns-else-cell-eq0 : goal.returns-else-cell-eq0
returns-else-cell-eq0 c =
    let parent = c.cell.ensures ∙ parent-at _ c.args.task (omega arith) in
    let out = c.cell-out.ensures ∙ out_at c.args.plan.now.words c.args.task (omega arith) c.args.store.offset in
    (rw (ne_eqb _ 0 (λ e. c.if-cell-eq0.false (parent ∙ e))) out, omega arith)
