-- `report` meets its contract: a refusal, the root, and any other task.
use Rattle.std.proofs.Common.{arith, sym, ◌≡◌, ◌+◌, ◌*◌, ◌<◌, ℕ, List, ◌∙◌}
use Rattle.std.proofs.lemmas.Result.{err_from_is_err_and}
use Rattle.numbers.specs.Lists.{at}
use Rattle.format.specs.Command.{done}
use Rattle.rules.specs.Grounds.{ground_for}
use Rattle.words.specs.Layout.{row, rows}
use Rattle.words.specs.Contents.{contents}
use Rattle.words.proofs.Views.{column-at}
use Rattle.answer.specs.Meaning.{plan_of}
use Rattle.answer.specs.ValidPlan.{ValidPlan}
use Rattle.answer.proofs.Obeying.{refusal, acceptance, judged}
use Rattle.day.proofs.Reporting.{Accepted, accepted, may-go-on, report-sound, report-answers}
use Rattle.day.proofs.Closing.{may-end-root, makes-ready, ready-sound}
use Rattle.day.proofs.report.report.Goals as goal

-- no ground is left
module _ {w : List ℕ} (task : ℕ) (valid : ValidPlan w) (none : 0 ≡ ground_for (plan_of w) (done task)) where
  done-there : Accepted (contents w) task
  done-there = accepted (contents w) task valid.sound (sym none)

  task_in : task < rows
  task_in = let h = done-there.task.high in let s = valid.sound.small in omega arith

  parent_is : at w (row * task + 0) ≡ at (contents w).parents task
  unfolding contents
  parent_is = column-at 0 w task task_in

pub returns-in_err-may_report : goal.returns-in_err-may_report
returns-in_err-may_report c =
    let p = err_from_is_err_and c.from_residual.result c.from_residual.ensures.1 in
    rw (p.1, p.2) (refusal c.in_err-may_report.field-0.0 c.requires.0.sound (sym c.in_err-may_report.ensures) c.args.starts.now)

pub cell-requires : goal.cell-requires
cell-requires c = let low = task_in c.args.task c.requires.0 c.in_ok-may_report.ensures in (omega arith, omega arith)

pub make_ready-requires : goal.make_ready-requires
make_ready-requires c =
    may-end-root (contents c.args.plan.now.words) c.args.task c.requires.0.reached c.requires.0.sound
    (done-there c.args.task c.requires.0 c.in_ok-may_report.ensures)

pub returns-then-cell-eq0 : goal.returns-then-cell-eq0
returns-then-cell-eq0 c =
    let w = c.args.plan.now.words in
    let valid = c.requires.0 in
    let there = done-there c.args.task valid c.in_ok-may_report.ensures in
    let is-root = sym (parent_is c.args.task valid c.in_ok-may_report.ensures) ∙ sym c.cell.ensures ∙ c.if-cell-eq0.true in
    acceptance (sym c.in_ok-may_report.ensures) c.plain.ensures c.make_ready.ensures
    (makes-ready (contents w) c.args.task valid.reached valid.sound there is-root)
    (ready-sound (contents w) c.args.task valid.reached valid.sound there is-root) c.args.starts.now

pub go_on-counted-requires : goal.go_on-counted-requires
go_on-counted-requires c =
    let valid = c.requires.0 in
    may-go-on (contents c.args.plan.now.words) c.args.task valid.reached valid.sound (done-there c.args.task valid c.in_ok-may_report.ensures)
    (λ z. c.if-cell-eq0.false (c.cell.ensures ∙ parent_is c.args.task valid c.in_ok-may_report.ensures ∙ z)) c.args.starts.now c.requires.1

pub returns : goal.returns
returns c =
    let w = c.args.plan.now.words in
    let valid = c.requires.0 in
    let there = done-there c.args.task valid c.in_ok-may_report.ensures in
    let higher = λ (z : at (contents w).parents c.args.task ≡ 0). c.if-cell-eq0.false (c.cell.ensures ∙ parent_is c.args.task valid c.in_ok-may_report.ensures ∙ z) in
    rw c.plain-2.ensures
    (judged (sym c.in_ok-may_report.ensures)
    (report-answers (contents w) c.args.task valid.reached valid.sound there higher c.go_on-counted.ensures c.args.used)
    (report-sound (contents w) c.args.task valid.reached valid.sound there higher c.go_on-counted.ensures))
