-- `may_report` meets its contract: each way out knows what the tests before it said.
use Rattle.std.proofs.Common.{arith, sym, ◌≡◌, ◌+◌, ◌*◌, ◌<◌, ℕ, List, true, ◌∙◌}
use Rattle.numbers.specs.Lists.{at}
use Rattle.numbers.specs.Sums.{within}
use Rattle.tree.proofs.Orders.{within-task}
use Rattle.words.specs.Layout.{row, rows}
use Rattle.words.specs.Contents.{contents}
use Rattle.words.proofs.Views.{column-at}
use Rattle.answer.specs.ValidPlan.{ValidPlan}
use Rattle.day.proofs.Reporting.{report-late, report-outside, report-idle, report-free}
use Rattle.words.proofs.Tests.{are-same, are-apart}
use Rattle.day.proofs.report.may_report.Goals as goal

-- a task is in the rows
task_in : {w : List ℕ} {task : ℕ} → ValidPlan w → within task (contents w).size ≡ true → task < rows
task_in {w = w} {task = task} valid inside =
    let h = (within-task (contents w).size task inside).high in let s = valid.sound.small in omega arith

-- and its standing is read there
standing_is :
    (w : List ℕ) (task : ℕ)
    → ValidPlan w
    → within task (contents w).size ≡ true
    → at w (row * task + 4) ≡ at (contents w).standings task
unfolding contents
standing_is w task valid inside = column-at 4 w task (task_in valid inside)

pub returns-then-not-is_in : goal.returns-then-not-is_in
returns-then-not-is_in c =
    sym (report-late (contents c.args.plan.now.words) c.args.task (are-apart c.is_in.ensures c.if-not-is_in.true))

pub returns-then-not-is_within : goal.returns-then-not-is_within
unfolding contents
returns-then-not-is_within c =
    sym
    (report-outside (contents c.args.plan.now.words) c.args.task (are-same c.is_in.ensures c.if-not-is_in.false)
    (sym (rw c.cell.ensures at c.is_within.ensures) ∙ c.if-not-is_within.true))

pub stands-requires : goal.stands-requires
unfolding contents
stands-requires c = task_in c.requires (sym (rw c.cell.ensures at c.is_within.ensures) ∙ c.if-not-is_within.false)

pub returns-then-not-stands : goal.returns-then-not-stands
unfolding contents
returns-then-not-stands c =
    let w = c.args.plan.now.words in
    let inside = sym (rw c.cell.ensures at c.is_within.ensures) ∙ c.if-not-is_within.false in
    sym
    (report-idle (contents w) c.args.task (are-same c.is_in.ensures c.if-not-is_in.false) c.requires.sound inside
    (λ e. are-apart c.stands.ensures c.if-not-stands.true (standing_is w c.args.task c.requires inside ∙ e)))

pub returns : goal.returns
unfolding contents
returns c =
    let w = c.args.plan.now.words in
    let inside = sym (rw c.cell.ensures at c.is_within.ensures) ∙ c.if-not-is_within.false in
    sym
    (report-free (contents w) c.args.task (are-same c.is_in.ensures c.if-not-is_in.false) c.requires.sound inside
    (sym (standing_is w c.args.task c.requires inside) ∙ are-same c.stands.ensures c.if-not-stands.false))
