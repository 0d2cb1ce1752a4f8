-- `why` meets its contract: outside running 3, then 4 for what is no task, then the first that is true.
use Rattle.std.proofs.Common.{sym, ◌∙◌}
use Rattle.numbers.proofs.Tests.{clash}
use Rattle.tree.proofs.Orders.{within-task, task-within}
use Rattle.whys.proofs.Why.{why-outside, why-nobody}
use Rattle.words.specs.Contents.{contents}
use Rattle.answer.specs.Meaning.{plan_of}
use Rattle.words.proofs.Tests.{are-same, are-apart}
use Rattle.reason.proofs.why.Goals as goal

pub returns-then-not-is_in : goal.returns-then-not-is_in
returns-then-not-is_in c =
    sym (why-outside (plan_of c.args.plan.now.words) c.args.task (are-apart c.is_in.ensures c.if-not-is_in.true))

pub returns-then-not-is_within : goal.returns-then-not-is_within
unfolding contents
returns-then-not-is_within c =
    let none = sym (rw c.cell.ensures at c.is_within.ensures) ∙ c.if-not-is_within.true in
    sym
    (why-nobody (plan_of c.args.plan.now.words) c.args.task (are-same c.is_in.ensures c.if-not-is_in.false)
    (λ t. clash (task-within (contents c.args.plan.now.words).size c.args.task t) none))

pub first_true-requires : goal.first_true-requires
unfolding contents
first_true-requires c =
    record {
      valid = c.requires;
      runs = are-same c.is_in.ensures c.if-not-is_in.false;
      is_task = within-task _ _ (sym (rw c.cell.ensures at c.is_within.ensures) ∙ c.if-not-is_within.false);
    }
