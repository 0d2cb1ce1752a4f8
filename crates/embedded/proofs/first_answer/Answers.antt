-- `first_answer` meets its contract: the words of a new plan are a valid plan, the empty one of the rules.
use Rattle.std.proofs.Common.{◌≡◌, ap, ℕ, List, ◌∙◌}
use Rattle.rules.specs.State.{State, none}
use Rattle.rules.specs.Answer.{Asking, Answered, command}
use Rattle.answer.specs.Meaning.{plan_of}
use Rattle.answer.specs.ValidPlan.{NewPlan}
use Rattle.plan.proofs.NewPlan.{new-valid, new-empty}
use Rattle.embedded.proofs.first_answer.Goals as goal

pub command-requires : goal.command-requires
command-requires c = new-valid c.new-plan.ensures

-- what the words of a new plan answer
answer-of-none : {w : List ℕ} → NewPlan w → (a : Asking) → (command (plan_of w) a).answer ≡ (command none a).answer
answer-of-none new a = ap (λ (s : State). (command s a).answer) (new-empty new)

pub returns : goal.returns
returns c = ap (λ (r : Answered). r.answer) c.command.ensures.same ∙ answer-of-none c.new-plan.ensures _
