-- The plan that BEGIN goes on with.
use Rattle.std.specs.Prelude.{◌≡◌, List, ℕ}
use Rattle.rules.specs.Obey.{completed}
use Rattle.answer.specs.Meaning.{plan_of}
use Rattle.answer.specs.ValidPlan.{ValidPlan}

-- commands led to it, and it is the plan as it was found, with the activation order used for both where no 04 was given
pub record Completed (w w' : List ℕ) : Type 0 where
  pub valid : ValidPlan w'
  pub means : plan_of w' ≡ completed (plan_of w)
