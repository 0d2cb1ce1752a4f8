-- What the parts of the answer ask of the plan.
use Rattle.std.specs.Prelude.{◌≡◌, List, ℕ, ◌<◌}
use Rattle.numbers.specs.Sums.{Task}
use Rattle.rules.specs.Phase
use Rattle.words.specs.Contents.{contents}
use Rattle.answer.specs.ValidPlan.{ValidPlan}

-- a task of a plan that runs
pub record Asked (w : List ℕ) (task : ℕ) : Type 0 where
  pub valid : ValidPlan w
  pub runs : (contents w).phase ≡ Phase.running
  pub is_task : Task (contents w).size task

-- a plan that runs, and in which somebody waits
pub record AskedWaiting (w : List ℕ) : Type 0 where
  pub valid : ValidPlan w
  pub runs : (contents w).phase ≡ Phase.running
  pub more : (contents w).next < (contents w).size
