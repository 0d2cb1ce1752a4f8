-- What the parts of the writer ask of the plan.
use Rattle.std.specs.Prelude.{◌≡◌, true, List, ℕ, ◌+◌, ◌≤◌, ◌<◌}
use Rattle.numbers.specs.Limits.{max_tasks}
use Rattle.numbers.specs.Sums.{Task}
use Rattle.numbers.specs.Lists.{at}
use Rattle.streams.specs.Write.{is_whole}
use Rattle.words.specs.Layout.{words, entries}
use Rattle.words.specs.Contents.{contents}
use Rattle.answer.specs.Meaning.{plan_of}
use Rattle.answer.specs.ValidPlan.{ValidPlan}

-- a plan whose orders are complete, and one of its tasks
pub record WholePlan (w : List ℕ) : Type 0 where
  pub valid : ValidPlan w
  pub whole : is_whole (plan_of w) ≡ true

pub record WholeTask (w : List ℕ) (task : ℕ) : Type 0 where
  pub plan : WholePlan w
  pub is_task : Task (contents w).size task

-- tasks stand from there on
pub record OrderAt (order : ℕ) (w : List ℕ) : Type 0 where
  pub small : (contents w).size ≤ max_tasks
  pub inside : order + entries ≤ words
  pub tasks : (k : ℕ) → k < (contents w).size → at w (order + k) ≤ max_tasks
