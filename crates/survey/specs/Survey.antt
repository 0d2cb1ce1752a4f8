-- What a survey of a plan's activation order asks and answers.
use Rattle.std.specs.Prelude.{cond, List, ℕ, eqb, take, Result, Ok, Err}
use Rattle.tree.specs.Tree.{roots, ordered}
use Rattle.books.specs.Kind.{chilled}
use Rattle.numbers.specs.Lists.{at}
use Rattle.tree.specs.Peak
use Rattle.tree.specs.Tasks
use Rattle.rules.specs.Grounds.{demand}
use Rattle.words.specs.Contents.{Contents}
use Rattle.store.specs.Rows.{tasks_of, activation_of}
use Rattle.store.specs.Cached.{Placed}
use Rattle.refusal.specs.declared.Refusal.{Refusal}
use Rattle.survey.specs.declared.level.Peaked.{Peaked}
use Rattle.survey.specs.Level.{meant}
use Rattle.survey.specs.Checks.{Parented}

-- of n tasks: each parent is a task or nobody, and the first n entries of the activation order hold every task once, at the place that is
-- noted as its rank
pub record RankedIn (n : ℕ) (c : Contents) : Type 0 where
  pub parented : Parented n (at c.parents)
  pub ranked : Placed n (take n c.activation) (at c.ranks)

-- a plan with its activation order
abbrev pub Ordered : Contents → Type 0
Ordered c = RankedIn c.size c

-- 7 "the steps with parent 0 are not exactly one"; 8 "some step does not stand before its parent in the activation order"
unfoldable pub order_ground : (n : ℕ) (par : ℕ → ℕ) → List ℕ → ℕ
order_ground n par order = demand (eqb (roots n par) 1) 7 (demand (ordered par order) 8 0)

-- the ground against the activation order of a plan
abbrev pub ground_of : Contents → ℕ
ground_of c = order_ground c.size (at c.parents) (activation_of c)

-- its peak with its task, where there is no ground
abbrev pub peaked_of : Contents → Peak.Peaked
peaked_of c =
    cond (eqb (ground_of c) 0)
    (Tasks.peaked (tasks_of c chilled) (activation_of c))
    Peak.no_peak

-- the peak with its task that is answered, where there is no ground
abbrev pub peak_told : Result Peaked Refusal → Peak.Peaked
peak_told (Ok peak) = meant peak
peak_told (Err _) = Peak.no_peak
