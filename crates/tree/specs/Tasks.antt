-- The tasks of a plan as one store sees them, and what is reckoned of them: `Need` and `Peak`, over one thing in place of four.
use Rattle.std.specs.Prelude.{Bool, List, ℕ}
use Rattle.tree.specs.Need
use Rattle.tree.specs.Peak

-- n tasks, with the parent of each and its counts in the store: "A step has a parent .., a work count and an out count"
pub record Tasks : Type 0 where
  pub size : ℕ
  pub parent : ℕ → ℕ
  pub work : ℕ → ℕ
  pub out : ℕ → ℕ

-- "Need of a step"
abbrev pub need : Tasks → ℕ → ℕ
need t = Need.need t.size t.parent t.work t.out

-- "In use", by which tasks have ended, which have started and whether the trolley was fetched
abbrev pub in_use : Tasks → (ended begun : ℕ → Bool) (fetched : Bool) → ℕ
in_use t = Need.in_use t.size t.parent t.work t.out

-- what the store holds while task x of an order runs, where those of `ended` have run already
abbrev pub sum_at : Tasks → (ended : List ℕ) → ℕ → ℕ
sum_at t = Peak.sum_at t.size t.parent t.work t.out

-- "Peak of the activation order", and with its task
abbrev pub peak : Tasks → List ℕ → ℕ
peak t = Peak.peak t.size t.parent t.work t.out

abbrev pub peaked : Tasks → List ℕ → Peak.Peaked
peaked t = Peak.peaked t.size t.parent t.work t.out
