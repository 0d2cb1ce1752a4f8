-- "The planners' desk may ask the peak of its own list of step records, one record a step, with an activation list beside it."
use Rattle.std.specs.Prelude.{cond, ◌&&◌, List, ◌∷◌, map, ℕ, eqb, leb, length}
use Rattle.tree.specs.Tree.{roots, ordered}
use Rattle.numbers.specs.Sums.{every_to, within}
use Rattle.numbers.specs.Lists.{at, every, distinct}
use Rattle.numbers.specs.Limits.{max_tasks}
use Rattle.tree.specs.Peak
use Rattle.tree.specs.Tasks
use Rattle.tree.specs.Tasks.{Tasks}
use Rattle.rules.specs.Grounds.{demand}

-- what the desk is answered: "Everyone who uses the peak gets both", the peak and its step
pub record DeskAnswer : Type 0 where
  pub number : ℕ
  pub peak : Peak.Peaked

-- "unequal lengths, length 0 or above 1,024, a number out of limits (4); a step twice (5); 7; 8": of n tasks with these parents
unfoldable pub desk_ground : (n : ℕ) (par : ℕ → ℕ) → List ℕ → ℕ
desk_ground n par activation =
    demand
    (eqb (length activation) n
    && within n max_tasks
    && every_to (λ i. leb (par i) n) n
    && every (λ i. within i n) activation)
    4
    (demand (distinct activation) 5
    (demand (eqb (roots n par) 1) 7 (demand (ordered par activation) 8 0)))

-- "There is no M and no 9. A refusal answers its number and peak 0", and step 0
unfoldable pub desk_answer : Tasks → List ℕ → DeskAnswer
desk_answer t activation =
    record {
      number = desk_ground t.size t.parent activation;
      peak = cond (eqb (desk_ground t.size t.parent activation) 0) (Tasks.peaked t activation) Peak.no_peak;
    }

-- "A record is parent, work and out"
pub record StepRecord : Type 0 where
  pub parent : ℕ
  pub work : ℕ
  pub out : ℕ

-- a column of the records, by the number of the task: the first record is task 1, entry 0 is nobody's
unfoldable pub column : (StepRecord → ℕ) → List StepRecord → List ℕ
column field records = 0 ∷ map field records

-- the tasks of the records
abbrev pub desk_tasks : List StepRecord → Tasks
desk_tasks records =
    record {
      size = length records;
      parent = at (column (λ r. r.parent) records);
      work = at (column (λ r. r.work) records);
      out = at (column (λ r. r.out) records);
    }

-- the number and the peak with its task that the desk is answered
unfoldable pub desk : List StepRecord → List ℕ → DeskAnswer
desk records = desk_answer (desk_tasks records)
