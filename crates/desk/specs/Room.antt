-- What the desk writes into the room that it is lent: a plan of n tasks with an activation order.
use Rattle.std.specs.Prelude.{◌≡◌, true, List, ℕ, ◌+◌, ◌≤◌, ◌<◌, length, take}
use Rattle.numbers.specs.Lists.{at, every, distinct}
use Rattle.numbers.specs.Limits.{max_tasks}
use Rattle.numbers.specs.Sums.{within}
use Rattle.tree.specs.Tasks.{Tasks}
use Rattle.words.specs.Layout.{rows, words, chilled}
use Rattle.words.specs.Contents.{Contents, with_cell}

-- a row that may be written
pub record AtRow (task : ℕ) (c : Contents) : Type 0 where
  pub long : c.extent ≡ words
  pub here : task < rows

-- columns of a row: of the task, and of the store
abbrev parent_column : ℕ
parent_column = 0

abbrev work_column : ℕ
work_column = chilled

abbrev out_column : ℕ
out_column = chilled + 1

-- the row of a task has these numbers
unfoldable pub with_row : (task parent work out : ℕ) → Contents → Contents
with_row task parent work out c =
    with_cell out_column task out (with_cell work_column task work (with_cell parent_column task parent c))

-- the rows of the tasks have their numbers, and the others are empty
pub record RowsWritten (tasks : Tasks) (c : Contents) : Type 0 where
  pub long : c.extent ≡ words
  pub parent_is : (i : ℕ) → at c.parents i ≡ tasks.parent i
  pub work_is : (i : ℕ) → at c.stores.chilled.works i ≡ tasks.work i
  pub out_is : (i : ℕ) → at c.stores.chilled.outs i ≡ tasks.out i

-- each entry is one of as many tasks as there are entries
pub record Listed (order : List ℕ) : Type 0 where
  pub few : length order ≤ max_tasks
  pub inside : every (λ i. within i (length order)) order ≡ true

-- an order that may be written
pub record MayWriteOrder (order : List ℕ) (c : Contents) : Type 0 where
  pub long : c.extent ≡ words
  pub listed : Listed order

-- where no task stands twice, each has its place noted as its rank
pub record Ranked (order ranks : List ℕ) : Type 0 where
  pub listed : Listed order
  pub noted : distinct order ≡ true → (e : ℕ) → e < length order → at ranks (at order e) ≡ e

-- the order is written, with the ranks
pub record OrderWritten (order : List ℕ) (c c' : Contents) : Type 0 where
  pub size : c'.size ≡ c.size
  pub parents : c'.parents ≡ c.parents
  pub works : c'.stores.chilled.works ≡ c.stores.chilled.works
  pub outs : c'.stores.chilled.outs ≡ c.stores.chilled.outs
  pub first : take (length order) c'.activation ≡ order
  pub ranked : Ranked order c'.ranks
