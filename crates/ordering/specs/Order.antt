-- One task more in an order, the same for both orders.
use Rattle.std.specs.Prelude.{◌≡◌, not, ◌&&◌, List, ℕ, ◌+◌, ◌*◌, ◌≤◌, ◌<◌, eqb, ltb, take, set}
use Rattle.numbers.specs.Lists.{at, mem}
use Rattle.numbers.specs.Sums.{Task, within}
use Rattle.numbers.specs.Limits.{max_tasks}
use Rattle.rules.specs.Phase
use Rattle.rules.specs.Grounds.{demand}
use Rattle.words.specs.Layout.{row, rows, words, head_base, entries}
use Rattle.words.specs.Views.{column, part}
use Rattle.words.specs.Contents.{head_word}
use Rattle.answer.specs.Sound.{Noted}

-- the ground against it: 3, 4 and 5; 0 is none
unfoldable pub next_ground : (phase size : ℕ) (order : List ℕ) (count task : ℕ) → ℕ
next_ground phase size order count task =
    demand (eqb phase Phase.orders && ltb count size) 3
    (demand (within task size) 4 (demand (not (mem task (take count order))) 5 0))

-- where an order lies in the words: the word of the head that counts it, its base and the column of the places
pub record OrderAt (counted base k : ℕ) (w : List ℕ) : Type 0 where
  pub counted_in : counted < row
  pub base_in : base + entries ≤ words
  pub k_in : k < row
  pub small : head_word 1 w ≤ max_tasks
  pub noted : Noted (head_word 1 w) (head_word counted w) (part base entries w) (column k w)

-- a task is looked for in the order
pub record Sought (base k count task : ℕ) (w : List ℕ) : Type 0 where
  pub base_in : base + entries ≤ words
  pub k_in : k < row
  pub few : count ≤ max_tasks
  pub within : Task max_tasks task
  pub noted : (e : ℕ) → e < count → at (column k w) (at (part base entries w) e) ≡ e

abbrev pub ground_at : (counted base : ℕ) (w : List ℕ) (task : ℕ) → ℕ
ground_at counted base w task =
    next_ground (head_word 0 w) (head_word 1 w) (part base entries w) (head_word counted w) task

-- what is asked where one task more is written
pub record MayAppend (counted base k task : ℕ) (w : List ℕ) : Type 0 where
  pub counted_in : counted < row
  pub base_in : base + entries ≤ words
  pub k_in : k < row
  pub room : head_word counted w < entries
  pub within : task < rows

-- the words with one task more in it
abbrev pub appended_to : (counted base k : ℕ) (w : List ℕ) (task : ℕ) → List ℕ
appended_to counted base k w task =
    set (set (set w (base + head_word counted w) task) (row * task + k) (head_word counted w)) (head_base + counted)
    (head_word counted w + 1)
