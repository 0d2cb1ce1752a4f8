-- Words that are set to 0.
use Rattle.std.specs.Prelude.{◌≡◌, ◌⊎◌, List, ℕ, suc, ◌*◌, ◌≤◌, ◌<◌, length}
use Rattle.numbers.specs.Lists.{at}
use Rattle.numbers.specs.Limits.{max_tasks}
use Rattle.words.specs.Layout.{row, words, head_base, activation_base, ready_base}

pub record MayClear (from to : ℕ) (w : List ℕ) : Type 0 where
  pub long : length w ≡ words
  pub forward : from ≤ to
  pub inside : to ≤ words

pub record Cleared (from to : ℕ) (w w' : List ℕ) : Type 0 where
  pub size : length w' ≡ length w
  pub inside : (q : ℕ) → from ≤ q → q < to → at w' q ≡ 0
  pub outside : (q : ℕ) → (q < from) ⊎ (to ≤ q) → at w' q ≡ at w q

-- the words that a plan of so many tasks uses: the rows of its tasks, the head and the ready set
pub record MayEmpty (tasks : ℕ) (w : List ℕ) : Type 0 where
  pub long : length w ≡ words
  pub few : tasks ≤ max_tasks

pub record Emptied (tasks : ℕ) (w w' : List ℕ) : Type 0 where
  pub size : length w' ≡ length w
  pub rows : (q : ℕ) → q < row * suc tasks → at w' q ≡ 0
  pub later_rows : (q : ℕ) → row * suc tasks ≤ q → q < head_base → at w' q ≡ at w q
  pub head : (q : ℕ) → head_base ≤ q → q < activation_base → at w' q ≡ 0
  pub ready : (q : ℕ) → ready_base ≤ q → q < words → at w' q ≡ 0
