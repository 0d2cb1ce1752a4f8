-- A line written to the front of a buffer, and how long it is at most.
use Rattle.std.specs.Prelude.{List, ℕ, ◌≤◌, length}
use Rattle.numbers.specs.Limits.{max_processors}
use Rattle.texts.specs.Text.{longest_line}
use Rattle.put.specs.Written.{Written}
use Rattle.lines.specs.declared.tail.Figures.{Figures}

-- a text that goes on with figures and the tasks started
abbrev pub told : (ℕ → ℕ → ℕ → List ℕ → List ℕ) → Figures → List ℕ → List ℕ
told text x started = text x.booked x.used x.full started

-- a line that tells so many tasks: no more of them start at once than there are processors, and then it is no longer than the longest
pub record Line (text : List ℕ) (count : ℕ) (before after : List ℕ) (end : ℕ) : Type 0 where
  pub written : Written text before after end
  pub short : count ≤ max_processors → length text ≤ longest_line
