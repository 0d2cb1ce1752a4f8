-- What the passes that add up a store ask and leave. A store is given by its offset in a row.
use Rattle.std.specs.Prelude.{◌≡◌, cond, not, List, ℕ, ◌+◌, ◌≤◌, ◌<◌, eqb, ltb, take, replicate}
use Rattle.numbers.specs.Sums.{only}
use Rattle.numbers.specs.Lists.{at}
use Rattle.tree.specs.Tree.{children, Valid}
use Rattle.tree.specs.Peak as rules
use Rattle.words.specs.Layout.{row, rows}
use Rattle.words.specs.Contents.{contents, store_contents}
use Rattle.survey.specs.declared.level.Peaked.{Peaked}
use Rattle.survey.specs.Checks.{Parented}

-- a store has five columns, which are in the row
abbrev pub store_columns : ℕ
store_columns = 5

abbrev pub InRow : ℕ → Type 0
InRow store = store + store_columns ≤ row

-- a row of a task or of nobody
pub record AtRow (store i : ℕ) : Type 0 where
  pub offset : InRow store
  pub task_in : i < rows

-- what the parent of a task that has run keeps of it: its out, where there is a parent
abbrev pub kept_out : ℕ → ℕ → ℕ
kept_out parent out = only (not (eqb parent 0)) out

-- a sum with its task, as the rules have it
abbrev pub meant : Peaked → rules.Peaked
meant p = record { trays = p.trays; task = p.task }

-- the higher of two sums, and the earlier where they are equal
abbrev pub higher : rules.Peaked → rules.Peaked → rules.Peaked
higher earlier later = cond (ltb earlier.trays later.trays) later earlier

-- each entry has the outs of the children
abbrev pub Fed : (n : ℕ) (par out : ℕ → ℕ) (fed : List ℕ) → Type 0
Fed n par out fed = (i : ℕ) → i ≤ n → at fed i ≡ children n par out i

-- entries in which nothing is added up yet
pub record MayFeed (n store : ℕ) (w fed : List ℕ) : Type 0 where
  pub parented : Parented n (at (contents w).parents)
  pub offset : InRow store
  pub empty : fed ≡ replicate rows 0

-- an activation order in which the tasks can run, one at least
pub record MayPeak (n store : ℕ) (w : List ℕ) : Type 0 where
  pub some : 1 ≤ n
  pub parented : Parented n (at (contents w).parents)
  pub offset : InRow store
  pub valid : Valid n (at (contents w).parents) (take n (contents w).activation)

-- the same, with the outs of the children
pub record MayRun (n store : ℕ) (w fed : List ℕ) : Type 0 where
  pub order : MayPeak n store w
  pub sums : Fed n (at (contents w).parents) (at (store_contents store w).outs) fed
