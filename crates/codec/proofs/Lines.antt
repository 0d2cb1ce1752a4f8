-- The lines of the rules' table as the code reads them: each operand by how many bytes stand ahead of it.
use mathlib.Core.Path.{◌≡◌, refl, ap}
use mathlib.Core.List.{List}
use mathlib.Core.Option.{none}
use Prim.Native.Nat.{ℕ}
use lib.ListN.{drop}
use lib.Seq.{drop-drop}
use Rattle.format.specs.Command.{plan, task, activation, execution, begin, done, fetch, places, forms, find, number, numbers, room, refused, whole, read_by, table}

module _ (given : List ℕ) where
  pub plan-line :
      table 1 given ≡ whole given 7 (plan (number 2 given) (number 1 (drop 2 given)) (number 4 (drop 3 given)))
  unfolding forms find numbers room read_by table
  plan-line =
      ap (λ (l : List ℕ). whole given 7 (plan (number 2 given) (number 1 (drop 2 given)) (number 4 l))) (drop-drop 1 2 given)

  pub task-line :
      table 2 given ≡ whole given 6 (task (number 2 given) (number 2 (drop 2 given)) (number 2 (drop 4 given)))
  unfolding forms find numbers room read_by table
  task-line =
      ap (λ (l : List ℕ). whole given 6 (task (number 2 given) (number 2 (drop 2 given)) (number 2 l))) (drop-drop 2 2 given)

  pub activation-line : table 3 given ≡ whole given 2 (activation (number 2 given))
  unfolding forms find numbers room read_by table
  activation-line = refl

  pub execution-line : table 4 given ≡ whole given 2 (execution (number 2 given))
  unfolding forms find numbers room read_by table
  execution-line = refl

  pub begin-line : table 5 given ≡ whole given 0 begin
  unfolding forms find numbers room read_by table
  begin-line = refl

  pub done-line : table 6 given ≡ whole given 2 (done (number 2 given))
  unfolding forms find numbers room read_by table
  done-line = refl

  pub fetch-line : table 7 given ≡ whole given 0 fetch
  unfolding forms find numbers room read_by table
  fetch-line = refl

  pub places-line : table 8 given ≡ whole given 4 (places (number 4 given))
  unfolding forms find numbers room read_by table
  places-line = refl

  -- a byte with no line
  pub no_line : (byte : ℕ) → find forms byte ≡ none → table byte given ≡ refused 2
  unfolding table
  no_line byte e = rw (table, e)
