-- The plans that commands led to from an empty one.
use Rattle.std.specs.Prelude.{List, ℕ}
use Rattle.rules.specs.State.{State, none}
use Rattle.format.specs.Command.{Decoded}
use Rattle.rules.specs.Answer.{respond}

pub data Reachable : State → Type 0 where
  -- the empty plan
  start : Reachable none
  -- and what any command, with any start list, leaves of such a plan
  next : {s : State} (d : Decoded) (list : List ℕ) → Reachable s → Reachable (respond s d list).state
