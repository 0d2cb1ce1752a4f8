-- What is promised of a written plan: how long it is, that reading it restores the plan, and that no other plan is written like it.
use Rattle.std.specs.Prelude.{◌≡◌, true, false, List, ℕ, ◌≤◌, ◌<◌, length, take, drop}
use Rattle.rules.specs.Phase
use Rattle.rules.specs.State.{State}
use Rattle.rules.specs.Reachable.{Reachable}
use Rattle.streams.specs.Stream.{run}
use Rattle.streams.specs.Instance.{instance_of, unbegun, commands, written}
use Rattle.streams.specs.Write.{Wrote, is_whole, written_length, write}

-- of a plan whose orders are complete
pub record WrittenHolds (s : State) : Type 0 where
  -- "8 + 13 times n bytes"
  pub sized : length (written (instance_of s)) ≡ written_length (instance_of s)
  -- "reading a written plan into an empty one restores it": it is accepted whole, and all that was given of the plan is there again
  pub restored :
      run (written (instance_of s))
      ≡ record {
        number = 0;
        place = length (written (instance_of s));
        commands = commands (instance_of s);
        state = unbegun (instance_of s);
      }
  -- before BEGIN that is the very plan
  pub same : s.phase ≡ Phase.orders → unbegun (instance_of s) ≡ s
  -- "Two are written alike only if they are the same"
  pub alike :
      (s' : State)
      → Reachable s'
      → is_whole s' ≡ true
      → written (instance_of s) ≡ written (instance_of s')
      → instance_of s ≡ instance_of s'

-- of what is answered where this list is lent
pub record WriteHolds (s : State) (list : List ℕ) (w : Wrote) : Type 0 where
  -- "3 unless both orders are complete; then 11 if the list is shorter than 8 + 13 times n bytes"
  pub early : is_whole s ≡ false → w.number ≡ 3
  pub short : is_whole s ≡ true → length list < written_length (instance_of s) → w.number ≡ 11
  pub granted : is_whole s ≡ true → written_length (instance_of s) ≤ length list → w.number ≡ 0
  -- "either leaves the list untouched"
  pub refusal : (w.number ≡ 0 → ⊥) → (w.count ≡ 0) × (w.list ≡ list)
  -- "It answers how many bytes it wrote": they stand at the front
  pub count : w.number ≡ 0 → w.count ≡ length (written (instance_of s))
  pub front : w.number ≡ 0 → take w.count w.list ≡ written (instance_of s)
  -- "and bytes past them are untouched"
  pub past : drop w.count w.list ≡ drop w.count list
  pub long : length w.list ≡ length list

-- of every plan that commands led to, and of every list
pub record EveryWriteHolds : Type 0 where
  -- both orders are complete ahead of the day at the earliest, and from BEGIN on always
  pub given : (s : State) → Reachable s → is_whole s ≡ true → Phase.orders ≤ s.phase
  pub begun : (s : State) → Reachable s → Phase.running ≤ s.phase → is_whole s ≡ true
  pub plans : (s : State) → Reachable s → is_whole s ≡ true → WrittenHolds s
  pub lists : (s : State) → Reachable s → (list : List ℕ) → WriteHolds s list (write s list)
