-- "Write a plan back out. .. We want one writer: PLAN, the steps, the activation order, the execution order, without BEGIN, into a lent
-- list of bytes."
use Rattle.std.specs.Prelude.{Bool, not, cond, ◌&&◌, List, ℕ, ◌+◌, ◌*◌, eqb, ltb, length}
use Rattle.rules.specs.Phase
use Rattle.rules.specs.State.{State}
use Rattle.rules.specs.Answer.{front}
use Rattle.streams.specs.Instance.{Instance, instance_of, written}

-- what is answered by a tool that writes into a lent list
pub record Wrote : Type 0 where
  -- 0, or the number of the ground for refusing
  pub number : ℕ
  -- how many entries were written
  pub count : ℕ
  -- the list afterwards
  pub list : List ℕ

-- a refusal "leaves the list untouched"
unfoldable pub untouched : ℕ → List ℕ → Wrote
untouched k list = record { number = k; count = 0; list = list }

-- "It answers how many bytes it wrote, and bytes past them are untouched."
unfoldable pub at_front : List ℕ → List ℕ → Wrote
at_front entries list = record { number = 0; count = length entries; list = front entries list }

-- "both orders are complete", of a plan that was opened
unfoldable pub is_whole : State → Bool
is_whole s =
    not (eqb s.phase Phase.empty)
    && eqb (length s.activation) s.size
    && eqb (length s.execution) s.size

-- "8 + 13 times n bytes"
unfoldable pub written_length : Instance → ℕ
written_length m = 8 + 13 * m.size

-- "3 unless both orders are complete; then 11 if the list is shorter than 8 + 13 times n bytes"
unfoldable pub write : State → List ℕ → Wrote
write s list =
    cond (not (is_whole s)) (untouched 3 list)
    (cond (ltb (length list) (written_length (instance_of s))) (untouched 11 list) (at_front (written (instance_of s)) list))
