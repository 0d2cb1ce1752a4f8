-- BEGIN in its turn: what it finds of the plan, and the orders with which the day goes on.
use mathlib.Core.Path.{◌≡◌, refl}
use mathlib.Core.Bool.{true, false, ◌&&◌, ◌||◌}
use mathlib.Core.Logic.{⊎_elim}
use mathlib.Core.List.{List}
use Prim.Native.Nat.{ℕ}
use lib.Dec.{eqb}
use lib.ListN.{length}
use borrow.Author.Tests.{eqb-true}
use Rattle.rules.specs.Phase
use Rattle.rules.specs.State.{State}
use Rattle.format.specs.Command.{begin}
use Rattle.rules.specs.Grounds.{no_execution, in_turn, in_limits, own_ground, ground_for}
use Rattle.rules.specs.Obey.{execution_order}
use Rattle.numbers.proofs.Tests.{decide, clash, or_cases, and-true}
use Rattle.rules.proofs.Judging.{ground-own}

-- the execution order is the one that was given, or the activation order: what holds of both holds of it
pub either_order :
    (P : List ℕ → Type 0) (s : State)
    → (no_execution s ≡ true → P s.activation)
    → (no_execution s ≡ false → P s.execution)
    → P (execution_order s)
unfolding execution_order
either_order P s copied given =
    ⊎_elim (λ (none : no_execution s ≡ true). rw none (copied none)) (λ (some : no_execution s ≡ false). rw some (given some))
    (decide (no_execution s))

-- both orders are complete then
pub record BeginTurn (s : State) : Type 0 where
  pub now : s.phase ≡ Phase.orders
  pub activated : length s.activation ≡ s.size
  pub executed : length (execution_order s) ≡ s.size

pub begin-turn : (s : State) → in_turn s begin ≡ true → BeginTurn s
unfolding in_turn
begin-turn s turn =
    let both =
    and-true (eqb s.phase Phase.orders && eqb (length s.activation) s.size)
    (eqb (length s.execution) s.size || no_execution s) turn
    in
    let first = and-true (eqb s.phase Phase.orders) (eqb (length s.activation) s.size) both.0 in
    let ranked = eqb-true (length s.activation) s.size first.1 in
    record {
      now = eqb-true s.phase Phase.orders first.0;
      activated = ranked;
      executed =
          either_order (λ l. length l ≡ s.size) s (λ _. ranked)
          (λ some.
          ⊎_elim (eqb-true (length s.execution) s.size) (λ none. absurd (clash none some))
          (or_cases (eqb (length s.execution) s.size) (no_execution s) both.1));
    }

-- only 7, 8 and 9 are left against it
pub begin-ground : (s : State) → in_turn s begin ≡ true → ground_for s begin ≡ own_ground s begin
unfolding in_limits
begin-ground s turn = ground-own s begin turn refl
