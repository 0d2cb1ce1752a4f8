-- Laws of a judged command: a ground refuses it, in the order of checks, and without one it is obeyed.
use mathlib.Core.Path.{◌≡◌, ap, ◌∙◌}
use mathlib.Core.Bool.{Bool, true, false, cond}
use mathlib.Core.List.{List}
use Prim.Native.Nat.{ℕ}
use lib.Dec.{eqb}
use borrow.Author.Tests.{eq-eqb, ne_eqb}
use Rattle.rules.specs.State.{State}
use Rattle.format.specs.Command.{Command}
use Rattle.rules.specs.Grounds.{in_turn, in_limits, demand, own_ground, ground_for}
use Rattle.rules.specs.Obey.{obey}
use Rattle.rules.specs.Answer.{refuse, accept, judge}

-- a command against which there is a ground is refused by its number
pub judge-refused :
    (s : State) (c : Command) (k used : ℕ) (list : List ℕ)
    → ground_for s c ≡ k
    → (k ≡ 0 → ⊥)
    → judge s c used list ≡ refuse k s list
unfolding judge
judge-refused s c k used list g some =
    ap (λ (x : ℕ). cond (eqb x 0) (accept (obey s c) used list) (refuse x s list)) g
    ∙ ap (λ (t : Bool). cond t (accept (obey s c) used list) (refuse k s list)) (ne_eqb k 0 some)

-- a command against which there is no ground is obeyed
pub judge-accepted :
    (s : State) (c : Command) (used : ℕ) (list : List ℕ)
    → ground_for s c ≡ 0
    → judge s c used list ≡ accept (obey s c) used list
unfolding judge
judge-accepted s c used list g =
    ap (λ (t : Bool). cond t (accept (obey s c) used list) (refuse (ground_for s c) s list)) (eq-eqb (ground_for s c) 0 g)

-- out of turn is ground 3
pub ground-turn : (s : State) (c : Command) → in_turn s c ≡ false → ground_for s c ≡ 3
unfolding ground_for
ground-turn s c t = ap (λ (b : Bool). demand b 3 (demand (in_limits s c) 4 (own_ground s c))) t

-- in turn and outside the limits is ground 4
pub ground-limits : (s : State) (c : Command) → in_turn s c ≡ true → in_limits s c ≡ false → ground_for s c ≡ 4
unfolding ground_for
ground-limits s c t l =
    ap (λ (b : Bool). demand b 3 (demand (in_limits s c) 4 (own_ground s c))) t
    ∙ ap (λ (b : Bool). demand b 4 (own_ground s c)) l

-- in turn and inside the limits, only what is checked of that command is left
pub ground-own : (s : State) (c : Command) → in_turn s c ≡ true → in_limits s c ≡ true → ground_for s c ≡ own_ground s c
unfolding ground_for
ground-own s c t l =
    ap (λ (b : Bool). demand b 3 (demand (in_limits s c) 4 (own_ground s c))) t
    ∙ ap (λ (b : Bool). demand b 4 (own_ground s c)) l
