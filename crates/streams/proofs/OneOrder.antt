-- A plan without an execution order begins as one to which the activation order was given twice.
use mathlib.Core.Path.{◌≡◌, refl, sym, ap, subst, ◌∙◌}
use mathlib.Core.Bool.{true, false, not, ◌&&◌, ◌||◌}
use mathlib.Core.List.{List, [], map}
use Prim.Native.Nat.{ℕ, ◌≤◌, ◌<◌}
use native.Mathlib.Omega.{arith}
use borrow.Author.Tests.{eqb-true, eq-eqb, ne_eqb, lt-ltb}
use lib.Dec.{eqb}
use lib.ListN.{length}
use lib.Seq.{take_all}
use Rattle.rules.specs.Phase
use Rattle.rules.specs.State.{State}
use Rattle.format.specs.Command.{execution, begin}
use Rattle.rules.specs.Grounds.{no_execution, in_turn, peak_of, peak_in, fits_in, peaks_of, own_ground, ground_for}
use Rattle.rules.specs.Obey.{with_orders, execution_order, completed, with_books, proceed, obey}
use Rattle.rules.specs.Answer.{Answered, refuse}
use Rattle.streams.specs.Instance.{instance_of}
use Rattle.streams.specs.Write.{is_whole, write}
use Rattle.rules.specs.Reachable.{Reachable}
use Rattle.streams.specs.OneOrder.{one_order, ground_before, outcome_before, OneOrderHolds}
use Rattle.numbers.proofs.Tests.{or_right, and-true, and_both, and_none}
use Rattle.rules.proofs.Judging.{judge-refused, ground-turn}
use Rattle.rules.proofs.Completing.{begin-turn, begin-ground}
use Rattle.rules.proofs.Reaching.{lives}
use Rattle.streams.proofs.Staged.{staged}
use Rattle.streams.proofs.Leading.{Leads, Order, executions-lead}

-- a list without entries
pub no-entries : (l : List ℕ) → length l ≡ 0 → l ≡ []
no-entries l e = sym (take_all 0 l (omega arith))

-- an execution order that was given stays as it is
pub completed-given : (s : State) → (length s.execution ≡ 0 → ⊥) → completed s ≡ s
unfolding completed execution_order with_orders
completed-given s some = rw (ne_eqb (length s.execution) 0 some)

-- a plan with a full activation order and no 04 at all
pub record Found (s : State) : Type 0 where
  pub now : s.phase ≡ Phase.orders
  pub ranked : length s.activation ≡ s.size
  pub none : length s.execution ≡ 0

pub found : (s : State) → one_order s ≡ true → Found s
unfolding one_order
found s one =
    let last = and-true (eqb s.phase Phase.orders && eqb (length s.activation) s.size) (no_execution s) one in
    let first = and-true (eqb s.phase Phase.orders) (eqb (length s.activation) s.size) last.0 in
    record {
      now = eqb-true s.phase Phase.orders first.0;
      ranked = eqb-true (length s.activation) s.size first.1;
      none = eqb-true (length s.execution) 0 last.1;
    }

-- the plan that it is, and that it becomes
pub found-alone : (s : State) → Found s → with_orders s s.activation [] ≡ s
unfolding with_orders
found-alone s f = ap (with_orders s s.activation) (sym (no-entries s.execution f.none))

-- the activation order, used for both
twice-is : (s : State) → Found s → execution_order s ≡ s.activation
unfolding execution_order
twice-is s f = rw (eq-eqb (length s.execution) 0 f.none)

pub found-completed : (s : State) → Found s → with_orders s s.activation s.activation ≡ completed s
unfolding completed
found-completed s f = ap (with_orders s s.activation) (sym (twice-is s f))

-- BEGIN finds it where it is in turn and no 04 was given
pub in-turn-alone : (s : State) → in_turn s begin ≡ true → length s.execution ≡ 0 → one_order s ≡ true
unfolding one_order
in-turn-alone s turn none =
    let t = begin-turn s turn in
    rw (
      eq-eqb s.phase Phase.orders t.now,
      eq-eqb (length s.activation) s.size t.activated,
      eq-eqb (length s.execution) 0 none,
    )

-- BEGIN is in turn where the activation order is whole, and the execution order whole or not there
pub begin-in-turn :
    (s : State)
    → s.phase ≡ Phase.orders
    → length s.activation ≡ s.size
    → (eqb (length s.execution) s.size || no_execution s) ≡ true
    → in_turn s begin ≡ true
unfolding in_turn
begin-in-turn s now ranked either =
    rw (eq-eqb s.phase Phase.orders now, eq-eqb (length s.activation) s.size ranked) either

module _ (s : State) (reached : Reachable s) (one : one_order s ≡ true) where
  f : Found s
  f = found s one

  some : 1 ≤ s.size
  some = (staged reached).some (λ e. let now = f.now in omega arith)

  copies : Leads s (map execution s.activation) (completed s)
  copies =
      let formed = (lives reached).formed in
      let order : Order s.size s.activation = record { inside = formed.activation-inside; once = formed.activation-once; whole = f.ranked } in
      let leads = executions-lead s s.activation s.activation f.now formed.sized order in
      subst (λ (t : State). Leads t (map execution s.activation) (completed s)) (found-alone s f)
      (subst (Leads (with_orders s s.activation []) (map execution s.activation)) (found-completed s f) leads)

  in-turn : in_turn s begin ≡ true
  in-turn =
      begin-in-turn s f.now f.ranked
      (or_right (eqb (length s.execution) s.size) (no_execution s) (eq-eqb (length s.execution) 0 f.none))

  same-ground : ground_for s begin ≡ ground_before (completed s)
  unfolding ground_before completed with_orders own_ground peak_of peak_in fits_in
  same-ground =
      begin-ground s in-turn
      ∙ rw (
        eq-eqb s.phase Phase.orders f.now,
        eq-eqb (length s.activation) s.size f.ranked,
        eq-eqb (length (execution_order s)) s.size (begin-turn s in-turn).executed,
      )

  same_outcome : obey s begin ≡ outcome_before (completed s)
  unfolding obey outcome_before completed with_orders peaks_of
  same_outcome = refl

  obeyed-whole : is_whole (obey s begin).state ≡ true
  unfolding is_whole obey proceed with_books completed with_orders
  obeyed-whole =
      rw (
        eq-eqb (length s.activation) s.size f.ranked,
        eq-eqb (length (execution_order s)) s.size (begin-turn s in-turn).executed,
      )

  not-whole : is_whole s ≡ false
  unfolding is_whole
  not-whole =
      let exec = f.none in
      let more = some in
      rw (ne_eqb (length s.execution) s.size (λ e. omega arith))
      (and_none (not (eqb s.phase Phase.empty) && eqb (length s.activation) s.size))

  pub one-order-holds : OneOrderHolds s
  unfolding in_turn obey proceed with_books completed with_orders write refuse
  one-order-holds =
      record {
        turn = in-turn;
        given = copies.accepted;
        copied = copies.obeyed;
        ground_for = same-ground;
        outcome = same_outcome;
        whole = obeyed-whole;
        twice = ap (λ (l : List ℕ). instance_of (with_orders s s.activation l)) (twice-is s f);
        early = λ list. rw not-whole;
        still =
            λ i.
            let exec = f.none in
            let more = some in
            and_both _ _ (eq-eqb s.phase Phase.orders f.now) (lt-ltb (length s.execution) s.size (omega arith));
        refusal = λ used list some. ap (λ (r : Answered). r.state) (judge-refused s begin (ground_for s begin) used list refl some);
      }

-- with a part of the execution order BEGIN is out of turn
pub part-late : (s : State) → 1 ≤ length s.execution → length s.execution < s.size → ground_for s begin ≡ 3
unfolding in_turn
part-late s some less =
    ground-turn s begin
    (rw (
      ne_eqb (length s.execution) s.size (λ e. omega arith),
      ne_eqb (length s.execution) 0 (λ e. omega arith),
    ) (and_none (eqb s.phase Phase.orders && eqb (length s.activation) s.size)))
