-- An order that was found, given to the plan by calls: 03 for each of its entries, and then BEGIN.
use mathlib.Core.Path.{◌≡◌, refl, sym, ap, subst, ◌∙◌}
use mathlib.Core.Bool.{true}
use mathlib.Core.List.{List, [], ◌∷◌, map}
use Prim.Native.Nat.{ℕ}
use lib.Dec.{eqb}
use lib.ListN.{take}
use borrow.Author.Tests.{eqb-true}
use Rattle.rules.specs.Phase
use Rattle.rules.specs.State.{State}
use Rattle.format.specs.Command.{Command, activation, begin}
use Rattle.rules.specs.Grounds.{in_turn, ground_for}
use Rattle.rules.specs.Obey.{with_orders}
use Rattle.streams.specs.Stream.{obey_all, accepts_all}
use Rattle.streams.specs.Write.{Wrote}
use Rattle.postorders.specs.FindHolds.{SameTasks, BeginsUnlessNoneFits, FoundHolds, FindHolds}
use Rattle.numbers.proofs.Tests.{and-true, and_both}
use Rattle.answer.specs.Meaning.{plan_of}
use Rattle.demand.specs.Calls.{Call, CallContract, Calls, left_by, accepted, all_accepted, Asks, AskEach}
use Rattle.demand.proofs.Followed.{number_is, followed}

-- calls that ask commands which are accepted in turn
asked-each :
    (ks : List Command) (calls : List Call) (w : List ℕ)
    → accepts_all (plan_of w) ks ≡ true
    → Calls w calls
    → AskEach ks calls
    → (all_accepted calls ≡ true) × (plan_of (left_by w calls) ≡ obey_all (plan_of w) ks)
unfolding accepts_all obey_all Calls left_by all_accepted AskEach
asked-each [] [] w grants e asks = (refl, refl)
asked-each [] (c ∷ later) w grants e asks = absurd asks
asked-each (k ∷ ks) [] w grants e asks = absurd asks
asked-each (k ∷ ks) (c ∷ later) w grants e asks =
    let granted = and-true (eqb (ground_for (plan_of w) k) 0) _ grants in
    let o = followed e.0 asks.0 (eqb-true (ground_for (plan_of w) k) 0 granted.0) in
    let next =
    asked-each ks later c.left (subst (λ (s : State). accepts_all s ks ≡ true) (sym o.left) granted.1) e.1 asks.1
    in (
      and_both (accepted c) (all_accepted later) o.accepts next.0,
      next.1 ∙ ap (λ (s : State). obey_all s ks) o.left,
    )

-- an answer with which an order is found
module _ (w list : List ℕ) (r : Wrote) (holds : FindHolds (plan_of w) list r) (found : r.number ≡ 0) where
  order-holds : FoundHolds (plan_of w) (take r.count r.list)
  order-holds = subst (λ (k : ℕ). FoundHolds (plan_of w) (take k r.list)) (sym (holds.count found)) (holds.order found)

  pub order-given :
      (plan_of w).phase ≡ Phase.orders
      → (plan_of w).activation ≡ []
      → (giving : List Call)
      → Calls w giving
      → AskEach (map activation (take r.count r.list)) giving
      → (all_accepted giving ≡ true)
      × (plan_of (left_by w giving) ≡ with_orders (plan_of w) (take r.count r.list) (plan_of w).execution)
  order-given now none giving e asks =
      let takes = order-holds.given now none in
      let both = asked-each (map activation (take r.count r.list)) giving w takes.0 e asks in
      (both.0, both.1 ∙ takes.1)

  pub order-begins :
      (w' : List ℕ)
      → SameTasks (plan_of w) (plan_of w')
      → (plan_of w').activation ≡ take r.count r.list
      → in_turn (plan_of w') begin ≡ true
      → (opening : Call)
      → CallContract w' opening
      → Asks begin opening
      → BeginsUnlessNoneFits (plan_of w') opening.answer.number
  order-begins w' same given turn opening e asks =
      subst (λ (number : ℕ). BeginsUnlessNoneFits (plan_of w') number) (sym (number_is e asks))
      (order-holds.begins (plan_of w') same given turn)
