-- Commands that lead from one plan to another: each fits its bytes and is accepted in its turn.
use mathlib.Core.Path.{◌≡◌, refl, sym, subst, ◌∙◌}
use mathlib.Core.Bool.{true, false}
use mathlib.Core.List.{List, [], ◌∷◌, ◌++◌, map, append-nil, append_assoc}
use Prim.Native.Nat.{ℕ, ◌≤◌, ◌<◌}
use native.Mathlib.Omega.{arith}
use borrow.Author.Tests.{eqb-true, eq-eqb, lt-ltb}
use lib.Dec.{eqb}
use lib.ListN.{length, length-append}
use Rattle.numbers.specs.Limits.{max_tasks}
use Rattle.numbers.specs.Sums.{Task, within}
use Rattle.numbers.specs.Lists.{mem, every, distinct}
use Rattle.rules.specs.Phase
use Rattle.rules.specs.State.{State}
use Rattle.format.specs.Command.{Command, activation, execution, forms, find, byte_of, operands_of, widths_of}
use Rattle.rules.specs.Grounds.{in_turn, in_limits, own_ground, ground_for}
use Rattle.rules.specs.Obey.{with_orders, obey}
use Rattle.streams.specs.Stream.{obey_all, accepts_all}
use Rattle.numbers.proofs.Tests.{and-true, and_both}
use Rattle.tree.proofs.Orders.{within-task, task-within, every_append, new-behind}
use Rattle.rules.proofs.Judging.{ground-own}
use Rattle.format.proofs.Bytes.{fits}
use Rattle.streams.proofs.Stream.{FitAll}

pub record Leads (s : State) (cs : List Command) (t : State) : Type 0 where
  pub fitting : FitAll cs
  pub accepted : accepts_all s cs ≡ true
  pub obeyed : obey_all s cs ≡ t

-- no command, one ahead of others, and one list behind another
pub stays : (s : State) → Leads s [] s
unfolding accepts_all obey_all
stays s = record { fitting = tt; accepted = refl; obeyed = refl }

pub obeyed-first :
    {s t : State} (c : Command) {cs : List Command} → fits c → ground_for s c ≡ 0 → Leads (obey s c).state cs t → Leads s (c ∷ cs) t
unfolding accepts_all obey_all
obeyed-first {s} c f g l =
    record {
      fitting = (f, l.fitting);
      accepted = and_both (eqb (ground_for s c) 0) _ (eq-eqb (ground_for s c) 0 g) l.accepted;
      obeyed = l.obeyed;
    }

joined : (a : List Command) {b : List Command} {s t u : State} → Leads s a t → Leads t b u → Leads s (a ++ b) u
unfolding accepts_all obey_all
joined [] {b} l m =
    record {
      fitting = m.fitting;
      accepted = rw l.obeyed m.accepted;
      obeyed = rw l.obeyed m.obeyed;
    }
joined (c ∷ a) {b} {s} l m =
    let here = and-true (eqb (ground_for s c) 0) _ l.accepted in
    let later = joined a (record { fitting = l.fitting.1; accepted = here.1; obeyed = l.obeyed }) m in
    obeyed-first c l.fitting.0 (eqb-true (ground_for s c) 0 here.0) later

infixl 65 ◌then◌
pub ◌then◌ : {s t u : State} {a b : List Command} → Leads s a t → Leads t b u → Leads s (a ++ b) u
◌then◌ {a = a} l m = joined a l m

-- an order of n tasks, each of them once
pub record Order (n : ℕ) (l : List ℕ) : Type 0 where
  pub inside : every (λ i. within i n) l ≡ true
  pub once : distinct l ≡ true
  pub whole : length l ≡ n

-- its commands, given to a plan that has the front of it: `with` is the plan with a front, and `next` the command
order-leads :
    (n : ℕ) (next : ℕ → Command) (with : List ℕ → State)
    → ((i : ℕ) → Task n i → fits (next i))
    → ((l : List ℕ) (i : ℕ) → length l < n → Task n i → mem i l ≡ false → ground_for (with l) (next i) ≡ 0)
    → ((l : List ℕ) (i : ℕ) → (obey (with l) (next i)).state ≡ with (l ++ (i ∷ [])))
    → (front rest : List ℕ)
    → Order n (front ++ rest)
    → Leads (with front) (map next rest) (with (front ++ rest))
unfolding every
order-leads n next with fit granted obeys front [] order = rw (append-nil front) (stays (with front))
order-leads n next with fit granted obeys front (i ∷ rest) order =
    let split : front ++ i ∷ rest ≡ front ++ (i ∷ []) ++ rest = sym (append_assoc front (i ∷ []) rest) in
    let inside = and-true (every (λ k. within k n) front) _ (sym (every_append (λ k. within k n) front (i ∷ rest)) ∙ order.inside) in
    let task = within-task n i (and-true (within i n) _ inside.1).0 in
    let long = order.whole in
    let later = order-leads n next with fit granted obeys (front ++ (i ∷ [])) rest (subst (Order n) split order) in
    rw split
    (obeyed-first (next i) (fit i task)
    (granted front i (omega (arith, length-append front (i ∷ rest))) task (new-behind front i rest order.once))
    (rw (obeys front i) later))

-- 04 for a task that is not in the execution order yet
pub execution-granted :
    (s : State) (act exec : List ℕ) (i : ℕ)
    → s.phase ≡ Phase.orders
    → length exec < s.size
    → Task s.size i
    → mem i exec ≡ false
    → ground_for (with_orders s act exec) (execution i) ≡ 0
unfolding in_turn in_limits own_ground with_orders
execution-granted s act exec i now more t new =
    ground-own _ (execution i)
    (and_both _ _ (eq-eqb s.phase Phase.orders now) (lt-ltb (length exec) s.size more))
    (task-within s.size i t)
    ∙ rw new refl

-- and for each entry of an order, to a plan that has no execution order yet
pub executions-lead :
    (s : State) (act exec : List ℕ)
    → s.phase ≡ Phase.orders
    → s.size ≤ max_tasks
    → Order s.size exec
    → Leads (with_orders s act []) (map execution exec) (with_orders s act exec)
unfolding obey with_orders widths_of find forms byte_of operands_of
executions-lead s act exec now most order =
    order-leads s.size execution (with_orders s act) (λ i t. let high = t.high in (omega arith, tt))
    (λ l i more t new. execution-granted s act l i now more t new) (λ l i. refl) [] exec order

-- 03 for each entry of an order, to a plan that has no activation order yet
pub activations-lead :
    (s : State) (act exec : List ℕ)
    → s.phase ≡ Phase.orders
    → s.size ≤ max_tasks
    → Order s.size act
    → Leads (with_orders s [] exec) (map activation act) (with_orders s act exec)
unfolding obey with_orders in_turn in_limits own_ground widths_of find forms byte_of operands_of
activations-lead s act exec now most order =
    order-leads s.size activation (λ l. with_orders s l exec) (λ i t. let high = t.high in (omega arith, tt))
    (λ l i more t new.
    ground-own _ (activation i)
    (and_both _ _ (eq-eqb s.phase Phase.orders now) (lt-ltb (length l) s.size more))
    (task-within s.size i t)
    ∙ rw new refl)
    (λ l i. refl) [] act order
