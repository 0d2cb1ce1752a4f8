-- The commands of a plan that is written: they lead from a plan that may be dropped to one that has been given all of it.
use mathlib.Core.Path.{◌≡◌, refl, sym, ap, subst, ◌∙◌}
use mathlib.Core.Bool.{true, false, not, cond, ◌&&◌}
use mathlib.Core.Logic.{⊎_elim}
use mathlib.Core.List.{List, [], ◌∷◌, ◌++◌, map}
use Prim.Native.Nat.{ℕ, zero, suc, ◌≤◌, ◌<◌}
use native.Mathlib.Omega.{arith}
use borrow.Author.Tests.{eqb-true, eq-eqb, ne_eqb, le-leb}
use lib.Dec.{eqb}
use lib.ListN.{length, take}
use lib.Seq.{take-suc, take_all, length-take-le}
use Rattle.books.specs.Kind.{Kind, chilled, of, each}
use Rattle.numbers.specs.Limits.{max_tasks, max_processors, max_count, max_bound}
use Rattle.numbers.specs.Sums.{Task}
use Rattle.numbers.specs.Lists.{at}
use Rattle.rules.specs.Phase
use Rattle.rules.specs.State.{State, store_of}
use Rattle.format.specs.Command.{activation, execution, forms, find, byte_of, operands_of, widths_of}
use Rattle.rules.specs.Grounds.{in_turn, in_limits, own_ground, ground_for}
use Rattle.rules.specs.Obey.{opened, with_task, with_orders, obey}
use Rattle.rules.specs.Reachable.{Reachable}
use Rattle.streams.specs.Instance.{Instance, instance_of, unbegun, opening_of, task_of, tasks_to, commands}
use Rattle.streams.specs.Write.{is_whole}
use Rattle.numbers.proofs.Tests.{clash, le-or-lt, and-true}
use Rattle.tree.proofs.Orders.{task-within}
use Rattle.rules.proofs.Judging.{ground-own}
use Rattle.books.proofs.EachStore.{of-each}
use Rattle.rules.proofs.Formed.{Column}
use Rattle.rules.proofs.Reaching.{lives}
use Rattle.streams.proofs.Staged.{staged}
use Rattle.streams.proofs.Leading.{Leads, stays, obeyed-first, ◌then◌, Order, activations-lead, executions-lead}

-- every number is in its limits, every column whole, and both orders complete
pub record Proper (m : Instance) : Type 0 where
  tasks : Task max_tasks m.size
  staffed : Task max_processors m.processors
  bounded : (k : Kind) → of m.bounds k ≤ max_bound
  parents : Column (suc m.size) m.size m.parents
  works : (k : Kind) → Column (suc m.size) max_count (of m.works k)
  outs : (k : Kind) → Column (suc m.size) max_count (of m.outs k)
  pub activation : Order m.size m.activation
  pub execution : Order m.size m.execution

-- the plan with the first k tasks given
abbrev partial : Instance → ℕ → State
partial m k =
    record {
      phase = cond (eqb k m.size) Phase.orders Phase.steps;
      size = m.size;
      processors = m.processors;
      parents = take (suc k) m.parents;
      activation = [];
      execution = [];
      standings = [];
      stores =
          each
          (λ kind.
          record {
            bound = of m.bounds kind;
            works = take (suc k) (of m.works kind);
            outs = take (suc k) (of m.outs kind);
            booked = [];
          });
    }

-- a column with all tasks given
given-column : {given n limit : ℕ} {l m : List ℕ} → given ≡ n → m ≡ l → Column given limit l → Column n limit m
given-column {limit = limit} long same c =
    subst (Column _ limit) (sym same) (record { long = c.long ∙ long; nobody = c.nobody; limited = c.limited })

-- a column with the entry for nobody alone, with one entry more, and with all
column-first : {n limit : ℕ} {l : List ℕ} → Column (suc n) limit l → take 1 l ≡ 0 ∷ []
column-first {l = l} c = let long = c.long in take-suc l 0 0 (omega arith) ∙ ap (λ (x : ℕ). x ∷ []) c.nobody

column-more : {n limit : ℕ} {l : List ℕ} (k : ℕ) → k < n → Column (suc n) limit l → take (suc k) l ++ (at l (suc k) ∷ []) ≡ take (suc (suc k)) l
column-more {l = l} k more c = let long = c.long in sym (take-suc l (suc k) 0 (omega arith))

column-whole : {n limit : ℕ} {l : List ℕ} → Column (suc n) limit l → take (suc n) l ≡ l
column-whole {n} {l = l} c = let long = c.long in take_all (suc n) l (omega arith)

module _ (m : Instance) (g : Proper m) where
  opens : opened m.size m.processors m.bounds.chilled ≡ partial m 0
  unfolding opened
  opens =
      let some = g.tasks.low in
      rw (ne_eqb 0 m.size (λ e. omega arith), column-first g.parents, column-first (g.works chilled), column-first (g.outs chilled))

  -- one task more
  task-ground : (k : ℕ) → k < m.size → ground_for (partial m k) (task_of m (suc k)) ≡ 0
  unfolding in_turn in_limits own_ground
  task-ground k more =
      ground-own (partial m k) (task_of m (suc k)) (rw (ne_eqb k m.size (λ e. omega arith)) refl)
      (rw (le-leb _ _ (g.parents.limited (suc k)), le-leb _ _ ((g.works chilled).limited (suc k)), le-leb _ _ ((g.outs chilled).limited (suc k))))

  task-obeyed : (k : ℕ) → k < m.size → (obey (partial m k) (task_of m (suc k))).state ≡ partial m (suc k)
  unfolding obey with_task
  task-obeyed k more =
      let long = g.parents.long in
      rw (
        length-take-le (suc k) m.parents (omega arith),
        column-more k more g.parents,
        column-more k more (g.works chilled),
        column-more k more (g.outs chilled),
      )

  tasks-lead : (k : ℕ) → k ≤ m.size → Leads (partial m 0) (tasks_to m k) (partial m k)
  unfolding tasks_to widths_of find forms byte_of operands_of
  tasks-lead zero h = stays (partial m 0)
  tasks-lead (suc k) h =
      let most = g.tasks.high in
      let parent = g.parents.limited (suc k) in
      let work = (g.works chilled).limited (suc k) in
      let out = (g.outs chilled).limited (suc k) in
      tasks-lead k (omega arith)
      then obeyed-first (task_of m (suc k)) (omega arith, (omega arith, (omega arith, tt)))
      (task-ground k (omega arith))
      (rw (task-obeyed k (omega arith)) (stays (partial m (suc k))))

  -- the last of them leaves the plan in orders
  all-tasks : partial m m.size ≡ with_orders (unbegun m) [] []
  unfolding with_orders unbegun
  all-tasks = rw (eq-eqb m.size m.size refl, column-whole g.parents, column-whole (g.works chilled), column-whole (g.outs chilled))

  -- the two orders of a plan in orders
  activation-leads :
      Leads (with_orders (unbegun m) [] []) (map activation m.activation) (with_orders (unbegun m) m.activation [])
  unfolding with_orders unbegun
  activation-leads = activations-lead (unbegun m) m.activation [] refl g.tasks.high g.activation

  execution-leads :
      Leads (with_orders (unbegun m) m.activation []) (map execution m.execution) (unbegun m)
  unfolding with_orders unbegun
  execution-leads = executions-lead (unbegun m) m.activation m.execution refl g.tasks.high g.execution

  -- all of them, from any plan that PLAN may drop
  opening-leads :
      (s : State)
      → Phase.holds_trays s.phase ≡ false
      → Leads s (opening_of m ∷ []) (partial m 0)
  unfolding in_turn in_limits own_ground obey widths_of find forms byte_of operands_of
  opening-leads s idle =
      let tasks = g.tasks.high in
      let staffed = g.staffed.high in
      let bounded = g.bounded chilled in
      obeyed-first (opening_of m) (omega arith, (omega arith, (omega arith, tt)))
      (ground-own s (opening_of m) (rw idle)
      (rw (task-within max_tasks m.size g.tasks, task-within max_processors m.processors g.staffed)
      (le-leb m.bounds.chilled max_bound bounded)))
      (rw opens (stays (partial m 0)))

  pub commands-lead : (s : State) → Phase.holds_trays s.phase ≡ false → Leads s (commands m) (unbegun m)
  unfolding commands
  commands-lead s idle =
      opening-leads s idle
      then subst (Leads (partial m 0) (tasks_to m m.size)) all-tasks (tasks-lead m.size (omega arith))
      then activation-leads
      then execution-leads

-- a plan with both orders complete
record Complete (s : State) : Type 0 where
  opened : s.phase ≡ Phase.empty → ⊥
  activation : length s.activation ≡ s.size
  execution : length s.execution ≡ s.size

complete : (s : State) → is_whole s ≡ true → Complete s
unfolding is_whole
complete s whole =
    let both = and-true (not (eqb s.phase Phase.empty) && eqb (length s.activation) s.size) _ whole in
    let first = and-true (not (eqb s.phase Phase.empty)) _ both.0 in
    record {
      opened = λ e. clash first.0 (ap not (eq-eqb s.phase Phase.empty e));
      activation = eqb-true (length s.activation) s.size first.1;
      execution = eqb-true (length s.execution) s.size both.1;
    }

-- to which commands led: with a task and an order it is not in steps any more
pub whole-given : (s : State) → Reachable s → is_whole s ≡ true → Phase.orders ≤ s.phase
whole-given s reached whole =
    let c = complete s whole in
    let act = c.activation in
    let some = (staged reached).some c.opened in
    ⊎_elim
    (λ (early : s.phase ≤ Phase.steps). let none = ap length ((staged reached).no-orders early).0 in absurd (omega arith))
    (λ (late : Phase.steps < s.phase). omega arith)
    (le-or-lt s.phase Phase.steps)

pub proper : (s : State) → Reachable s → is_whole s ≡ true → Proper (instance_of s)
proper s reached whole =
    let f = (lives reached).formed in
    let c = complete s whole in
    let long = f.given.whole (whole-given s reached whole) in
    record {
      tasks = record { low = (staged reached).some c.opened; high = f.sized };
      staffed = record { low = f.staffed c.opened; high = f.limited };
      bounded = λ k. subst (λ (m : ℕ). m ≤ max_bound) (sym (of-each (λ k. (store_of s k).bound) k)) (f.stores k).bounded;
      parents = given-column long refl f.given.parents;
      works = λ k. given-column long (of-each (λ k. (store_of s k).works) k) (f.stores k).works;
      outs = λ k. given-column long (of-each (λ k. (store_of s k).outs) k) (f.stores k).outs;
      activation = record { inside = f.activation-inside; once = f.activation-once; whole = c.activation };
      execution = record { inside = f.execution-inside; once = f.execution-once; whole = c.execution };
    }

-- from BEGIN on both orders are complete
pub begun-whole : (s : State) → Reachable s → Phase.running ≤ s.phase → is_whole s ≡ true
unfolding is_whole
begun-whole s reached day =
    let planned = ((lives reached).day day).1.planned in
    rw (
      ne_eqb s.phase Phase.empty (λ e. omega arith),
      eq-eqb (length s.activation) s.size planned.valid.whole,
      eq-eqb (length s.execution) s.size planned.executed,
    )
