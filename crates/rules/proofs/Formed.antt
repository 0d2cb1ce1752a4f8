-- What holds of every plan that commands led to: its numbers are in their limits, its columns as long as its tasks are many, and
-- no task stands twice in an order.
use mathlib.Core.Path.{◌≡◌, refl, sym, subst, ◌∙◌}
use mathlib.Core.Bool.{Bool, true, false, not, cond, ◌&&◌}
use mathlib.Core.Logic.{⊎_elim}
use mathlib.Core.List.{List, [], ◌∷◌, ◌++◌}
use Prim.Native.Nat.{ℕ, zero, suc, ◌+◌, ◌≤◌}
use native.Mathlib.Omega.{arith}
use lib.Dec.{eqb, leb}
use lib.ListN.{length, length-append, get_or-append}
use borrow.Author.Tests.{eqb-true, eq-eqb, ne_eqb, leb-true, not-true}
use Rattle.books.specs.Kind.{Kind, chilled, Each, of}
use Rattle.numbers.specs.Limits.{max_tasks, max_processors, max_count, max_bound}
use Rattle.numbers.specs.Lists.{at, mem, every, distinct}
use Rattle.rules.specs.Phase
use Rattle.rules.specs.State.{Store, State, none, store_of}
use Rattle.format.specs.Command.{Command, plan, task, activation, execution, begin, done, fetch, places}
use Rattle.rules.specs.Grounds.{in_turn, in_limits, demand, own_ground, ground_for}
use Rattle.numbers.specs.Sums.{within}
use Rattle.rules.specs.Obey.{opened, with_counts, with_task, with_orders, completed, with_booked, with_books, with_bound, proceed, phase_after, unloaded, obey}
use Rattle.numbers.proofs.Tests.{and-true, same_or_not}
use Rattle.tree.proofs.Orders.{within-task, every-snoc, distinct_snoc}
use Rattle.books.proofs.EachStore.{of-each}
use Rattle.rules.proofs.Completing.{either_order, begin-turn}

-- no ground is left where a test holds and none of those behind it
pub demand-none : (t : Bool) (k rest : ℕ) → (k ≡ 0 → ⊥) → demand t k rest ≡ 0 → (t ≡ true) × (rest ≡ 0)
demand-none true k rest d e = (refl, e)
demand-none false k rest d e = absurd (d e)

-- a command that no ground refuses
pub record Accepted (s : State) (c : Command) : Type 0 where
  pub turn : in_turn s c ≡ true
  pub limits : in_limits s c ≡ true
  pub own : own_ground s c ≡ 0

pub no-ground : (s : State) (c : Command) → ground_for s c ≡ 0 → Accepted s c
unfolding ground_for
no-ground s c e =
    let one = demand-none (in_turn s c) 3 (demand (in_limits s c) 4 (own_ground s c)) (λ q. omega arith) e in
    let two = demand-none (in_limits s c) 4 (own_ground s c) (λ q. omega arith) one.1 in
    record { turn = one.0; limits = two.0; own = two.1 }

-- a column: an entry for nobody, and one in its limit for each task that is given so far
pub record Column (given limit : ℕ) (l : List ℕ) : Type 0 where
  pub long : length l ≡ given
  pub nobody : at l 0 ≡ 0
  pub limited : (i : ℕ) → at l i ≤ limit

-- a store of a plan
pub record StoreFormed (given : ℕ) (store : Store) : Type 0 where
  pub bounded : store.bound ≤ max_bound
  pub works : Column given max_count store.works
  pub outs : Column given max_count store.outs

-- the parents of the tasks that are given so far
pub record Given (s : State) : Type 0 where
  pub parents : Column (length s.parents) s.size s.parents
  pub in_steps : s.phase ≡ Phase.steps → (1 ≤ length s.parents) × (length s.parents ≤ s.size)
  pub whole : Phase.orders ≤ s.phase → length s.parents ≡ suc s.size

pub record Formed (s : State) : Type 0 where
  pub sized : s.size ≤ max_tasks
  pub given : Given s
  pub stores : (k : Kind) → StoreFormed (length s.parents) (store_of s k)
  pub activation-inside : every (λ i. within i s.size) s.activation ≡ true
  pub activation-once : distinct s.activation ≡ true
  pub execution-inside : every (λ i. within i s.size) s.execution ≡ true
  pub execution-once : distinct s.execution ≡ true
  pub staffed : (s.phase ≡ Phase.empty → ⊥) → 1 ≤ s.processors
  pub limited : s.processors ≤ max_processors

-- a column without entries
none-at : (limit i : ℕ) → at [] i ≤ limit
none-at limit zero = omega arith
none-at limit (suc i) = omega arith

-- one entry more in a list of limited entries
at_snoc : (l : List ℕ) (x limit : ℕ) → ((i : ℕ) → at l i ≤ limit) → x ≤ limit → (i : ℕ) → at (l ++ (x ∷ [])) i ≤ limit
at_snoc [] x limit h b zero = b
at_snoc [] x limit h b (suc i) = omega arith
at_snoc (y ∷ l) x limit h b zero = h 0
at_snoc (y ∷ l) x limit h b (suc i) = at_snoc l x limit (λ k. h (suc k)) b i

-- a column with the entry for nobody alone
nobody-at : (limit i : ℕ) → at (0 ∷ []) i ≤ limit
nobody-at limit = at_snoc [] 0 limit (none-at limit) (omega arith)

-- the same as columns, and one entry more
no-column : {limit : ℕ} → Column 0 limit []
no-column {limit} = record { long = refl; nobody = refl; limited = none-at limit }

nobody-column : {limit : ℕ} → Column 1 limit (0 ∷ [])
nobody-column {limit} = record { long = refl; nobody = refl; limited = nobody-at limit }

longer-column :
    {given limit : ℕ} {l : List ℕ} (x : ℕ) → 1 ≤ given → x ≤ limit → Column given limit l → Column (given + 1) limit (l ++ (x ∷ []))
longer-column {given} {limit} {l} x some low c =
    let long = c.long in
    record {
      long = simp length-append (omega arith);
      nobody = get_or-append l (x ∷ []) 0 0 (omega arith) ∙ c.nobody;
      limited = at_snoc l x limit c.limited low;
    }

-- the empty plan
pub none-formed : Formed none
unfolding every distinct
none-formed =
    record {
      sized = omega arith;
      given = record { parents = no-column; in_steps = λ e. absurd (omega arith); whole = λ h. absurd (omega arith) };
      stores = λ k.
          subst (StoreFormed 0) (sym (of-each (λ _. record { bound = 0; works = []; outs = []; booked = [] }) k))
          (record { bounded = omega arith; works = no-column; outs = no-column });
      activation-inside = refl;
      activation-once = refl;
      execution-inside = refl;
      execution-once = refl;
      staffed = λ d. absurd (d refl);
      limited = omega arith;
    }

-- the entry is not in that order yet
new-entry : (x : ℕ) (l : List ℕ) → demand (not (mem x l)) 5 0 ≡ 0 → mem x l ≡ false
new-entry x l e = not-true (mem x l) (demand-none (not (mem x l)) 5 0 (λ q. omega arith) e).0

-- the day does not touch the plan
pub with-books-formed :
    (s : State) (phase : ℕ) (st : List ℕ) (b : Each (List ℕ))
    → 1 ≤ s.processors
    → Phase.orders ≤ s.phase
    → Phase.orders ≤ phase
    → Formed s
    → Formed (with_books s phase st b)
unfolding with_books
with-books-formed s phase st b p before after h =
    record {
      sized = h.sized;
      given = record { parents = h.given.parents; in_steps = λ e. absurd (omega arith); whole = λ _. h.given.whole before };
      stores = λ k.
          let store = h.stores k in
          subst (StoreFormed (length s.parents)) (sym (of-each (λ k. with_booked (store_of s k) (of b k)) k))
          (record { bounded = store.bounded; works = store.works; outs = store.outs });
      activation-inside = h.activation-inside;
      activation-once = h.activation-once;
      execution-inside = h.execution-inside;
      execution-once = h.execution-once;
      staffed = λ _. p;
      limited = h.limited;
    }

-- the phase after a report
pub after-report : (s : State) (j : ℕ) → Phase.running ≤ phase_after s j
unfolding phase_after
after-report s j = go (eqb (at s.parents j) 0)
  where
    go : (t : Bool) → Phase.running ≤ cond t Phase.ready Phase.running
    go true = omega arith
    go false = omega arith

-- the phase after a task says whether it was the last
task-more : (given size : ℕ) → cond (eqb given size) Phase.orders Phase.steps ≡ Phase.steps → given ≡ size → ⊥
task-more given size p e = let q = rw (eq-eqb given size e) at p in omega arith

task-last : (given size : ℕ) → Phase.orders ≤ cond (eqb given size) Phase.orders Phase.steps → given ≡ size
task-last given size p =
    ⊎_elim (λ e. e) (λ d. let q = rw (ne_eqb given size d) at p in absurd (omega arith)) (same_or_not given size)

below : (a b : ℕ) → a ≤ b → (a ≡ b → ⊥) → a + 1 ≤ b
below a b h d = omega arith

-- STEP adds an entry to each column
task-given :
    (s : State) (parent work out : ℕ) → s.phase ≡ Phase.steps → parent ≤ s.size → Given s → Given (with_task s parent work out)
unfolding with_task
task-given s parent work out steps limit h =
    let given = length s.parents in
    record {
      parents =
          subst (λ (g : ℕ). Column g s.size (s.parents ++ (parent ∷ []))) (sym (length-append s.parents (parent ∷ [])))
          (longer-column parent (h.in_steps steps).0 limit h.parents);
      in_steps = λ e.
          (let room = below given s.size (h.in_steps steps).1 (task-more given s.size e) in simp length-append (omega arith, omega arith));
      whole = λ e. (let all = task-last given s.size e in simp length-append (omega arith));
    }

-- an order as far as it is given
record Listed (n : ℕ) (l : List ℕ) : Type 0 where
  inside : every (λ i. within i n) l ≡ true
  once : distinct l ≡ true

-- other orders
with-orders-formed :
    (s : State) {act exec : List ℕ} → Listed s.size act → Listed s.size exec → Formed s → Formed (with_orders s act exec)
unfolding with_orders
with-orders-formed s act exec h =
    record {
      sized = h.sized;
      given = record { parents = h.given.parents; in_steps = h.given.in_steps; whole = h.given.whole };
      stores = h.stores;
      activation-inside = act.inside;
      activation-once = act.once;
      execution-inside = exec.inside;
      execution-once = exec.once;
      staffed = h.staffed;
      limited = h.limited;
    }

-- 03 and 04 add an entry
one_more :
    (s : State) (l : List ℕ) (i : ℕ)
    → Listed s.size l
    → within i s.size ≡ true
    → demand (not (mem i l)) 5 0 ≡ 0
    → Listed s.size (l ++ (i ∷ []))
one_more s l i h limits own =
    record {
      inside = every-snoc (λ k. within k s.size) l i h.inside limits;
      once = distinct_snoc l i h.once (new-entry i l own);
    }

-- other places of the cold room
pub with-bound-formed : (s : State) (bound : ℕ) → bound ≤ max_bound → Formed s → Formed (with_bound s bound)
unfolding with_bound
with-bound-formed s bound limit h =
    record {
      sized = h.sized;
      given = record { parents = h.given.parents; in_steps = h.given.in_steps; whole = h.given.whole };
      stores = stores;
      activation-inside = h.activation-inside;
      activation-once = h.activation-once;
      execution-inside = h.execution-inside;
      execution-once = h.execution-once;
      staffed = h.staffed;
      limited = h.limited;
    }
  where
    stores : (k : Kind) → StoreFormed (length s.parents) (store_of (with_bound s bound) k)
    stores chilled =
        let store = h.stores chilled in record { bounded = limit; works = store.works; outs = store.outs }

-- BEGIN completes them
pub completed-formed : (s : State) → Formed s → Formed (completed s)
unfolding completed
completed-formed s h =
    let act : Listed s.size s.activation = record { inside = h.activation-inside; once = h.activation-once } in
    with-orders-formed s act
    (either_order (Listed s.size) s (λ _. act) (λ _. record { inside = h.execution-inside; once = h.execution-once })) h

-- an accepted command keeps it
pub obey-formed : (s : State) (c : Command) → Accepted s c → Formed s → Formed (obey s c).state
unfolding obey opened with_task with_orders completed unloaded with_bound in_turn in_limits own_ground every distinct proceed
obey-formed s (plan n p bound) a h =
    let limits = and-true (within n max_tasks && within p max_processors) (leb bound max_bound) a.limits in
    let both = and-true (within n max_tasks) (within p max_processors) limits.0 in
    let tasks = within-task max_tasks n both.0 in
    let between = within-task max_processors p both.1 in
    record {
      sized = tasks.high;
      given = record { parents = nobody-column; in_steps = λ _. (omega arith, tasks.low); whole = λ e. absurd (omega arith) };
      stores = λ k.
          subst (StoreFormed 1) (sym (of-each (λ _. record { bound = bound; works = 0 ∷ []; outs = 0 ∷ []; booked = [] }) k))
          (record { bounded = leb-true bound max_bound limits.1; works = nobody-column; outs = nobody-column });
      activation-inside = refl;
      activation-once = refl;
      execution-inside = refl;
      execution-once = refl;
      staffed = λ _. between.low;
      limited = between.high;
    }
obey-formed s (task parent work out) a h =
    let limits = and-true (leb parent s.size && leb work max_count) (leb out max_count) a.limits in
    let both = and-true (leb parent s.size) (leb work max_count) limits.0 in
    let steps = eqb-true s.phase Phase.steps a.turn in
    record {
      sized = h.sized;
      given = task-given s parent work out steps (leb-true parent s.size both.0) h.given;
      stores = λ k.
          let store = h.stores k in
          let some = (h.given.in_steps steps).0 in
          subst (StoreFormed (length (s.parents ++ (parent ∷ []))))
          (sym (of-each (λ k. with_counts (store_of s k) work out) k))
          (subst (λ (given : ℕ). StoreFormed given (with_counts (store_of s k) work out)) (sym (length-append s.parents (parent ∷ [])))
          (record {
            bounded = store.bounded;
            works = longer-column work some (leb-true work max_count both.1) store.works;
            outs = longer-column out some (leb-true out max_count limits.1) store.outs;
          }));
      activation-inside = h.activation-inside;
      activation-once = h.activation-once;
      execution-inside = h.execution-inside;
      execution-once = h.execution-once;
      staffed = λ _. h.staffed (λ e. omega arith);
      limited = h.limited;
    }
obey-formed s (activation i) a h =
    with-orders-formed s
    (one_more s s.activation i (record { inside = h.activation-inside; once = h.activation-once }) a.limits a.own)
    (record { inside = h.execution-inside; once = h.execution-once }) h
obey-formed s (execution i) a h =
    with-orders-formed s (record { inside = h.activation-inside; once = h.activation-once })
    (one_more s s.execution i (record { inside = h.execution-inside; once = h.execution-once }) a.limits a.own) h
obey-formed s begin a h =
    let now = (begin-turn s a.turn).now in
    with-books-formed (completed s) _ _ _ (h.staffed (λ e. omega arith)) (omega arith) (omega arith) (completed-formed s h)
obey-formed s (done j) a h =
    let now = eqb-true s.phase Phase.running a.turn in
    with-books-formed s _ _ _ (h.staffed (λ e. omega arith)) (omega arith) (let after = after-report s j in omega arith) h
obey-formed s fetch a h =
    let now = eqb-true s.phase Phase.ready a.turn in
    with-books-formed s _ _ _ (h.staffed (λ e. omega arith)) (omega arith) (omega arith) h
obey-formed s (places bound) a h =
    let now = eqb-true s.phase Phase.running a.turn in
    with-books-formed (with_bound s bound) _ _ _ (h.staffed (λ e. omega arith)) (omega arith) (omega arith)
    (with-bound-formed s bound (leb-true bound max_bound a.limits) h)
