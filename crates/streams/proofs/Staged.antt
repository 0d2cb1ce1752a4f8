-- What every plan that commands led to has in each phase: a task once it is opened, no order ahead of the last task, nothing of a day
-- ahead of BEGIN.
use mathlib.Core.Path.{◌≡◌, refl}
use mathlib.Core.Bool.{◌&&◌}
use mathlib.Core.List.{List, []}
use Prim.Native.Nat.{ℕ, ◌≤◌}
use native.Mathlib.Omega.{arith}
use lib.Dec.{leb}
use borrow.Author.Tests.{eqb-true}
use Rattle.books.specs.Kind.{Each, each}
use Rattle.numbers.specs.Limits.{max_tasks, max_processors, max_bound}
use Rattle.rules.specs.Phase
use Rattle.rules.specs.State.{State, none}
use Rattle.format.specs.Command.{Command, plan, task, activation, execution, begin, done, fetch, places}
use Rattle.rules.specs.Grounds.{in_turn, in_limits}
use Rattle.numbers.specs.Sums.{within}
use Rattle.rules.specs.Obey.{opened, with_task, with_orders, completed, books_of, with_books, with_bound, unloaded, proceed, obey}
use Rattle.rules.specs.Reachable.{Reachable}
use Rattle.numbers.proofs.Tests.{and-true}
use Rattle.tree.proofs.Orders.{within-task}
use Rattle.rules.proofs.Completing.{begin-turn}
use Rattle.rules.proofs.Formed.{Accepted, after-report}
use Rattle.rules.proofs.Reaching.{by-commands}

pub record Staged (s : State) : Type 0 where
  pub some : (s.phase ≡ Phase.empty → ⊥) → 1 ≤ s.size
  pub no-orders : s.phase ≤ Phase.steps → (s.activation ≡ []) × (s.execution ≡ [])
  pub no-books : s.phase ≤ Phase.orders → (s.standings ≡ []) × ((books_of s).booked ≡ each (λ _. []))

none-staged : Staged none
none-staged =
    record { some = λ d. absurd (d refl); no-orders = λ _. (refl, refl); no-books = λ _. (refl, refl) }

-- 03, 04 and BEGIN change an order of a plan in orders
entry-staged :
    (s : State) (act exec : List ℕ) → s.phase ≡ Phase.orders → Staged s → Staged (with_orders s act exec)
unfolding with_orders
entry-staged s act exec now h =
    record { some = h.some; no-orders = λ early. absurd (omega arith); no-books = h.no-books }

-- from BEGIN on only the task is left
day-staged :
    (s : State) (phase : ℕ) (st : List ℕ) (b : Each (List ℕ))
    → Phase.orders ≤ s.phase
    → Phase.running ≤ phase
    → Staged s
    → Staged (with_books s phase st b)
unfolding with_books
day-staged s phase st b before after h =
    record {
      some = λ _. h.some (λ e. omega arith);
      no-orders = λ early. absurd (omega arith);
      no-books = λ early. absurd (omega arith);
    }

-- other places leave it
bound-staged : (s : State) (bound : ℕ) → Staged s → Staged (with_bound s bound)
unfolding with_bound
bound-staged s bound h = record { some = h.some; no-orders = h.no-orders; no-books = h.no-books }

obey-staged : (s : State) (c : Command) → Accepted s c → Staged s → Staged (obey s c).state
unfolding obey opened with_task with_orders completed unloaded with_bound in_turn in_limits proceed
obey-staged s (plan n p bound) a h =
    let limits = and-true (within n max_tasks && within p max_processors) (leb bound max_bound) a.limits in
    let tasks = within-task max_tasks n (and-true (within n max_tasks) (within p max_processors) limits.0).0 in
    record { some = λ _. tasks.low; no-orders = λ _. (refl, refl); no-books = λ _. (refl, refl) }
obey-staged s (task parent work out) a h =
    let now = eqb-true s.phase Phase.steps a.turn in
    record {
      some = λ _. h.some (λ e. omega arith);
      no-orders = λ _. h.no-orders (omega arith);
      no-books = λ _. h.no-books (omega arith);
    }
obey-staged s (activation i) a h =
    entry-staged s _ _ (eqb-true s.phase Phase.orders (and-true _ _ a.turn).0) h
obey-staged s (execution i) a h =
    entry-staged s _ _ (eqb-true s.phase Phase.orders (and-true _ _ a.turn).0) h
obey-staged s begin a h =
    let now = (begin-turn s a.turn).now in
    day-staged (completed s) _ _ _ (omega arith) (omega arith) (entry-staged s _ _ now h)
obey-staged s (done j) a h =
    let now = eqb-true s.phase Phase.running a.turn in
    day-staged s _ _ _ (omega arith) (after-report s j) h
obey-staged s fetch a h =
    let now = eqb-true s.phase Phase.ready a.turn in
    day-staged s _ _ _ (omega arith) (omega arith) h
obey-staged s (places bound) a h =
    let now = eqb-true s.phase Phase.running a.turn in
    day-staged (with_bound s bound) _ _ _ (omega arith) (omega arith) (bound-staged s bound h)

pub staged : {s : State} → Reachable s → Staged s
staged = by-commands Staged none-staged obey-staged
