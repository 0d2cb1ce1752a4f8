-- "A plan here is n, p, M, the steps and both orders": what is given of a plan, with the bound in force, apart from its day. "PLAN, the steps, the activation
-- order, the execution order, without BEGIN" are its commands.
use mathlib.Core.List.{List, [], ◌∷◌, ◌++◌, map, flat_map}
use Rattle.std.specs.Prelude.{ℕ, zero, suc}
use Rattle.books.specs.Kind.{Each, of, each}
use Rattle.numbers.specs.Lists.{at}
use Rattle.rules.specs.Phase
use Rattle.rules.specs.State.{State, store_of}
use Rattle.format.specs.Command.{Command, plan, task, activation, execution, bytes}

pub record Instance : Type 0 where
  -- n, p, and M of each store: the memory bound in force
  pub size : ℕ
  pub processors : ℕ
  pub bounds : Each ℕ
  -- the parent of each task, and its work and out in each store; entry 0 for nobody
  pub parents : List ℕ
  pub works : Each (List ℕ)
  pub outs : Each (List ℕ)
  -- the two orders
  pub activation : List ℕ
  pub execution : List ℕ

-- what is given of a plan as it stands
abbrev pub instance_of : State → Instance
instance_of s =
    record {
      size = s.size;
      processors = s.processors;
      bounds = each (λ k. (store_of s k).bound);
      parents = s.parents;
      works = each (λ k. (store_of s k).works);
      outs = each (λ k. (store_of s k).outs);
      activation = s.activation;
      execution = s.execution;
    }

-- the plan with all of this given, and not begun
unfoldable pub unbegun : Instance → State
unbegun m =
    record {
      phase = Phase.orders;
      size = m.size;
      processors = m.processors;
      parents = m.parents;
      activation = m.activation;
      execution = m.execution;
      standings = [];
      stores =
          each (λ k. record { bound = of m.bounds k; works = of m.works k; outs = of m.outs k; booked = [] });
    }

-- PLAN, STEP for task i, and STEP for each of the tasks 1 to k, in order
abbrev pub opening_of : Instance → Command
opening_of m = plan m.size m.processors m.bounds.chilled

abbrev pub task_of : Instance → ℕ → Command
task_of m i = task (at m.parents i) (at m.works.chilled i) (at m.outs.chilled i)

unfoldable pub tasks_to : Instance → ℕ → List Command
tasks_to m zero = []
tasks_to m (suc k) = tasks_to m k ++ (task_of m (suc k) ∷ [])

-- "PLAN, the steps, the activation order, the execution order, without BEGIN"
unfoldable pub commands : Instance → List Command
commands m =
    (opening_of m ∷ [])
    ++ tasks_to m m.size
    ++ map activation m.activation
    ++ map execution m.execution

-- the bytes of a written plan
unfoldable pub written : Instance → List ℕ
written m = flat_map bytes (commands m)
