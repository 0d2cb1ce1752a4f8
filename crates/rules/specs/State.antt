-- A plan and its day, as the commands have left them.
use Rattle.std.specs.Prelude.{◌≡◌, true, List, [], ℕ}
use Rattle.books.specs.Kind.{Kind, Each, of, each}
use Rattle.numbers.specs.Lists.{at}
use Rattle.tree.specs.Tree.{EachOnce, root, ordered}
use Rattle.rules.specs.Phase
use Rattle.tree.specs.Tasks

-- one store: its places and, for each task, its counts there
pub record Store : Type 0 where
  -- M, "a cold room of M tray places": the memory bound in force
  pub bound : ℕ
  -- work and out of each task, entry 0 for nobody
  pub works : List ℕ
  pub outs : List ℕ
  -- booked trays of each task, from BEGIN on
  pub booked : List ℕ

pub record State : Type 0 where
  pub phase : ℕ
  -- n and p
  pub size : ℕ
  pub processors : ℕ
  -- the parent of each task, 0 for the root; entry 0 for nobody
  pub parents : List ℕ
  -- the two orders, as far as they are given; from BEGIN on both are complete
  pub activation : List ℕ
  pub execution : List ℕ
  -- the standing of each task, from BEGIN on
  pub standings : List ℕ
  -- the stores
  pub stores : Each Store

-- the empty plan, to which a list of commands is given
abbrev pub none : State
none =
    record {
      phase = Phase.empty;
      size = 0;
      processors = 0;
      parents = [];
      activation = [];
      execution = [];
      standings = [];
      stores = each (λ _. record { bound = 0; works = []; outs = []; booked = [] });
    }

-- the root of a plan
abbrev pub root_of : State → ℕ
root_of s = root s.size (at s.parents)

-- the tasks of a plan in a store, and their needs
abbrev pub tasks_in : State → Store → Tasks.Tasks
tasks_in s store = record { size = s.size; parent = at s.parents; work = at store.works; out = at store.outs }

abbrev pub needs_in : State → Store → ℕ → ℕ
needs_in s store = Tasks.need (tasks_in s store)

-- the store of a kind
abbrev pub store_of : State → Kind → Store
store_of s k = of s.stores k

-- the needs in the cold room
abbrev pub needs : State → ℕ → ℕ
needs s = needs_in s s.stores.chilled

-- "There are two orders, each holding every step once. In the activation order each step stands before its parent."
pub record OrdersHold (s : State) : Type 0 where
  pub activation : EachOnce s.size s.activation
  pub execution : EachOnce s.size s.execution
  pub upward : ordered (at s.parents) s.activation ≡ true
