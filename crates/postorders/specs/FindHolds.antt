-- What is promised of the order that is found: it is an activation order, "no order of that kind has a lower peak", and it stands in
-- the lent list.
use Rattle.std.specs.Prelude.{◌≡◌, true, ◌⊎◌, List, [], ◌++◌, map, ℕ, ◌≤◌, ◌<◌, length, get_or, take, drop}
use Rattle.numbers.specs.Sums.{Task}
use Rattle.numbers.specs.Lists.{at, mem, place}
use Rattle.tree.specs.Tree.{EachOnce, roots, ordered, chain, up}
use Rattle.tree.specs.Tasks
use Rattle.rules.specs.Phase
use Rattle.rules.specs.State.{State, root_of, tasks_in}
use Rattle.format.specs.Command.{activation, begin}
use Rattle.rules.specs.Grounds.{in_turn, ground_for}
use Rattle.rules.specs.Obey.{with_orders}
use Rattle.streams.specs.Stream.{accepts_all, obey_all}
use Rattle.rules.specs.Reachable.{Reachable}
use Rattle.postorders.specs.Postorder.{peak_less_out}
use Rattle.streams.specs.Write.{Wrote}
use Rattle.postorders.specs.Find.{found_below, found, find_order}

-- an order finishes each subtree before it turns to its neighbour: between two tasks of a subtree stand only tasks of it
abbrev pub Together : (n : ℕ) (par : ℕ → ℕ) (order : List ℕ) → Type 0
Together n par order =
    (i a b c : ℕ)
    → Task n i
    → a < b
    → b < c
    → c < length order
    → up n par i (get_or order a 0) ≡ true
    → up n par i (get_or order c 0) ≡ true
    → up n par i (get_or order b 0) ≡ true

-- "order of that kind", a postorder: each task stands in it once, before its parent, and it "finishes each subtree before turning to its
-- neighbour"
pub record IsPostorder (s : State) (order : List ℕ) : Type 0 where
  pub each : EachOnce s.size order
  pub upward : ordered (at s.parents) order ≡ true
  pub together : Together s.size (at s.parents) order

-- the peak of an order
abbrev pub peak_by : State → List ℕ → ℕ
peak_by s = Tasks.peak (tasks_in s s.stores.chilled)

-- "(subtree peak less out)" of a task
abbrev pub peak_less_out_of : State → ℕ → ℕ
peak_less_out_of s c =
    peak_less_out s.size (at s.parents) (at s.stores.chilled.works) (at s.stores.chilled.outs) (found_below s c) c

-- two plans of the same tasks: their places, processors, orders and days may differ
pub record SameTasks (s t : State) : Type 0 where
  pub size : t.size ≡ s.size
  pub parents : t.parents ≡ s.parents
  pub works : t.stores.chilled.works ≡ s.stores.chilled.works
  pub outs : t.stores.chilled.outs ≡ s.stores.chilled.outs

-- a list is a part of another
pub record Part (l m : List ℕ) : Type 0 where
  pub before : List ℕ
  pub after : List ℕ
  pub whole : m ≡ before ++ (l ++ after)

-- the number for BEGIN is 0, or 9 and no order of that kind is within the bound
abbrev pub BeginsUnlessNoneFits : State → ℕ → Type 0
BeginsUnlessNoneFits s number =
    (number ≡ 0) ⊎ ((number ≡ 9) × ((l : List ℕ) → IsPostorder s l → s.stores.chilled.bound < peak_by s l))

-- of the order that is found
pub record FoundHolds (s : State) (order : List ℕ) : Type 0 where
  -- it is of that kind, and "no order of that kind has a lower peak"
  pub kind : IsPostorder s order
  pub lowest : (l : List ℕ) → IsPostorder s l → peak_by s order ≤ peak_by s l
  -- the order that is found for the subtree of a task is a part of it
  pub part : (i : ℕ) → Task s.size i → Part (found_below s i) order
  -- "taking children by falling (subtree peak less out)"
  pub falling :
      (c d : ℕ)
      → Task s.size c
      → Task s.size d
      → at s.parents c ≡ at s.parents d
      → peak_less_out_of s d < peak_less_out_of s c
      → place c order < place d order
  -- "equal ones by lower number"
  pub equal :
      (c d : ℕ)
      → Task s.size c
      → Task s.size d
      → at s.parents c ≡ at s.parents d
      → peak_less_out_of s c ≡ peak_less_out_of s d
      → c < d
      → place c order < place d order
  -- 03 for its entries, one after another, is accepted where no 03 was given yet, and makes it the activation order
  pub given :
      s.phase ≡ Phase.orders
      → s.activation ≡ []
      → (accepts_all s (map activation order) ≡ true) × (obey_all s (map activation order) ≡ with_orders s order s.execution)
  -- where a plan of the same tasks has this activation order, however it came to it, BEGIN is in turn with a full execution order or none
  pub turn :
      (t : State)
      → SameTasks s t
      → t.activation ≡ order
      → t.phase ≡ Phase.orders
      → (t.execution ≡ []) ⊎ (length t.execution ≡ t.size)
      → in_turn t begin ≡ true
  -- and where it is, it is refused "for its peak" only, and only where each order of that kind would be
  pub begins :
      (t : State)
      → SameTasks s t
      → t.activation ≡ order
      → in_turn t begin ≡ true
      → BeginsUnlessNoneFits t (ground_for t begin)

-- one task has parent 0: 7 is "the steps with parent 0 are not exactly one"
abbrev pub OneRoot : State → Type 0
OneRoot s = roots s.size (at s.parents) ≡ 1

-- the chain of parents of task i reaches the root, in whatever number of parents
abbrev pub Reaches : State → ℕ → Type 0
Reaches s i = (most : ℕ) × (mem (root_of s) (chain most (at s.parents) i) ≡ true)

-- all tasks are given, and there is one root, which the chain of parents of each reaches
pub record Rooted (s : State) : Type 0 where
  pub whole : Phase.orders ≤ s.phase
  pub one : OneRoot s
  pub reach : (i : ℕ) → Task s.size i → Reaches s i

-- of what is answered where this list is lent
pub record FindHolds (s : State) (list : List ℕ) (w : Wrote) : Type 0 where
  -- "3 until all steps are given"
  pub early : s.phase < Phase.orders → w.number ≡ 3
  -- "then 7"
  pub several : Phase.orders ≤ s.phase → (OneRoot s → ⊥) → w.number ≡ 7
  -- "then 12 if some step's chain of parents never reaches the root"
  pub stray :
      Phase.orders ≤ s.phase
      → OneRoot s
      → (i : ℕ)
      → Task s.size i
      → (Reaches s i → ⊥)
      → w.number ≡ 12
  -- "then 11 if the list has fewer than n entries"
  pub short : Rooted s → length list < s.size → w.number ≡ 11
  pub granted : Rooted s → s.size ≤ length list → w.number ≡ 0
  -- "on a refusal all are" untouched
  pub refusal : (w.number ≡ 0 → ⊥) → (w.count ≡ 0) × (w.list ≡ list)
  -- the order stands at the front, and is what is promised of it
  pub count : w.number ≡ 0 → w.count ≡ s.size
  pub front : w.number ≡ 0 → take s.size w.list ≡ found s
  pub order : w.number ≡ 0 → FoundHolds s (take s.size w.list)
  -- "Entries past the n-th are untouched"
  pub past : drop s.size w.list ≡ drop s.size list
  pub long : length w.list ≡ length list

-- of every plan that commands led to, and of every list
pub record EveryFindHolds : Type 0 where
  pub lists : (s : State) → Reachable s → (list : List ℕ) → FindHolds s list (find_order s list)
  -- "From the steps alone": once all are given, another plan of the same tasks gets the same answer
  pub alone :
      (s t : State)
      → SameTasks s t
      → Phase.orders ≤ s.phase
      → Phase.orders ≤ t.phase
      → (list : List ℕ)
      → find_order t list ≡ find_order s list
