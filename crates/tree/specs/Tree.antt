-- The tree of a plan: the children of a task, the tasks above it and below it, the root, and the orders of its tasks.
use Rattle.std.specs.Prelude.{◌≡◌, Bool, true, false, ◌&&◌, ◌||◌, List, [], ◌∷◌, ℕ, zero, suc, ◌≤◌, ◌<◌, eqb, length}
use Rattle.numbers.specs.Sums.{Task, within, only, sum_to, count_to, lowest_to}
use Rattle.numbers.specs.Lists.{mem, every, distinct, place}

-- "The children of a step are those whose parent it is": c is a child of i
abbrev pub is_child : (par : ℕ → ℕ) → ℕ → ℕ → Bool
is_child par i c = eqb (par c) i

-- the sum of f over the children of i
unfoldable pub children : (n : ℕ) (par f : ℕ → ℕ) → ℕ → ℕ
children n par f i = sum_to (λ c. only (is_child par i c) (f c)) n

-- i and the tasks above it, from parent to parent, as far as the root
unfoldable pub chain : ℕ → (ℕ → ℕ) → ℕ → List ℕ
chain zero par i = []
chain (suc most) par i = elim (eqb i 0) [ true ↦ [] | false ↦ i ∷ chain most par (par i) ]

-- i is k or stands above it
abbrev pub up : ℕ → (ℕ → ℕ) → ℕ → ℕ → Bool
up n par i k = mem i (chain n par k)

-- "The subtree figure of a booked or running step is always the sum of the booked trays of itself and of all steps below it":
-- of those k from which the chain of parents comes to i
unfoldable pub figure : (n : ℕ) (par b : ℕ → ℕ) → ℕ → ℕ
figure n par b i = sum_to (λ k. only (mem i (chain n par k)) (b k)) n

-- how many tasks have no parent; exactly one is a plan's root
unfoldable pub roots : (n : ℕ) (par : ℕ → ℕ) → ℕ
roots n par = count_to (λ i. eqb (par i) 0) n

-- the root: the task without a parent, the lowest where there are several, and 0 where there is none
unfoldable pub root : (n : ℕ) (par : ℕ → ℕ) → ℕ
root n par = lowest_to (λ i. eqb (par i) 0) n

-- "There are two orders, each holding every step once": an order's entries are the tasks, and none stands twice
pub record EachOnce (n : ℕ) (order : List ℕ) : Type 0 where
  pub tasks : (i : ℕ) → mem i order ≡ true → Task n i
  pub each : (i : ℕ) → Task n i → mem i order ≡ true
  pub once : distinct order ≡ true

-- "In the activation order each step stands before its parent."
unfoldable pub ordered : (par : ℕ → ℕ) → List ℕ → Bool
ordered par [] = true
ordered par (x ∷ later) = (eqb (par x) 0 || mem (par x) later) && ordered par later

-- an activation order of n tasks, as BEGIN's checks find it: each stands in it once, before its parent
pub record Valid (n : ℕ) (par : ℕ → ℕ) (order : List ℕ) : Type 0 where
  pub inside : every (λ i. within i n) order ≡ true
  pub once : distinct order ≡ true
  pub whole : length order ≡ n
  pub upward : ordered par order ≡ true

-- the rank of a task: its place in the activation order
abbrev pub rank_in : List ℕ → ℕ → ℕ
rank_in order i = place i order

-- parents are tasks or 0, and the rank rises from each task to its parent
pub record Tree (n : ℕ) (par rank : ℕ → ℕ) : Type 0 where
  pub within : (i : ℕ) → Task n i → par i ≤ n
  pub rises : (i : ℕ) → Task n i → (par i ≡ 0 → ⊥) → rank i < rank (par i)
  pub below : (i : ℕ) → Task n i → rank i < n
