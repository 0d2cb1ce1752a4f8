-- The order and the peak of a task's subtree, from those of its children.
use Rattle.std.specs.Prelude.{◌≡◌, true, ℕ, ◌+◌, ◌^◌, ◌<◌, max, length}
use mathlib.Core.List.{List, [], ◌∷◌, ◌++◌, flat_map}
use Rattle.numbers.specs.Lists.{at, mem, distinct}
use Rattle.children.specs.Scratch.{subtree_peak, head, after, cells, field}
use Rattle.children.specs.Links.{Passes}
use Rattle.children.specs.Linked.{linked_in, Linked}

-- what some tasks and then another take at most, one after another: p is the peak of each, o what it leaves, and `own` what the last takes
unfoldable pub highest : (p o : ℕ → ℕ) (own : ℕ) → List ℕ → ℕ
highest p o own [] = own
highest p o own (c ∷ cs) = max (p c) (o c + highest p o own cs)

-- the orders of the children, and then the task
abbrev pub peak_along : (work out : ℕ → ℕ) (w : List ℕ) → ℕ → ℕ
peak_along work out w i = highest (field subtree_peak w) out (work i + out i) (linked_in w i)

pub record MayWeigh (work out : ℕ → ℕ) (w : List ℕ) (i : ℕ) : Type 0 where
  pub linked : Linked w i
  pub fits : peak_along work out w i < 2 ^ 32

-- an order that ends with its task: the links lead along it from the task's head on
pub record OrderAt (w : List ℕ) (i : ℕ) (order : List ℕ) : Type 0 where
  pub front : List ℕ
  pub whole : order ≡ front ++ i ∷ []
  pub links : Passes (field after w) (field head w i) front i

-- the orders of the children, of whatever kind, are linked one behind the other, and the task behind them
pub record Joined (w : List ℕ) (i : ℕ) (w' : List ℕ) : Type 0 where
  pub long : length w' ≡ cells
  pub order :
      (f : ℕ → List ℕ)
      → ((c : ℕ) → mem c (linked_in w i) ≡ true → OrderAt w c (f c))
      → distinct (0 ∷ flat_map f (linked_in w i)) ≡ true
      → OrderAt w' i (flat_map f (linked_in w i) ++ i ∷ [])
  pub same :
      (q : ℕ)
      → (q ≡ head + i → ⊥)
      → (q ≡ after + 0 → ⊥)
      → ((c : ℕ) → mem c (linked_in w i) ≡ true → q ≡ after + c → ⊥)
      → at w' q ≡ at w q
