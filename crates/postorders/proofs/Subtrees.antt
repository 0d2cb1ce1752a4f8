-- The orders that finish each subtree before they turn to its neighbour, by the tree.
use mathlib.Core.Path.{◌≡◌, refl}
use mathlib.Core.Bool.{true}
use mathlib.Core.List.{List, [], ◌∷◌, ◌++◌, flat_map}
use Prim.Native.Nat.{ℕ, zero, suc}
use Rattle.numbers.specs.Lists.{mem}
use Rattle.postorders.specs.Postorder.{children_of}
use Rattle.tree.proofs.Orders.{mem-here, mem-more}
use Rattle.postorders.proofs.Sorting.{Permuted}

-- the orders of some tasks one after another
unfoldable pub FinishesEach : (ℕ → List ℕ → Type 0) → List ℕ → List ℕ → Type 0
FinishesEach P [] l = l ≡ []
FinishesEach P (c ∷ cs) l = (a : List ℕ) × (b : List ℕ) × (l ≡ a ++ b) × P c a × FinishesEach P cs b

-- an order of the subtree of i that finishes each subtree in it: its children's, in any sequence of the children, and then i
unfoldable pub Finishes : (most n : ℕ) (par : ℕ → ℕ) → ℕ → List ℕ → Type 0
Finishes zero n par i l = ⊥
Finishes (suc most) n par i l =
    (cs : List ℕ)
    × (a : List ℕ)
    × Permuted (children_of n par i) cs
    × FinishesEach (Finishes most n par) cs a
    × (l ≡ a ++ i ∷ [])

-- one order for each, one after another
pub each-finishes :
    (P : ℕ → List ℕ → Type 0) (f : ℕ → List ℕ) (cs : List ℕ)
    → ((c : ℕ) → mem c cs ≡ true → P c (f c))
    → FinishesEach P cs (flat_map f cs)
unfolding FinishesEach flat_map
each-finishes P f [] h = refl
each-finishes P f (c ∷ cs) h =
    (f c, flat_map f cs, refl, h c (mem-here c c cs refl), each-finishes P f cs (λ d e. h d (mem-more d c cs e)))
