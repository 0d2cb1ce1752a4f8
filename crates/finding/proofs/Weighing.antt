-- Laws of the peak of a subtree, summed up child by child.
use mathlib.Core.Path.{◌≡◌, refl}
use mathlib.Core.Bool.{true}
use mathlib.Core.List.{List, [], ◌∷◌}
use Prim.Native.Nat.{ℕ, ◌+◌, max}
use native.Mathlib.Omega.{arith}
use Rattle.numbers.specs.Sums.{Task}
use Rattle.numbers.specs.Lists.{mem}
use Rattle.numbers.specs.Limits.{max_tasks}
use Rattle.tree.proofs.Orders.{mem-here, mem-more}
use Rattle.children.specs.Scratch.{subtree_peak, field}
use Rattle.children.specs.Linked.{linked_in}
use Rattle.finding.specs.Joining.{highest, peak_along, MayWeigh}

-- the largest sum and the level so far, where some children are left
pub record Weighing (work out : ℕ → ℕ) (w : List ℕ) (i best level : ℕ) (left : List ℕ) : Type 0 where
  pub each : (c : ℕ) → mem c left ≡ true → Task max_tasks c
  pub best-is : max best (level + highest (field subtree_peak w) out (work i + out i) left) ≡ peak_along work out w i

module _ (work out : ℕ → ℕ) (w : List ℕ) (i : ℕ) where
  pub weighing-none : MayWeigh work out w i → (left : List ℕ) → left ≡ linked_in w i → Weighing work out w i 0 0 left
  weighing-none may left e = rw e (record { each = may.linked.each; best-is = omega arith })

  module _ (best level : ℕ) (left : List ℕ) (a : Weighing work out w i best level left) where
    module _ (child : ℕ) (later : List ℕ) (e : left ≡ child ∷ later) where
      pub weighing-task : Task max_tasks child
      weighing-task = a.each child (rw e (mem-here child child later refl))

      pub weighing-next :
          (best' level' : ℕ)
          → best' ≡ max best (level + field subtree_peak w child)
          → level' ≡ level + out child
          → Weighing work out w i best' level' later
      unfolding highest
      weighing-next best' level' b' l' =
          let b = rw e at a.best-is in
          record { each = λ c m. a.each c (rw e (mem-more c child later m)); best-is = omega arith }

    pub weighing-end : left ≡ [] → max best (level + work i + out i) ≡ peak_along work out w i
    unfolding highest
    weighing-end none = let b = rw none at a.best-is in omega arith
