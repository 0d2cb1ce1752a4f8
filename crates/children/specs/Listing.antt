-- The children of every task, by falling number.
use Rattle.std.specs.Prelude.{◌≡◌, true, false, List, [], ◌∷◌, ℕ, zero, suc, ◌≤◌, length, replicate}
use Rattle.tree.specs.Tree.{is_child}
use Rattle.survey.specs.Checks.{Parented}
use Rattle.children.specs.Scratch.{first, sibling, cells, field}
use Rattle.children.specs.Links.{Passes}

-- the children of a task among the first k, the last of them in front
unfoldable pub last_first : (k : ℕ) (par : ℕ → ℕ) → ℕ → List ℕ
last_first zero par i = []
last_first (suc k) par i = elim (is_child par i (suc k)) [ true ↦ suc k ∷ last_first k par i | false ↦ last_first k par i ]

-- nothing is kept yet
pub record MayList (n : ℕ) (par : ℕ → ℕ) (w : List ℕ) : Type 0 where
  pub parented : Parented n par
  pub empty : w ≡ replicate cells 0

-- each list has the children of its task among the first k
pub record ListedTo (n k : ℕ) (par : ℕ → ℕ) (w : List ℕ) : Type 0 where
  pub long : length w ≡ cells
  pub lists : (p : ℕ) → p ≤ n → Passes (field sibling w) (field first w p) (last_first k par p) 0

abbrev pub Listed : (n : ℕ) (par : ℕ → ℕ) (w : List ℕ) → Type 0
Listed n par w = ListedTo n n par w
