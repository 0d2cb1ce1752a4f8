-- What is asked where all tasks are reached, and what is found.
use Rattle.std.specs.Prelude.{◌≡◌, cond, List, ◌++◌, ℕ, ◌≤◌, eqb, leb, length, drop}
use Rattle.numbers.specs.Limits.{max_count}
use Rattle.tree.specs.Tree.{roots, root}
use Rattle.rules.specs.Grounds.{demand}
use Rattle.postorders.specs.Postorder.{best_postorder}
use Rattle.postorders.specs.Find.{all_reach}
use Rattle.survey.specs.Checks.{Parented}
use Rattle.children.specs.Scratch.{queue, field}
use Rattle.children.specs.Listing.{Listed}
use Rattle.finding.specs.Reaching.{reached_in, ReachedFrom}

-- tasks with their counts
pub record Light (n : ℕ) (par work out : ℕ → ℕ) : Type 0 where
  pub parented : Parented n par
  pub works : (i : ℕ) → work i ≤ max_count
  pub outs : (i : ℕ) → out i ≤ max_count

-- all tasks are reached from the root, and there is room for all
pub record AllReached (n : ℕ) (par work out : ℕ → ℕ) (w list : List ℕ) : Type 0 where
  pub light : Light n par work out
  pub one : roots n par ≡ 1
  pub listed : Listed n par w
  pub top : par (field queue w 0) ≡ 0
  pub reached : ReachedFrom n par (field queue w 0) (reached_in w n)
  pub room : n ≤ length list

-- one task has no parent
pub record MayFind (n : ℕ) (par work out : ℕ → ℕ) : Type 0 where
  pub light : Light n par work out
  pub one : roots n par ≡ 1

-- "12 if some step's chain of parents never reaches the root; then 11 if the list has fewer than n entries"
unfoldable pub find_number : (n : ℕ) (par : ℕ → ℕ) (entries : ℕ) → ℕ
find_number n par entries = demand (all_reach n par) 12 (demand (leb n entries) 11 0)

-- the number of the ground, or 0 and the order at the front of the list
pub record Finds (n : ℕ) (par work out : ℕ → ℕ) (list list' : List ℕ) (r : ℕ) : Type 0 where
  pub number : r ≡ find_number n par (length list)
  pub list_is :
      list' ≡ cond (eqb (find_number n par (length list)) 0) (best_postorder n n par work out (root n par) ++ drop n list) list
