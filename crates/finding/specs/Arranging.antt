-- What holds of the scratch array as the orders of subtrees are joined, from the last task reached to the root.
use Rattle.std.specs.Prelude.{◌≡◌, List, ℕ, ◌+◌, ◌≤◌, ◌<◌, length}
use Rattle.numbers.specs.Sums.{Task}
use Rattle.numbers.specs.Lists.{at}
use Rattle.numbers.specs.Limits.{max_tasks, max_count}
use Rattle.tree.specs.Peak.{peak}
use Rattle.tree.specs.Tree.{Tree}
use Rattle.postorders.specs.Postorder.{best_postorder}
use Rattle.children.specs.Scratch.{first, sibling, queue, subtree_peak, head, after, cells, field}
use Rattle.children.specs.Links.{Passes}
use Rattle.children.specs.Listing.{last_first}
use Rattle.finding.specs.Joining.{OrderAt}

-- tasks that form a tree, with their counts
pub record TreeOf (n : ℕ) (par work out : ℕ → ℕ) : Type 0 where
  pub small : n ≤ max_tasks
  pub works : (i : ℕ) → work i ≤ max_count
  pub outs : (i : ℕ) → out i ≤ max_count
  pub rank : ℕ → ℕ
  pub tree : Tree n par rank

-- the order and the peak of a task's subtree are there
pub record Arranged (n : ℕ) (par work out : ℕ → ℕ) (w : List ℕ) (i : ℕ) : Type 0 where
  pub peak_is : field subtree_peak w i ≡ peak n par work out (best_postorder n n par work out i)
  pub order : OrderAt w i (best_postorder n n par work out i)

-- a task whose children have theirs
pub record MayJoin (n : ℕ) (par work out : ℕ → ℕ) (i : ℕ) (w : List ℕ) : Type 0 where
  pub plan : TreeOf n par work out
  pub long : length w ≡ cells
  pub task : Task n i
  pub list : Passes (field sibling w) (field first w i) (last_first n par i) 0
  pub below : (c : ℕ) → Task n c → par c ≡ i → Arranged n par work out w c

-- a word that a task's turn does not write
pub record NotWritten (n : ℕ) (par : ℕ → ℕ) (i q : ℕ) : Type 0 where
  pub first_of : q ≡ first + i → ⊥
  pub peak_apart : q ≡ subtree_peak + i → ⊥
  pub head_of : q ≡ head + i → ⊥
  pub sibling_none : q ≡ sibling + 0 → ⊥
  pub after_none : q ≡ after + 0 → ⊥
  pub sibling_of : (c : ℕ) → Task n c → par c ≡ i → q ≡ sibling + c → ⊥
  pub after_of : (c : ℕ) → Task n c → par c ≡ i → q ≡ after + c → ⊥

-- it has its own then
pub record HasJoined (n : ℕ) (par work out : ℕ → ℕ) (i : ℕ) (w w' : List ℕ) : Type 0 where
  pub long : length w' ≡ cells
  pub own : Arranged n par work out w' i
  pub same : (q : ℕ) → NotWritten n par i q → at w' q ≡ at w q

-- the tasks as they were reached: each stands there, and behind whoever has a higher rank
pub record Queued (n : ℕ) (rank : ℕ → ℕ) (w : List ℕ) : Type 0 where
  pub tasks : (k : ℕ) → k < n → Task n (field queue w k)
  pub each : (c : ℕ) → Task n c → (k : ℕ) × (k < n) × (field queue w k ≡ c)
  pub falls : (k m : ℕ) → k < m → m < n → rank (field queue w m) < rank (field queue w k)

-- no task has had its turn
pub record MayArrange (n : ℕ) (par work out : ℕ → ℕ) (w : List ℕ) : Type 0 where
  pub plan : TreeOf n par work out
  pub long : length w ≡ cells
  pub queued : Queued n plan.rank w
  pub lists : (i : ℕ) → Task n i → Passes (field sibling w) (field first w i) (last_first n par i) 0

-- each task has had its turn
pub record AllArranged (n : ℕ) (par work out : ℕ → ℕ) (w w' : List ℕ) : Type 0 where
  pub long : length w' ≡ cells
  pub queue_is : (k : ℕ) → k < n → field queue w' k ≡ field queue w k
  pub each : (i : ℕ) → Task n i → Arranged n par work out w' i
