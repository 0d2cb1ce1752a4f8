-- The tasks in the sequence in which they are reached from the root.
use Rattle.std.specs.Prelude.{◌≡◌, true, List, [], ◌∷◌, ◌++◌, ℕ, ◌+◌, ◌≤◌, ◌<◌, length}
use Rattle.numbers.specs.Sums.{Task}
use Rattle.numbers.specs.Lists.{at, mem, distinct, place}
use Rattle.words.specs.Views.{part}
use Rattle.survey.specs.Checks.{Parented}
use Rattle.children.specs.Scratch.{tall, first, queue, cells, field}
use Rattle.children.specs.Listing.{last_first, Listed}
use Rattle.children.specs.Linked.{linked_in, Linked}

-- the first k entries of the queue
abbrev pub reached_in : List ℕ → ℕ → List ℕ
reached_in w k = part queue k w

-- there is room for the children of a task
pub record MayAppend (w : List ℕ) (i count : ℕ) : Type 0 where
  pub long : length w ≡ cells
  pub linked : Linked w i
  pub room : count + length (linked_in w i) ≤ tall

-- they stand behind the others; no link changes
pub record Appended (w : List ℕ) (i count : ℕ) (w' : List ℕ) (r : ℕ) : Type 0 where
  pub long : length w' ≡ cells
  pub list : reached_in w' r ≡ reached_in w count ++ linked_in w i
  pub same : (q : ℕ) → q < queue → at w' q ≡ at w q

-- the children of each task are listed, and one task has no parent
pub record MayReach (n : ℕ) (par : ℕ → ℕ) (w : List ℕ) : Type 0 where
  pub parented : Parented n par
  pub listed : Listed n par w
  pub one : last_first n par 0 ≡ field first w 0 ∷ []

-- tasks from the root on: each once, behind its parent, and with its children
pub record ReachedFrom (n : ℕ) (par : ℕ → ℕ) (root : ℕ) (l : List ℕ) : Type 0 where
  pub begins : (1 ≤ length l) × (at l 0 ≡ root)
  pub tasks : (x : ℕ) → mem x l ≡ true → Task n x
  pub once : distinct l ≡ true
  pub behind : (x : ℕ) → mem x l ≡ true → (x ≡ root → ⊥) → (mem (par x) l ≡ true) × (place (par x) l < place x l)
  pub closed : (c : ℕ) → Task n c → mem (par c) l ≡ true → mem c l ≡ true

-- all that are reached are in the queue; no link changes
pub record Reached (n : ℕ) (par : ℕ → ℕ) (w w' : List ℕ) (r : ℕ) : Type 0 where
  pub long : length w' ≡ cells
  pub queued : ReachedFrom n par (field first w 0) (reached_in w' r)
  pub same : (q : ℕ) → q < queue → at w' q ≡ at w q
