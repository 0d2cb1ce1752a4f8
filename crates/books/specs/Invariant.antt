-- What holds of a day between the parts of a command, over functions of a task's number where it does not speak of lists. A store
-- is left open: `need` and `out` are its needs and outs, `b` its booked trays and `bound` its places.
use Rattle.std.specs.Prelude.{◌≡◌, Bool, true, not, List, [], ℕ, suc, ◌+◌, ◌≤◌, ◌<◌, eqb, length}
use Rattle.books.specs.Kind.{Kind}
use Rattle.numbers.specs.Sums.{Task, only, within}
use Rattle.numbers.specs.Lists.{at, mem}
use Rattle.tree.specs.Tree.{children, figure}
use Rattle.books.specs.Standing.{waiting, activated, running, finished}
use Rattle.books.specs.Booking.{Terms, Books, booked_in, total}

-- what holds of the standings
pub record Shape (n : ℕ) (par rank st : ℕ → ℕ) : Type 0 where
  -- whoever ranks behind a waiting task waits: "No later step is tried."
  pub behind : (i j : ℕ) → Task n i → Task n j → rank i < rank j → st i ≡ waiting → st j ≡ waiting
  -- the children of a task that runs or has ended have ended
  pub fed : (i c : ℕ) → Task n i → Task n c → par c ≡ i → running ≤ st i → st c ≡ finished
  -- there are four standings
  pub four : (i : ℕ) → Task n i → st i ≤ finished

-- x waits, and nobody of lower rank does
pub record FirstWaiting (n : ℕ) (rank st : ℕ → ℕ) (x : ℕ) : Type 0 where
  pub task : Task n x
  pub waits : st x ≡ waiting
  pub first : (j : ℕ) → Task n j → rank j < rank x → st j ≡ waiting → ⊥

-- i is booked or runs
pub record Active (st : ℕ → ℕ) (i : ℕ) : Type 0 where
  pub from : activated ≤ st i
  pub to : st i ≤ running

-- the outs of the ended children of a task, and those of its other children
unfoldable pub arrived : (n : ℕ) (par out st : ℕ → ℕ) → ℕ → ℕ
arrived n par out st i = children n par (λ c. only (eqb (st c) finished) (out c)) i

unfoldable pub pending : (n : ℕ) (par out st : ℕ → ℕ) → ℕ → ℕ
pending n par out st i = children n par (λ c. only (not (eqb (st c) finished)) (out c)) i

-- what a store asks of the needs: room for what comes from the children and for what is left behind
abbrev pub Roomy : (n : ℕ) (par need out : ℕ → ℕ) → Type 0
Roomy n par need out = (i : ℕ) → Task n i → children n par out i + out i ≤ need i

-- what holds of the booked trays of a store, while r trays belong to nobody and are still owed to the tasks of a path
pub record Balance (n : ℕ) (par need out st b : ℕ → ℕ) (path : List ℕ) (r : ℕ) : Type 0 where
  -- a waiting task holds what its ended children left
  pub waits : (i : ℕ) → Task n i → st i ≡ waiting → b i ≡ arrived n par out st i
  -- so does a booked or running one, and perhaps more
  pub keeps : (i : ℕ) → Task n i → Active st i → arrived n par out st i ≤ b i
  -- with all below it, it holds its need
  pub covered : (i : ℕ) → Task n i → Active st i → need i ≤ figure n par b i + only (mem i path) r
  -- it has room for what is still to come from its children
  pub capped : (i : ℕ) → Task n i → Active st i → b i + pending n par out st i ≤ need i
  -- an ended task holds nothing
  pub empty : (i : ℕ) → Task n i → st i ≡ finished → b i ≡ 0

-- the same where nothing is owed
abbrev pub Balanced : (n : ℕ) (par need out st b : ℕ → ℕ) → Type 0
Balanced n par need out st b = Balance n par need out st b [] 0

-- what holds of one store: its booked trays have an entry for each task and one for nobody, balance, and are within the bound
pub record Stocked (n : ℕ) (par need out : ℕ → ℕ) (bound : ℕ) (st : ℕ → ℕ) (b : List ℕ) : Type 0 where
  pub sized : length b ≡ suc n
  pub books : Balanced n par need out st (at b)
  pub within : total n (at b) ≤ bound

-- the same by what booking finds of the store
abbrev pub StockedBy : (n : ℕ) (par : ℕ → ℕ) (terms : Terms) (st : ℕ → ℕ) (b : List ℕ) → Type 0
StockedBy n par terms st b = Stocked n par terms.need terms.out terms.bound st b

-- what holds of the books: of the standings, and of each store
pub record Good (n : ℕ) (par rank : ℕ → ℕ) (terms : Kind → Terms) (b : Books) : Type 0 where
  pub sized : length b.standings ≡ suc n
  pub shape : Shape n par rank (at b.standings)
  pub stock : (k : Kind) → StockedBy n par (terms k) (at b.standings) (booked_in b k)
