-- What the functions of one store leave of it.
use Rattle.std.specs.Prelude.{◌≡◌, cond, List, ℕ, ◌+◌, ◌-◌, ◌*◌, ◌^◌, ◌≤◌, ◌<◌, eqb, set}
use Rattle.books.specs.Kind.{Kind, of, put}
use Rattle.numbers.specs.Lists.{at}
use Rattle.words.specs.Layout.{words, row, rows, offset, kind_at}
use Rattle.words.specs.Contents.{StoreContents, Contents}

-- the store at an offset
abbrev pub store_at : ℕ → Contents → StoreContents
store_at store c = of c.stores (kind_at store)

-- the plan with another store
unfoldable pub with_store : Kind → StoreContents → Contents → Contents
with_store k s c =
    record {
      extent = c.extent;
      phase = c.phase;
      size = c.size;
      processors = c.processors;
      given = c.given;
      ranked = c.ranked;
      placed = c.placed;
      next = c.next;
      active = c.active;
      ended = c.ended;
      parents = c.parents;
      ranks = c.ranks;
      places = c.places;
      unended = c.unended;
      standings = c.standings;
      stores = put k s c.stores;
      activation = c.activation;
      execution = c.execution;
      ready = c.ready;
      filled = c.filled;
    }

-- the plan once its store at an offset is changed
abbrev pub with_store_at : ℕ → (StoreContents → StoreContents) → Contents → Contents
with_store_at store changed c = with_store (kind_at store) (changed (store_at store c)) c

-- the store with other totals and other booked trays and figures of the tasks
unfoldable pub with_holdings : ℕ → ℕ → List ℕ → List ℕ → StoreContents → StoreContents
with_holdings total used booked figures s =
    record {
      bound = s.bound;
      total = total;
      used = used;
      works = s.works;
      outs = s.outs;
      needs = s.needs;
      booked = booked;
      figures = figures;
    }

-- an entry that grows, where there is a task to have it
abbrev pub grown : List ℕ → ℕ → ℕ → List ℕ
grown l i more = cond (eqb i 0) l (set l i (at l i + more))

-- one fewer
abbrev pub fewer : List ℕ → ℕ → List ℕ
fewer l i = set l i (at l i - 1)

-- an offset at which a store lies
pub record AtStore (store : ℕ) : Type 0 where
  pub offset : store ≡ offset (kind_at store)
  pub inside : store + 5 ≤ row

-- a task x of a store, by the offset of the store
pub record AtTask (store x : ℕ) (c : Contents) : Type 0 where
  pub long : c.extent ≡ words
  pub offset : store ≡ offset (kind_at store)
  pub inside : store + 5 ≤ row
  pub task_in : x < rows

-- task x is booked and gets m: its figure grows, and its parent's by that figure
unfoldable pub granted : (parent x m : ℕ) → StoreContents → StoreContents
granted parent x m s =
    with_holdings (s.total + m) s.used (set s.booked x (at s.booked x + m))
    (grown (set s.figures x (at s.figures x + m)) parent (at s.figures x + m)) s

-- that all this fits
pub record MayGrant (store x m : ℕ) (c : Contents) : Type 0 where
  pub at_task : AtTask store x c
  pub parent_in : at c.parents x < rows
  pub total_fits : (store_at store c).total + m < 2 ^ 32
  pub booked_fits : at (store_at store c).booked x + m < 2 ^ 32
  pub figure_fits : at (store_at store c).figures x + m < 2 ^ 32
  pub parent_fits :
      (at c.parents x ≡ 0 → ⊥)
      → at (set (store_at store c).figures x (at (store_at store c).figures x + m)) (at c.parents x) + (at (store_at store c).figures x + m)
      < 2 ^ 32

-- what comes into use as task x starts: its work and its out
unfoldable pub loaded : ℕ → StoreContents → StoreContents
loaded x s = with_holdings s.total (s.used + (at s.works x + at s.outs x)) s.booked s.figures s

-- one offer: task x gets what its figure, from which r is taken, misses of its need
unfoldable pub gift : ℕ → ℕ → StoreContents → ℕ
gift x r s = at s.needs x - (at s.figures x - r)

unfoldable pub passed : (x r : ℕ) → StoreContents → StoreContents
passed x r s =
    with_holdings s.total s.used (set s.booked x (at s.booked x + gift x r s))
    (set s.figures x (at s.figures x - r + gift x r s)) s

pub record MayPass (store x r : ℕ) (c : Contents) : Type 0 where
  pub at_task : AtTask store x c
  pub figure_has : r ≤ at (store_at store c).figures x
  pub gift_small : gift x r (store_at store c) ≤ r
  pub booked_fits : at (store_at store c).booked x + gift x r (store_at store c) < 2 ^ 32

-- a waiting task at which r trays end their way: its figure loses them
unfoldable pub rested : (x r : ℕ) → StoreContents → StoreContents
rested x r s = with_holdings s.total s.used s.booked (set s.figures x (at s.figures x - r)) s

-- "its booked trays, call them R, are taken from it. If it has a parent, the parent is given j's out": what is in use falls by its need
-- and rises by its out
unfoldable pub released : (parent x : ℕ) → StoreContents → StoreContents
released parent x s =
    with_holdings s.total (s.used - at s.needs x + at s.outs x)
    (grown (set s.booked x 0) parent (at s.outs x)) (set s.figures x 0) s

pub record MayRelease (store x : ℕ) (c : Contents) : Type 0 where
  pub at_task : AtTask store x c
  pub parent_in : at c.parents x < rows
  pub out_held : at (store_at store c).outs x ≤ at (store_at store c).booked x
  pub higher : at c.parents x ≡ 0 → ⊥
  pub parent_fits : at (set (store_at store c).booked x 0) (at c.parents x) + at (store_at store c).outs x < 2 ^ 32
  pub used_has : at (store_at store c).needs x ≤ (store_at store c).used
  pub used_fits :
      (store_at store c).used - at (store_at store c).needs x + at (store_at store c).outs x < 2 ^ 32

-- "What is left of R is free."
unfoldable pub freed : ℕ → StoreContents → StoreContents
freed left s = with_holdings (s.total - left) s.used s.booked s.figures s

-- what task x holds is all that is booked and in use
unfoldable pub held_alone : (x units : ℕ) → StoreContents → StoreContents
held_alone x units s = with_holdings units units (set s.booked x units) s.figures s

-- an entry of a column grows, where there is a task to have it
pub record MayGrow (task column more : ℕ) (w : List ℕ) : Type 0 where
  pub task_in : task < rows
  pub column_in : column < row
  pub fits : (task ≡ 0 → ⊥) → at w (row * task + column) + more < 2 ^ 32

abbrev pub Grown : (task column more : ℕ) (w w' : List ℕ) → Type 0
Grown task column more w w' =
    w' ≡ cond (eqb task 0) w (set w (row * task + column) (at w (row * task + column) + more))
