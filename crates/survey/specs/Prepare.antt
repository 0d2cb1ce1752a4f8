-- What BEGIN computes of a plan before its day: the need of each task and the number of its children.
use Rattle.std.specs.Prelude.{◌≡◌, List, ℕ, ◌+◌, ◌*◌, ◌^◌, ◌≤◌, ◌<◌, eqb, set}
use Rattle.books.specs.Kind.{chilled, put}
use Rattle.numbers.specs.Sums.{count_to}
use Rattle.numbers.specs.Lists.{at}
use Rattle.numbers.specs.Limits.{max_tasks, max_count}
use Rattle.rules.specs.Obey.{fresh}
use Rattle.tree.specs.Tree.{Valid}
use Rattle.words.specs.Layout.{row, rows, words}
use Rattle.words.specs.Contents.{StoreContents, Contents}
use Rattle.store.specs.Rows.{ZeroPast, books, activation_of, execution_of}
use Rattle.store.specs.Cached.{Placed}
use Rattle.store.specs.Kept.{Kept}
use Rattle.store.specs.AtRest.{AtRest}

-- the store with other needs
unfoldable pub with_needs : List ℕ → StoreContents → StoreContents
with_needs needs s =
    record {
      bound = s.bound;
      total = s.total;
      used = s.used;
      works = s.works;
      outs = s.outs;
      needs = needs;
      booked = s.booked;
      figures = s.figures;
    }

-- the plan with other needs and other numbers of children
unfoldable pub with_figures : List ℕ → List ℕ → Contents → Contents
with_figures needs unended c =
    record {
      extent = c.extent;
      phase = c.phase;
      size = c.size;
      processors = c.processors;
      given = c.given;
      ranked = c.ranked;
      placed = c.placed;
      next = c.next;
      active = c.active;
      ended = c.ended;
      parents = c.parents;
      ranks = c.ranks;
      places = c.places;
      unended = unended;
      standings = c.standings;
      stores = put chilled (with_needs needs c.stores.chilled) c.stores;
      activation = c.activation;
      execution = c.execution;
      ready = c.ready;
      filled = c.filled;
    }

-- a word of a row that may grow
pub record MayAdd (line column more : ℕ) (w : List ℕ) : Type 0 where
  pub line_in : line < rows
  pub column_in : column < row
  pub fits : at w (row * line + column) + more < 2 ^ 32

-- a column whose entry i has grown
abbrev pub plus : List ℕ → ℕ → ℕ → List ℕ
plus l i more = set l i (at l i + more)

-- task i adds its work and its out to its own need
abbrev pub own_need : Contents → ℕ → List ℕ
own_need c i = plus c.stores.chilled.needs i (at c.stores.chilled.works i + at c.stores.chilled.outs i)

-- and its out and itself to the need and the children of its parent
unfoldable pub weighed : ℕ → Contents → Contents
weighed i c =
    with_figures (plus (own_need c i) (at c.parents i) (at c.stores.chilled.outs i)) (plus c.unended (at c.parents i) 1) c

-- that all this fits
pub record MayWeigh (i : ℕ) (c : Contents) : Type 0 where
  pub long : c.extent ≡ words
  pub here : i < rows
  pub parent_in : at c.parents i < rows
  pub own_fits : at c.stores.chilled.needs i + (at c.stores.chilled.works i + at c.stores.chilled.outs i) < 2 ^ 32
  pub parent_fits : at (own_need c i) (at c.parents i) + at c.stores.chilled.outs i < 2 ^ 32
  pub children_fit : at c.unended (at c.parents i) + 1 < 2 ^ 32

-- a column of counts, with nothing for nobody and nothing past the tasks
pub record Counts (n : ℕ) (l : List ℕ) : Type 0 where
  pub light : (i : ℕ) → at l i ≤ max_count
  pub nobody : at l 0 ≡ 0
  pub past : ZeroPast n l

-- a plan against which there is no ground, before its day
pub record MayPrepare (c : Contents) : Type 0 where
  pub long : c.extent ≡ words
  pub small : c.size ≤ max_tasks
  pub bounded : c.stores.chilled.bound < 2 ^ 32
  pub parents : (i : ℕ) → at c.parents i ≤ c.size
  pub works : Counts c.size c.stores.chilled.works
  pub outs : Counts c.size c.stores.chilled.outs
  pub valid : Valid c.size (at c.parents) (activation_of c)
  pub placed : Placed c.size (execution_of c) (at c.places)
  pub rest : AtRest c

-- all is kept of a day on which nothing has happened, and nothing changes but the needs and the numbers of children
pub record Prepared (c c' : Contents) : Type 0 where
  pub kept : Kept c'
  pub books : books c' ≡ fresh c.size
  pub idle : c'.active ≡ 0
  pub children : (i : ℕ) → at c'.unended i ≡ count_to (λ k. eqb (at c.parents k) i) c.size
  pub same : c' ≡ with_figures c'.stores.chilled.needs c'.unended c
