-- What the words of a plan hold, by name: the head, the columns of the tasks and of a store, the orders and the ready set.
use Rattle.std.specs.Prelude.{cond, List, ℕ, ◌+◌, eqb, length, set}
use Rattle.books.specs.Kind.{Each, of, each}
use Rattle.numbers.specs.Lists.{at}
use Rattle.words.specs.Layout.{head_base, entries, activation_base, execution_base, blocks, ready_base, filled_word, offset}
use Rattle.words.specs.Views.{column, part}

-- of a store: its bound, what is booked and what is in use of it, and its columns
pub record StoreContents : Type 0 where
  pub bound : ℕ
  pub total : ℕ
  pub used : ℕ
  pub works : List ℕ
  pub outs : List ℕ
  pub needs : List ℕ
  pub booked : List ℕ
  pub figures : List ℕ

pub record Contents : Type 0 where
  -- how many words there are
  pub extent : ℕ
  -- the head
  pub phase : ℕ
  pub size : ℕ
  pub processors : ℕ
  -- how many rows, and entries of the orders, are given
  pub given : ℕ
  pub ranked : ℕ
  pub placed : ℕ
  -- how far booking ahead has come, and how many tasks run and have ended
  pub next : ℕ
  pub active : ℕ
  pub ended : ℕ
  -- columns of the tasks
  pub parents : List ℕ
  pub ranks : List ℕ
  pub places : List ℕ
  pub unended : List ℕ
  pub standings : List ℕ
  -- the stores
  pub stores : Each StoreContents
  -- the orders and the ready set
  pub activation : List ℕ
  pub execution : List ℕ
  pub ready : List ℕ
  pub filled : ℕ

-- a word of the head
abbrev pub head_word : ℕ → List ℕ → ℕ
head_word k w = at w (head_base + k)

unfoldable pub store_contents : ℕ → List ℕ → StoreContents
store_contents store w =
    record {
      bound = head_word store w;
      total = head_word (store + 1) w;
      used = head_word (store + 2) w;
      works = column store w;
      outs = column (store + 1) w;
      needs = column (store + 2) w;
      booked = column (store + 3) w;
      figures = column (store + 4) w;
    }

unfoldable pub contents : List ℕ → Contents
contents w =
    record {
      extent = length w;
      phase = head_word 0 w;
      size = head_word 1 w;
      processors = head_word 2 w;
      given = head_word 3 w;
      ranked = head_word 4 w;
      placed = head_word 8 w;
      next = head_word 9 w;
      active = head_word 13 w;
      ended = head_word 14 w;
      parents = column 0 w;
      ranks = column 1 w;
      places = column 2 w;
      unended = column 3 w;
      standings = column 4 w;
      stores = each (λ k. store_contents (offset k) w);
      activation = part activation_base entries w;
      execution = part execution_base entries w;
      ready = part ready_base blocks w;
      filled = at w filled_word;
    }

-- the new value where the numbers of two words are the same, and what was there elsewhere
abbrev pub renewed : ℕ → ℕ → ℕ → ℕ → ℕ
renewed k j x old = cond (eqb k j) x old

abbrev pub edited : ℕ → ℕ → ℕ → ℕ → List ℕ → List ℕ
edited k j i x old = cond (eqb k j) (set old i x) old

-- after word j of row i of a task was written
unfoldable pub store_with_cell : ℕ → ℕ → ℕ → ℕ → StoreContents → StoreContents
store_with_cell store j i x c =
    record {
      bound = c.bound;
      total = c.total;
      used = c.used;
      works = edited store j i x c.works;
      outs = edited (store + 1) j i x c.outs;
      needs = edited (store + 2) j i x c.needs;
      booked = edited (store + 3) j i x c.booked;
      figures = edited (store + 4) j i x c.figures;
    }

unfoldable pub with_cell : ℕ → ℕ → ℕ → Contents → Contents
with_cell j i x c =
    record {
      extent = c.extent;
      phase = c.phase;
      size = c.size;
      processors = c.processors;
      given = c.given;
      ranked = c.ranked;
      placed = c.placed;
      next = c.next;
      active = c.active;
      ended = c.ended;
      parents = edited 0 j i x c.parents;
      ranks = edited 1 j i x c.ranks;
      places = edited 2 j i x c.places;
      unended = edited 3 j i x c.unended;
      standings = edited 4 j i x c.standings;
      stores = each (λ k. store_with_cell (offset k) j i x (of c.stores k));
      activation = c.activation;
      execution = c.execution;
      ready = c.ready;
      filled = c.filled;
    }

-- after word j of the head was written
unfoldable pub store_with_head : ℕ → ℕ → ℕ → StoreContents → StoreContents
store_with_head store j x c =
    record {
      bound = renewed store j x c.bound;
      total = renewed (store + 1) j x c.total;
      used = renewed (store + 2) j x c.used;
      works = c.works;
      outs = c.outs;
      needs = c.needs;
      booked = c.booked;
      figures = c.figures;
    }

unfoldable pub with_head : ℕ → ℕ → Contents → Contents
with_head j x c =
    record {
      extent = c.extent;
      phase = renewed 0 j x c.phase;
      size = renewed 1 j x c.size;
      processors = renewed 2 j x c.processors;
      given = renewed 3 j x c.given;
      ranked = renewed 4 j x c.ranked;
      placed = renewed 8 j x c.placed;
      next = renewed 9 j x c.next;
      active = renewed 13 j x c.active;
      ended = renewed 14 j x c.ended;
      parents = c.parents;
      ranks = c.ranks;
      places = c.places;
      unended = c.unended;
      standings = c.standings;
      stores = each (λ k. store_with_head (offset k) j x (of c.stores k));
      activation = c.activation;
      execution = c.execution;
      ready = c.ready;
      filled = c.filled;
    }

-- after words behind the rows were written: other orders, another ready set
unfoldable pub with_orders : List ℕ → List ℕ → Contents → Contents
with_orders activation execution c =
    record {
      extent = c.extent;
      phase = c.phase;
      size = c.size;
      processors = c.processors;
      given = c.given;
      ranked = c.ranked;
      placed = c.placed;
      next = c.next;
      active = c.active;
      ended = c.ended;
      parents = c.parents;
      ranks = c.ranks;
      places = c.places;
      unended = c.unended;
      standings = c.standings;
      stores = c.stores;
      activation = activation;
      execution = execution;
      ready = c.ready;
      filled = c.filled;
    }

unfoldable pub with_ready : List ℕ → ℕ → Contents → Contents
with_ready ready filled c =
    record {
      extent = c.extent;
      phase = c.phase;
      size = c.size;
      processors = c.processors;
      given = c.given;
      ranked = c.ranked;
      placed = c.placed;
      next = c.next;
      active = c.active;
      ended = c.ended;
      parents = c.parents;
      ranks = c.ranks;
      places = c.places;
      unended = c.unended;
      standings = c.standings;
      stores = c.stores;
      activation = c.activation;
      execution = c.execution;
      ready = ready;
      filled = filled;
    }
