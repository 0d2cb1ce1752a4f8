-- What is asked and left of the tasks that run, have ended and are waited for, as a task ends.
use Rattle.std.specs.Prelude.{◌≡◌, Bool, false, ◌&&◌, List, ℕ, ◌+◌, ◌-◌, ◌^◌, ◌≤◌, ◌<◌, eqb, set}
use Rattle.books.specs.Kind
use Rattle.numbers.specs.Lists.{at}
use Rattle.books.specs.Standing.{activated, finished}
use Rattle.words.specs.Layout.{words, rows, entries}
use Rattle.words.specs.Contents.{Contents, with_ready}
use Rattle.words.specs.Marks.{Marks, changed}
use Rattle.store.specs.Store.{with_store, fewer, held_alone}

-- the plan with other standings, with other counts of tasks that run and have ended, and of children that have not ended
unfoldable pub with_progress : (standings unended : List ℕ) (active ended : ℕ) → Contents → Contents
with_progress standings unended active ended c =
    record {
      extent = c.extent;
      phase = c.phase;
      size = c.size;
      processors = c.processors;
      given = c.given;
      ranked = c.ranked;
      placed = c.placed;
      next = c.next;
      active = active;
      ended = ended;
      parents = c.parents;
      ranks = c.ranks;
      places = c.places;
      unended = unended;
      standings = standings;
      stores = c.stores;
      activation = c.activation;
      execution = c.execution;
      ready = c.ready;
      filled = c.filled;
    }

-- task j is an ended one, and one fewer runs
pub record MayEnd (j : ℕ) (c : Contents) : Type 0 where
  pub long : c.extent ≡ words
  pub task_in : j < rows
  pub some_run : 1 ≤ c.active
  pub ended_fits : c.ended + 1 < 2 ^ 32

unfoldable pub ended : ℕ → Contents → Contents
ended j c = with_progress (set c.standings j finished) c.unended (c.active - 1) (c.ended + 1) c

-- the parent waits for one child fewer: whether it is booked, and waits for none then
unfoldable pub becomes_ready : ℕ → Contents → Bool
becomes_ready parent c = eqb (at c.standings parent) activated && eqb (at c.unended parent - 1) 0

-- a parent that waits for a child is not in the ready set
pub record Unfed (parent : ℕ) (c : Contents) : Type 0 where
  pub waited : 1 ≤ at c.unended parent
  pub place_in : at c.places parent < entries
  pub test : ℕ → Bool
  pub marks : Marks test c
  pub not_ready : test (at c.places parent) ≡ false

pub record MayFeed (parent : ℕ) (c : Contents) : Type 0 where
  pub long : c.extent ≡ words
  pub parent_in : parent < rows
  pub unfed : Unfed parent c

-- one child fewer, and a parent in the ready set where it becomes ready
pub record Fed (parent : ℕ) (c c' : Contents) : Type 0 where
  pub same : c' ≡ with_ready c'.ready c'.filled (with_progress c.standings (fewer c.unended parent) c.active c.ended c)
  pub marks :
      (test : ℕ → Bool)
      → Marks test c
      → test (at c.places parent) ≡ false
      → Marks (changed test (at c.places parent) (becomes_ready parent c)) c'

-- the root is an ended task: its out remains booked and in use, and nothing else is
unfoldable pub root_ended : ℕ → Contents → Contents
root_ended j c = with_store Kind.chilled (held_alone j (at c.stores.chilled.outs j) c.stores.chilled) (ended j c)
