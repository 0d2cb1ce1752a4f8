-- What starting asks and leaves.
use Rattle.std.specs.Prelude.{◌≡◌, true, List, ℕ, ◌+◌, ◌-◌, ◌≤◌, length, set}
use Rattle.numbers.specs.Lists.{at}
use Rattle.numbers.specs.Limits.{max_processors, least_starts}
use Rattle.books.specs.Standing.{running}
use Rattle.books.specs.Booking.{starts, start}
use Rattle.rules.specs.Answer.{front}
use Rattle.words.specs.Contents.{Contents}
use Rattle.store.specs.Rows.{books, execution_of}
use Rattle.store.specs.Cached.{is_ready_at}
use Rattle.store.specs.Kept.{Kept, SamePlan}

-- the task at a place of the execution order is ready
pub record MayRun (place : ℕ) (c : Contents) : Type 0 where
  pub kept : Kept c
  pub ready : is_ready_at c.size (at c.parents) (execution_of c) (books c).standings place ≡ true

-- it runs
pub record OneStarted (place : ℕ) (c c' : Contents) (task : ℕ) : Type 0 where
  pub kept : Kept c'
  pub same : SamePlan c c'
  pub chosen : task ≡ at (execution_of c) place
  pub active : c'.active ≡ c.active + 1
  pub books : books c' ≡ record { standings = set (books c).standings task running; booked = (books c).booked }

-- no more tasks run than there are processors, and the start list has room
pub record MayStart (c : Contents) (list : List ℕ) : Type 0 where
  pub kept : Kept c
  pub busy : c.active ≤ c.processors
  pub few : c.processors ≤ max_processors
  pub room : least_starts ≤ length list

-- "While a station is free, and some booked step has all its children ended, the one of these that is earliest in the execution order
-- starts": these tasks, in order
abbrev pub started_of : Contents → List ℕ
started_of c = starts c.size (at c.parents) (execution_of c) (c.processors - c.active) (books c).standings

-- they run, and are written to the front of the start list
pub record Started (c c' : Contents) (list list' : List ℕ) (count : ℕ) : Type 0 where
  pub kept : Kept c'
  pub same : SamePlan c c'
  pub books : books c' ≡ record { standings = start (started_of c) (books c).standings; booked = (books c).booked }
  pub counted : count ≡ length (started_of c)
  pub listed : list' ≡ front (started_of c) list
