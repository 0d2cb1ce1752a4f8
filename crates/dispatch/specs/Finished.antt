-- What ending a task that has a parent asks and leaves.
use Rattle.std.specs.Prelude.{◌≡◌, ℕ, length, set}
use Rattle.books.specs.Kind.{of, each}
use Rattle.numbers.specs.Sums.{Task}
use Rattle.numbers.specs.Lists.{at}
use Rattle.books.specs.Standing.{running, finished}
use Rattle.books.specs.Booking.{Climbed, dispatch}
use Rattle.words.specs.Contents.{Contents}
use Rattle.store.specs.Rows.{books, terms_in}
use Rattle.store.specs.Kept.{Kept, SamePlan}

-- task j runs, and has a parent
pub record MayFinish (c : Contents) (j : ℕ) : Type 0 where
  pub kept : Kept c
  pub task : Task c.size j
  pub runs : at c.standings j ≡ running
  pub higher : at c.parents j ≡ 0 → ⊥

-- sharing out of the rules
abbrev pub dispatched_from : Contents → ℕ → Climbed
dispatched_from c j =
    dispatch c.size (at c.parents) (terms_in c) (at (set (books c).standings j finished)) (books c).booked j

pub record Finished (c : Contents) (j : ℕ) (c' : Contents) (offers : ℕ) : Type 0 where
  pub kept : Kept c'
  pub same : SamePlan c c'
  pub books :
      books c'
      ≡ record {
        standings = set (books c).standings j finished;
        booked = each (λ k. (of (dispatched_from c j).share k).booked);
      }
  pub offered : offers ≡ length (dispatched_from c j).offered
