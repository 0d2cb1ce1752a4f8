-- Booking ahead and starting, the end of BEGIN, of DONE and of 08: what they leave.
use Rattle.std.specs.Prelude.{◌≡◌, List, ℕ, length}
use Rattle.numbers.specs.Lists.{at}
use Rattle.rules.specs.Obey.{free}
use Rattle.books.specs.Booking.{Books, activate, starts, start}
use Rattle.rules.specs.Answer.{front}
use Rattle.words.specs.Contents.{Contents}
use Rattle.store.specs.Rows.{books, terms_in, activation_of, execution_of}
use Rattle.store.specs.Kept.{Kept, SamePlan}

-- the books once the first waiting tasks are booked, and the tasks that start then
abbrev pub booked_ahead : Contents → Books
booked_ahead c =
    activate c.size (at c.parents) (terms_in c) (activation_of c) (books c)

abbrev pub starts_then : Contents → List ℕ
starts_then c =
    starts c.size (at c.parents) (execution_of c) (free c.size c.processors (booked_ahead c).standings)
    (booked_ahead c).standings

pub record Advanced (c c' : Contents) (list list' : List ℕ) (count : ℕ) : Type 0 where
  pub kept : Kept c'
  pub same : SamePlan c c'
  pub books :
      books c' ≡ record { standings = start (starts_then c) (booked_ahead c).standings; booked = (booked_ahead c).booked }
  pub counted : count ≡ length (starts_then c)
  pub listed : list' ≡ front (starts_then c) list
