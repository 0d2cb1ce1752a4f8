-- What booking ahead leaves.
use Rattle.std.specs.Prelude.{◌≡◌, Bool, true, false, List, ℕ, ◌+◌, ◌<◌, eqb}
use Rattle.numbers.specs.Lists.{at}
use Rattle.books.specs.Standing.{activated}
use Rattle.books.specs.Booking.{allows, book, activate}
use Rattle.words.specs.Layout.{rows, standing}
use Rattle.words.specs.Contents.{Contents, with_cell, with_ready}
use Rattle.words.specs.Marks.{Marks, changed, MayChange}
use Rattle.store.specs.Rows.{books, terms_in, activation_of}
use Rattle.store.specs.Kept.{Kept, SamePlan}

-- a task x that is not in the ready set
pub record MayActivate (x : ℕ) (c : Contents) : Type 0 where
  pub task_in : x < rows
  pub absent : MayChange (at c.places x) false c

-- "becomes booked": it is in the ready set then where all its children have ended
pub record DidActivate (x : ℕ) (c c' : Contents) : Type 0 where
  pub same : c' ≡ with_ready c'.ready c'.filled (with_cell standing x activated c)
  pub marks :
      (test : ℕ → Bool)
      → Marks test c
      → test (at c.places x) ≡ false
      → Marks (changed test (at c.places x) (eqb (at c.unended x) 0)) c'

-- there is a waiting task: the first in the activation order
pub record SomeWait (c : Contents) (next : ℕ) : Type 0 where
  pub kept : Kept c
  pub here : next ≡ c.next
  pub more : next < c.size

-- "Its missing trays .. If B + missing is at most M": whether the first waiting task may be booked
abbrev pub allows_next : Contents → Bool
allows_next c =
    allows c.size (at c.parents) (terms_in c) (books c) (at (activation_of c) c.next)

-- "it gets them and becomes booked"
pub record NextBooked (c c' : Contents) : Type 0 where
  pub kept : Kept c'
  pub same : SamePlan c c'
  pub onward : c'.next ≡ c.next + 1
  pub books :
      books c' ≡ book c.size (at c.parents) (terms_in c) (books c) (at (activation_of c) c.next)

-- the first waiting task is booked where it may be, and else nothing changes
pub record BookedNext (w w' : List ℕ) (c c' : Contents) (done : Bool) : Type 0 where
  pub tested : done ≡ allows_next c
  pub booked : done ≡ true → NextBooked c c'
  pub stays : done ≡ false → w' ≡ w

-- booking ahead of the rules
pub record BookedAhead (c c' : Contents) : Type 0 where
  pub kept : Kept c'
  pub same : SamePlan c c'
  pub books :
      books c' ≡ activate c.size (at c.parents) (terms_in c) (activation_of c) (books c)
