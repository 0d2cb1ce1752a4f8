-- What is kept of a store that is left open, by its own booked trays.
use mathlib.Core.Path.{◌≡◌}
use Prim.Native.Nat.{◌≤◌}
use native.Mathlib.Omega.{arith}
use Rattle.books.specs.Kind.{Kind, chilled, of}
use Rattle.numbers.specs.Lists.{at}
use Rattle.books.specs.Booking.{booked_in}
use Rattle.books.specs.Invariant.{StockedBy}
use Rattle.books.proofs.EachStore.{of-each}
use Rattle.words.specs.Contents.{Contents}
use Rattle.store.specs.Rows.{rows_of, books, terms_in}
use Rattle.store.specs.Cached.{StoreCached}
use Rattle.store.specs.Kept.{Kept}

-- what holds of the cold room holds of every store, as long as there is no other
pub by_kind : (P : Kind → Type 0) → P chilled → (k : Kind) → P k
by_kind P h chilled = h

-- the booked trays of the tasks in it
pub booked_is : (c : Contents) (k : Kind) → booked_in (books c) k ≡ rows_of c.size (of c.stores k).booked
booked_is c k = of-each (λ d. rows_of c.size (of c.stores d).booked) k

module _ {c : Contents} (kept : Kept c) (k : Kind) where
  pub cached-in :
      StoreCached c.size (at c.parents) (at (books c).standings) (rows_of c.size (of c.stores k).booked) (of c.stores k)
  cached-in = rw (booked_is c k) at (kept.cached.stores k)

  pub stock-in :
      StockedBy c.size (at c.parents) (terms_in c k) (at (books c).standings) (rows_of c.size (of c.stores k).booked)
  stock-in = rw (booked_is c k) at (kept.invariant.good.stock k)

  -- what is booked of it is within its bound
  pub total-within : (of c.stores k).total ≤ (of c.stores k).bound
  total-within = let t = cached-in.totals in let w = stock-in.within in omega arith
