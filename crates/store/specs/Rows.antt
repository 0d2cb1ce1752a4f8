-- The entries of the tasks of a plan in the columns of its words.
use Rattle.std.specs.Prelude.{◌≡◌, List, ℕ, suc, ◌<◌, take}
use Rattle.books.specs.Kind.{Kind, of, each}
use Rattle.numbers.specs.Lists.{at}
use Rattle.tree.specs.Tasks.{Tasks}
use Rattle.books.specs.Booking.{Terms, Books}
use Rattle.words.specs.Contents.{Contents}

-- the entries of the tasks of a plan of n, with the one of nobody, at the front of a column
abbrev pub rows_of : ℕ → List ℕ → List ℕ
rows_of n l = take (suc n) l

-- no entry of a column past the tasks says anything
abbrev pub ZeroPast : ℕ → List ℕ → Type 0
ZeroPast n l = (a : ℕ) → n < a → at l a ≡ 0

-- the standings and the booked trays of the tasks
abbrev pub books_in : ℕ → List ℕ → (Kind → List ℕ) → Books
books_in n standings booked = record { standings = rows_of n standings; booked = each (λ k. rows_of n (booked k)) }

abbrev pub books : Contents → Books
books c = books_in c.size c.standings (λ k. (of c.stores k).booked)

-- a store as booking finds it
abbrev pub terms_in : Contents → Kind → Terms
terms_in c k =
    record {
      bound = (of c.stores k).bound;
      need = at (of c.stores k).needs;
      out = at (of c.stores k).outs;
    }

-- the tasks in a store
abbrev pub tasks_of : Contents → Kind → Tasks
tasks_of c k =
    record {
      size = c.size;
      parent = at c.parents;
      work = at (of c.stores k).works;
      out = at (of c.stores k).outs;
    }

-- the orders, once they are given
abbrev pub activation_of : Contents → List ℕ
activation_of c = take c.size c.activation

abbrev pub execution_of : Contents → List ℕ
execution_of c = take c.size c.execution
