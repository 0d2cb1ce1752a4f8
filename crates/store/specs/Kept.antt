-- What holds of a day between the parts of a command: the invariant of its books, and all that is kept beside them.
use Rattle.std.specs.Prelude.{◌≡◌, List, ℕ, ◌^◌, ◌≤◌, ◌<◌}
use Rattle.books.specs.Kind.{Kind, of}
use Rattle.numbers.specs.Lists.{at}
use Rattle.numbers.specs.Limits.{max_tasks}
use Rattle.books.specs.Booking.{Terms, Books}
use Rattle.tree.specs.Tree.{Valid, rank_in}
use Rattle.books.specs.Invariant.{Roomy, Good}
use Rattle.words.specs.Contents.{Contents}
use Rattle.store.specs.Rows.{books, terms_in, activation_of}
use Rattle.store.specs.Cached.{Cached}

-- a plan whose activation order is valid and whose books keep what holds of a day
pub record DayInvariant (n : ℕ) (par : ℕ → ℕ) (terms : Kind → Terms) (order : List ℕ) (b : Books) : Type 0 where
  pub small : n ≤ max_tasks
  pub bounded : (k : Kind) → (terms k).bound < 2 ^ 32
  pub valid : Valid n par order
  pub parents : (i : ℕ) → par i ≤ n
  pub roomy : (k : Kind) → Roomy n par (terms k).need (terms k).out
  pub good : Good n par (rank_in order) terms b

pub record Kept (c : Contents) : Type 0 where
  pub invariant :
      DayInvariant c.size (at c.parents) (terms_in c) (activation_of c) (books c)
  pub cached : Cached c

-- what sharing out, booking ahead and starting leave of a plan
pub record SamePlan (c c' : Contents) : Type 0 where
  pub phase : c'.phase ≡ c.phase
  pub size : c'.size ≡ c.size
  pub processors : c'.processors ≡ c.processors
  pub given : c'.given ≡ c.given
  pub ranked : c'.ranked ≡ c.ranked
  pub placed : c'.placed ≡ c.placed
  pub parents : c'.parents ≡ c.parents
  pub ranks : c'.ranks ≡ c.ranks
  pub places : c'.places ≡ c.places
  pub activation : c'.activation ≡ c.activation
  pub execution : c'.execution ≡ c.execution
  pub bound : (k : Kind) → (of c'.stores k).bound ≡ (of c.stores k).bound
  pub works : (k : Kind) → (of c'.stores k).works ≡ (of c.stores k).works
  pub outs : (k : Kind) → (of c'.stores k).outs ≡ (of c.stores k).outs
  pub needs : (k : Kind) → (of c'.stores k).needs ≡ (of c.stores k).needs
