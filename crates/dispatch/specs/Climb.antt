-- What a climb asks and leaves: r trays of task x belong to nobody, and go up from its parent on.
use Rattle.std.specs.Prelude.{◌≡◌, true, List, ℕ, ◌+◌, ◌^◌, ◌≤◌, ◌<◌, length}
use Rattle.books.specs.Kind.{Each}
use Rattle.books.specs.Kind
use Rattle.numbers.specs.Sums.{Task}
use Rattle.numbers.specs.Lists.{at}
use Rattle.numbers.specs.Limits.{max_tasks}
use Rattle.books.specs.Standing.{waiting, activated}
use Rattle.books.specs.Booking.{Share, Climbed, total, climb}
use Rattle.tree.specs.Tree.{chain, Tree, up}
use Rattle.books.specs.Invariant.{Shape, Balance, Roomy}
use Rattle.words.specs.Layout.{words, chilled}
use Rattle.words.specs.Contents.{Contents}
use Rattle.store.specs.Rows.{rows_of, terms_in}
use Rattle.store.specs.Cached.{partial_figure, partial_figure_with}
use Rattle.store.specs.Store.{with_store, with_holdings}

-- the books while r trays that x held go up, with the figures still as if x held them
pub record Carrying (n : ℕ) (par need st b fig : ℕ → ℕ) (x r : ℕ) : Type 0 where
  pub small : n ≤ max_tasks
  pub task : Task n x
  pub busy : st x ≡ waiting → ⊥
  pub rank : ℕ → ℕ
  pub tree : Tree n par rank
  pub shape : Shape n par rank st
  pub out : ℕ → ℕ
  pub roomy : Roomy n par need out
  pub owed : Balance n par need out st b (chain n par (par x)) r
  pub idle : (a : ℕ) → up n par a (par x) ≡ true → st a ≤ activated
  pub figured : (a : ℕ) → Task n a → fig a ≡ partial_figure_with n par st b x r a
  pub bound : ℕ
  pub bounded : bound < 2 ^ 32
  pub within : total n b + r ≤ bound

-- what a climb in a store asks of the words
pub record MayClimb (store x r : ℕ) (c : Contents) : Type 0 where
  pub long : c.extent ≡ words
  pub offset : store ≡ chilled
  pub carrying :
      Carrying c.size (at c.parents) (at c.stores.chilled.needs) (at c.standings) (at c.stores.chilled.booked)
      (at c.stores.chilled.figures) x r

-- what is shared out while r trays go up: these, and the booked trays of the tasks
abbrev pub share_of : (n r : ℕ) → List ℕ → Each Share
share_of n r booked = record { chilled = record { left = r; booked = rows_of n booked } }

-- the climb of the rules from the parent of x on
abbrev pub climb_from : (x r : ℕ) → Contents → Climbed
climb_from x r c =
    climb c.size (at c.parents) (terms_in c) (at c.standings)
    (chain c.size (at c.parents) (at c.parents x)) (share_of c.size r c.stores.chilled.booked)

-- the books once they have gone up: those of the climb of the rules, and figures in which nothing is in the air
pub record Carried (n : ℕ) (par st : ℕ → ℕ) (goal : Climbed) (booked₀ booked figures : List ℕ) (offers left : ℕ) : Type 0 where
  pub share : share_of n left booked ≡ goal.share
  pub offered : offers ≡ length goal.offered
  pub figured : (a : ℕ) → Task n a → at figures a ≡ partial_figure n par st (at booked) a
  -- entries past the tasks stay
  pub past : (a : ℕ) → n < a → at booked a ≡ at booked₀ a

-- the plan with other booked trays and figures
abbrev pub with_carried : List ℕ → List ℕ → Contents → Contents
with_carried booked figures c =
    with_store Kind.chilled (with_holdings c.stores.chilled.total c.stores.chilled.used booked figures c.stores.chilled) c

-- what it leaves: nothing but these changes
pub record DidClimb (x r : ℕ) (c c' : Contents) (offers left : ℕ) : Type 0 where
  pub same : c' ≡ with_carried c'.stores.chilled.booked c'.stores.chilled.figures c
  pub carried :
      Carried c.size (at c.parents) (at c.standings) (climb_from x r c) c.stores.chilled.booked c'.stores.chilled.booked
      c'.stores.chilled.figures offers left
  pub past : (a : ℕ) → c.size < a → at c'.stores.chilled.figures a ≡ at c.stores.chilled.figures a
