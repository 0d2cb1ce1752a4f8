-- The figures that the words keep beside the plan, each tied to its definition in the rules. par, work and out are the plan's, st and
-- b the standings and the booked trays of its tasks.
use Rattle.std.specs.Prelude.{◌≡◌, Bool, true, not, ◌&&◌, List, ℕ, ◌+◌, ◌≤◌, ◌<◌, eqb, leb, ltb, length}
use Rattle.numbers.specs.Sums.{Task, only, sum_to, count_to, within}
use Rattle.books.specs.Kind.{Kind, of}
use Rattle.numbers.specs.Lists.{at, mem, every, distinct}
use Rattle.tree.specs.Need.{need, in_process}
use Rattle.books.specs.Standing.{waiting, running, finished, count}
use Rattle.books.specs.Booking.{Books, booked_in, total, is_unended_child, ready}
use Rattle.tree.specs.Tree.{chain, figure}
use Rattle.words.specs.Layout.{words}
use Rattle.words.specs.Contents.{StoreContents, Contents}
use Rattle.words.specs.Marks.{Marks}
use Rattle.store.specs.Rows.{ZeroPast, books, activation_of, execution_of}

-- what a task holds with its children that do not wait: its subtree figure, but for a waiting task, some of whose children may wait
unfoldable pub partial_figure : (n : ℕ) (par st b : ℕ → ℕ) → ℕ → ℕ
partial_figure n par st b i = b i + sum_to (λ c. only (eqb (par c) i && not (eqb (st c) waiting)) (figure n par b c)) n

-- the same while r trays that were taken from task x belong to nobody: as if they were still booked to x
unfoldable pub partial_figure_with : (n : ℕ) (par st b : ℕ → ℕ) (x r : ℕ) → ℕ → ℕ
partial_figure_with n par st b x r i =
    b i
    + sum_to
    (λ c.
    only (eqb (par c) i && not (eqb (st c) waiting)) (figure n par b c + only (mem c (chain n par x)) r))
    n

-- the children that have not ended
unfoldable pub unended_children : (n : ℕ) (par st : ℕ → ℕ) → ℕ → ℕ
unended_children n par st i = count_to (is_unended_child par st i) n

-- the figures of the tasks, and the children that they still wait for
abbrev pub Figured : (n : ℕ) (par st b : ℕ → ℕ) (figures : List ℕ) → Type 0
Figured n par st b figures = (i : ℕ) → Task n i → at figures i ≡ partial_figure n par st b i

abbrev pub Counted : (n : ℕ) (par : ℕ → ℕ) (k : Books) (unended : List ℕ) → Type 0
Counted n par k unended = (i : ℕ) → Task n i → at unended i ≡ unended_children n par (at k.standings) i

-- the task at a place of the execution order is ready
unfoldable pub is_ready_at : (n : ℕ) (par : ℕ → ℕ) (execution st : List ℕ) → ℕ → Bool
is_ready_at n par execution st e = ltb e n && ready n par st (at execution e)

-- those before `next` in the activation order do not wait, and the others do
pub record Reached (n : ℕ) (order : List ℕ) (k : Books) (next : ℕ) : Type 0 where
  pub within : next ≤ n
  pub before_next : (e : ℕ) → e < next → at k.standings (at order e) ≡ waiting → ⊥
  pub from_next : (e : ℕ) → next ≤ e → e < n → at k.standings (at order e) ≡ waiting

-- an execution order and the places of the tasks in it
pub record Placed (n : ℕ) (execution : List ℕ) (place : ℕ → ℕ) : Type 0 where
  pub inside : every (λ i. within i n) execution ≡ true
  pub once : distinct execution ≡ true
  pub whole : length execution ≡ n
  pub placed : (e : ℕ) → e < n → place (at execution e) ≡ e

-- what is in use by the standings, as long as the root has not ended
abbrev pub in_process_by : (n : ℕ) (par work out st : ℕ → ℕ) → ℕ
in_process_by n par work out st = in_process n par work out (λ i. eqb (st i) finished) (λ i. leb running (st i))

-- all that is kept of a store while the root has not ended
pub record StoreCached (n : ℕ) (par st : ℕ → ℕ) (b : List ℕ) (s : StoreContents) : Type 0 where
  pub needed : (i : ℕ) → at s.needs i ≡ need n par (at s.works) (at s.outs) i
  pub figured : Figured n par st (at b) s.figures
  pub totals : s.total ≡ total n (at b)
  pub uses : s.used ≡ in_process_by n par (at s.works) (at s.outs) st
  pub booked_zero : ZeroPast n s.booked
  pub figures_zero : ZeroPast n s.figures

-- all that is kept of a day
pub record Cached (c : Contents) : Type 0 where
  pub long : c.extent ≡ words
  pub counted : Counted c.size (at c.parents) (books c) c.unended
  pub marks : Marks (is_ready_at c.size (at c.parents) (execution_of c) (books c).standings) c
  pub reached : Reached c.size (activation_of c) (books c) c.next
  pub runs : c.active ≡ count c.size (at (books c).standings) running
  pub ends : c.ended ≡ count c.size (at (books c).standings) finished
  pub placed : Placed c.size (execution_of c) (at c.places)
  pub standings_zero : ZeroPast c.size c.standings
  pub unended_zero : ZeroPast c.size c.unended
  pub stores :
      (k : Kind) → StoreCached c.size (at c.parents) (at (books c).standings) (booked_in (books c) k) (of c.stores k)
