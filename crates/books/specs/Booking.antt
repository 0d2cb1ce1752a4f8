-- Booking, starting and sharing out, over a store that is left open: `need` and `out` are its needs and outs, `bound` its
-- places and `booked` the booked trays of each task there.
use Rattle.std.specs.Prelude.{Bool, true, false, not, ◌&&◌, ◌||◌, List, [], ◌∷◌, ℕ, zero, suc, ◌+◌, ◌-◌, eqb, leb, set}
use Rattle.books.specs.Kind.{Kind, Each, of, each, all}
use Rattle.numbers.specs.Sums.{only, sum_to, count_to}
use Rattle.numbers.specs.Lists.{at, first}
use Rattle.tree.specs.Tree.{is_child, chain, figure}
use Rattle.books.specs.Standing.{waiting, activated, running, finished}

-- "B is the sum of all booked trays."
unfoldable pub total : (n : ℕ) (b : ℕ → ℕ) → ℕ
total n b = sum_to b n

-- c is a child of i and has not ended
abbrev pub is_unended_child : (par st : ℕ → ℕ) → ℕ → ℕ → Bool
is_unended_child par st i c = is_child par i c && not (eqb (st c) finished)

-- the sum of the subtree figures of the children of i; "an ended child's subtree figure is 0"
unfoldable pub children_figure : (n : ℕ) (par st b : ℕ → ℕ) → ℕ → ℕ
children_figure n par st b i = sum_to (λ c. only (is_unended_child par st i c) (figure n par b c)) n

-- "Its missing trays are its need less (its own booked trays plus the subtree figures of its children), never below 0"
unfoldable pub missing : (n : ℕ) (par need st b : ℕ → ℕ) → ℕ → ℕ
missing n par need st b i = need i - (b i + children_figure n par st b i)

-- "has all its children ended"
unfoldable pub fed : (n : ℕ) (par st : ℕ → ℕ) → ℕ → Bool
fed n par st i = eqb (count_to (is_unended_child par st i) n) 0

-- a store as booking finds it: its places, and the needs and the outs of the tasks there
pub record Terms : Type 0 where
  pub bound : ℕ
  pub need : ℕ → ℕ
  pub out : ℕ → ℕ

-- what booking changes: standings, and the booked trays of each store
pub record Books : Type 0 where
  pub standings : List ℕ
  pub booked : Each (List ℕ)

-- the booked trays of a store
abbrev pub booked_in : Books → Kind → List ℕ
booked_in s k = of s.booked k

module _ (n : ℕ) (par : ℕ → ℕ) (terms : Kind → Terms) where
  -- the missing trays of task i in a store
  unfoldable pub misses : Books → Kind → ℕ → ℕ
  misses s k i = missing n par (terms k).need (at s.standings) (at (booked_in s k)) i

  -- "If B + missing is at most M"
  unfoldable pub allows_in : Books → ℕ → Kind → Bool
  allows_in s i k = leb (total n (at (booked_in s k)) + misses s k i) (terms k).bound

  -- and it is so in every store
  unfoldable pub allows : Books → ℕ → Bool
  allows s i = all (allows_in s i)

  -- "it gets them and becomes booked"
  unfoldable pub book : Books → ℕ → Books
  book s i =
      record {
        standings = set s.standings i activated;
        booked = each (λ k. set (booked_in s k) i (at (booked_in s k) i + misses s k i));
      }

  -- "Booking ahead. Look at the first waiting step in the activation order. .. it gets them and becomes booked, and the next is
  -- looked at. Otherwise booking ahead stops. No later step is tried."
  unfoldable pub activate : List ℕ → Books → Books
  activate [] s = s
  activate (i ∷ later) s =
      elim (eqb (at s.standings i) waiting) [
        | true ↦ elim (allows s i) [ true ↦ activate later (book s i) | false ↦ s ]
        | false ↦ activate later s
      ]

-- a booked task with all its children ended
unfoldable pub ready : (n : ℕ) (par : ℕ → ℕ) → List ℕ → ℕ → Bool
ready n par st i = eqb (at st i) activated && fed n par (at st) i

module _ (n : ℕ) (par : ℕ → ℕ) (execution : List ℕ) where
  -- "Starting. While a station is free, and some booked step has all its children ended, the one of these that is earliest in
  -- the execution order starts": the tasks started, in order, where so many processors are free
  unfoldable pub starts : (free : ℕ) → List ℕ → List ℕ
  starts zero st = []
  starts (suc free) st =
      elim (first (ready n par st) execution) [ zero ↦ [] | suc i ↦ suc i ∷ starts free (set st (suc i) running) ]

-- the standings once the tasks of a list run
unfoldable pub start : List ℕ → List ℕ → List ℕ
start [] st = st
start (i ∷ later) st = start later (set st i running)

-- what is shared out of one store: what is left of R, and the booked trays. "While climbing, R belongs to no step, so no figure
-- counts it."
pub record Share : Type 0 where
  pub left : ℕ
  pub booked : List ℕ

-- "R is 0", in every store
unfoldable pub spent : Each Share → Bool
spent s = all (λ k. eqb (of s k).left 0)

-- "max(0, need of i − its subtree figure)"
unfoldable pub gift : (n : ℕ) (par need : ℕ → ℕ) → List ℕ → ℕ → ℕ
gift n par need b i = need i - figure n par (at b) i

-- "it gets [its gift], and R falls by that." In a day a gift is never more than R (`Climbing.gift-within`)
unfoldable pub pass : (n : ℕ) (par need : ℕ → ℕ) → ℕ → Share → Share
pass n par need i s =
    record {
      left = s.left - gift n par need s.booked i;
      booked = set s.booked i (at s.booked i + gift n par need s.booked i);
    }

-- "When step j ends, its booked trays, call them R, are taken from it. If it has a parent, the parent is given j's out, and R falls
-- by it." "When the root ends, its out remains booked." In a day the out is never more than R (`Finishing.out_within`)
unfoldable pub release : (par out : ℕ → ℕ) → List ℕ → ℕ → Share
release par out b j =
    elim (eqb (par j) 0) [
      | true ↦ record { left = at b j - out j; booked = set b j (out j) }
      | false ↦
          record { left = at b j - out j; booked = set (set b j 0) (par j) (at (set b j 0) (par j) + out j) }
    ]

-- what a climb leaves: the tasks on the way, each one offer, and what is shared out
pub record Climbed : Type 0 where
  pub offered : List ℕ
  pub share : Each Share

-- one offer more, ahead of the others
unfoldable pub offer : ℕ → Climbed → Climbed
offer i c = record { offered = i ∷ c.offered; share = c.share }

module _ (n : ℕ) (par : ℕ → ℕ) (terms : Kind → Terms) (st : ℕ → ℕ) where
  -- one offer in each store
  unfoldable pub pass_each : ℕ → Each Share → Each Share
  pass_each i s = each (λ k. pass n par (terms k).need i (of s k))

  -- "climb from parent to parent .., ending at the first of: past the root, a step that is waiting, R is 0. .. Each step i on
  -- the way is one offer"
  unfoldable pub climb : List ℕ → Each Share → Climbed
  climb [] s = record { offered = []; share = s }
  climb (i ∷ above) s =
      elim (eqb (st i) waiting || spent s) [
        | true ↦ record { offered = []; share = s }
        | false ↦ offer i (climb above (pass_each i s))
      ]

  -- "Then climb from parent to parent, from j's parent on .. What is left of R is free."
  unfoldable pub dispatch : Each (List ℕ) → ℕ → Climbed
  dispatch b j = climb (chain n par (par j)) (each (λ k. release par (terms k).out (of b k) j))
