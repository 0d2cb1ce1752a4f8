-- What holds of the words of a plan beyond their meaning: unused entries, noted places, and the figures kept of its day.
use Rattle.std.specs.Prelude.{◌≡◌, List, ℕ, suc, ◌^◌, ◌≤◌, ◌<◌}
use Rattle.numbers.specs.Limits.{max_tasks, max_processors, max_count}
use Rattle.numbers.specs.Lists.{at}
use Rattle.rules.specs.Phase
use Rattle.books.specs.Booking.{total}
use Rattle.words.specs.Layout.{words}
use Rattle.words.specs.Contents.{Contents}
use Rattle.store.specs.Rows.{ZeroPast, books}
use Rattle.store.specs.Cached.{Cached}
use Rattle.store.specs.AtRest.{AtRest}

-- a column of which only the entries given so far say anything
pub record Unused (given : ℕ) (column : List ℕ) : Type 0 where
  pub nobody : at column 0 ≡ 0
  pub later : (a : ℕ) → given ≤ a → at column a ≡ 0

-- how many entries are given in each phase
pub record Given (c : Contents) : Type 0 where
  pub unopened : c.phase ≡ Phase.empty → c.given ≡ 0
  pub in_steps : c.phase ≡ Phase.steps → (1 ≤ c.given) × (c.given ≤ c.size)
  pub whole : Phase.orders ≤ c.phase → c.given ≡ suc c.size
  pub some : Phase.orders ≤ c.phase → 1 ≤ c.size

-- an order as far as it is given, with the places of its tasks
pub record Noted (size count : ℕ) (order places : List ℕ) : Type 0 where
  pub few : count ≤ size
  pub noted : (e : ℕ) → e < count → at places (at order e) ≡ e

-- no row past n tasks says anything of a day
pub record DayPast (n : ℕ) (c : Contents) : Type 0 where
  pub unended : ZeroPast n c.unended
  pub standings : ZeroPast n c.standings
  pub needs : ZeroPast n c.stores.chilled.needs
  pub booked : ZeroPast n c.stores.chilled.booked
  pub figures : ZeroPast n c.stores.chilled.figures

-- what is kept once all have ended: how many, and what is booked, which is all that is in use
pub record Closed (c : Contents) : Type 0 where
  pub next : c.next ≡ c.size
  pub active : c.active ≡ 0
  pub ended : c.ended ≡ c.size
  pub totals : c.stores.chilled.total ≡ total c.size (at (books c).booked.chilled)
  pub uses : c.stores.chilled.used ≡ c.stores.chilled.total
  pub past : DayPast c.size c

-- what is kept of a day: all its figures while it runs
pub record InDay (c : Contents) : Type 0 where
  pub ranked_all : c.ranked ≡ c.size
  pub placed_all : c.placed ≡ c.size
  pub cached : c.phase ≡ Phase.running → Cached c
  pub closed : Phase.running < c.phase → Closed c

pub record Sound (c : Contents) : Type 0 where
  pub long : c.extent ≡ words
  pub named : c.phase ≤ Phase.ready
  pub small : c.size ≤ max_tasks
  pub few : c.processors ≤ max_processors
  pub bounded : c.stores.chilled.bound < 2 ^ 32
  pub light : (i : ℕ) → (at c.stores.chilled.works i ≤ max_count) × (at c.stores.chilled.outs i ≤ max_count)
  pub parents : Unused c.given c.parents
  pub works : Unused c.given c.stores.chilled.works
  pub outs : Unused c.given c.stores.chilled.outs
  pub given : Given c
  pub activation : Noted c.size c.ranked c.activation c.ranks
  pub execution : Noted c.size c.placed c.execution c.places
  pub rest : c.phase ≤ Phase.orders → AtRest c
  pub day : Phase.running ≤ c.phase → InDay c
