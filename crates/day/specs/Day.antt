-- What BEGIN, DONE, 08 and FETCH ask and leave of the contents of a plan.
use Rattle.std.specs.Prelude.{◌≡◌, Bool, ◌&&◌, ◌||◌, List, ℕ, ◌^◌, ◌≤◌, ◌<◌, eqb, length}
use Rattle.books.specs.Kind
use Rattle.numbers.specs.Limits.{max_processors, least_starts}
use Rattle.rules.specs.Phase
use Rattle.rules.specs.Obey.{fresh}
use Rattle.books.specs.Booking.{Books}
use Rattle.words.specs.Layout.{chilled}
use Rattle.words.specs.Contents.{Contents, with_head}
use Rattle.store.specs.Rows.{books}
use Rattle.store.specs.Kept.{Kept}
use Rattle.store.specs.Store.{with_store, held_alone}
use Rattle.survey.specs.Prepare.{MayPrepare}
use Rattle.dispatch.specs.Finished.{MayFinish, Finished}
use Rattle.dispatch.specs.Ended.{root_ended}
use Rattle.day.specs.Advanced.{Advanced}

-- "BEGIN is in turn in orders once both orders have n entries", or "with a full activation order and no 04 at all"
unfoldable pub begins : Contents → Bool
begins c =
    eqb c.phase Phase.orders && eqb c.ranked c.size && (eqb c.placed c.size || eqb c.placed 0)

-- what is given of a plan, with the bound in force: sharing out, booking ahead and starting leave it
pub record SameTasks (c c' : Contents) : Type 0 where
  pub size : c'.size ≡ c.size
  pub processors : c'.processors ≡ c.processors
  pub given : c'.given ≡ c.given
  pub ranked : c'.ranked ≡ c.ranked
  pub placed : c'.placed ≡ c.placed
  pub parents : c'.parents ≡ c.parents
  pub ranks : c'.ranks ≡ c.ranks
  pub places : c'.places ≡ c.places
  pub activation : c'.activation ≡ c.activation
  pub execution : c'.execution ≡ c.execution
  pub bound : c'.stores.chilled.bound ≡ c.stores.chilled.bound
  pub works : c'.stores.chilled.works ≡ c.stores.chilled.works
  pub outs : c'.stores.chilled.outs ≡ c.stores.chilled.outs

-- a plan of which a part of the day is done, then booking ahead and starting: the day runs
pub record Proceeded (c : Contents) (k : Books) (c' : Contents) (list list' : List ℕ) (count : ℕ) : Type 0 where
  pub between : Contents
  pub after : Contents
  pub same : SameTasks c between
  pub kept : Kept between
  pub books : books between ≡ k
  pub advanced : Advanced between after list list' count
  pub phased : c' ≡ with_head 0 Phase.running after

-- BEGIN, once there is no ground against it
pub record MayBegin (c : Contents) (list : List ℕ) : Type 0 where
  pub may : MayPrepare c
  pub few : c.processors ≤ max_processors
  pub room : least_starts ≤ length list

abbrev pub Begun : (c c' : Contents) (list list' : List ℕ) (count : ℕ) → Type 0
Begun c c' list list' count = Proceeded c (fresh c.size) c' list list' count

-- DONE for a task that has a parent, once there is no ground against it
pub record MayGoOn (c : Contents) (j : ℕ) (list : List ℕ) : Type 0 where
  pub now : c.phase ≡ Phase.running
  pub may : MayFinish c j
  pub busy : c.active ≤ c.processors
  pub few : c.processors ≤ max_processors
  pub room : least_starts ≤ length list

pub record WentOn (c : Contents) (j : ℕ) (c' : Contents) (list list' : List ℕ) (count offers : ℕ) : Type 0 where
  pub left : Contents
  pub finished : Finished c j left offers
  pub proceeded : Proceeded c (books left) c' list list' count

-- DONE for the root: "its out remains booked and in use, and the phase is a new one, ready"
unfoldable pub made_ready : ℕ → Contents → Contents
made_ready j c = with_head 0 Phase.ready (root_ended j c)

-- FETCH "frees it and leads to over"
unfoldable pub made_over : ℕ → Contents → Contents
made_over root c = with_head 0 Phase.over (with_store Kind.chilled (held_alone root 0 c.stores.chilled) c)

-- the plan with another bound of the cold room
unfoldable pub with_bound : ℕ → Contents → Contents
with_bound bound c = with_head chilled bound c

-- 08, once there is no ground against it
pub record MayResize (c : Contents) (bound : ℕ) (list : List ℕ) : Type 0 where
  pub now : c.phase ≡ Phase.running
  pub kept : Kept c
  pub bounded : bound < 2 ^ 32
  pub within : c.stores.chilled.total ≤ bound
  pub busy : c.active ≤ c.processors
  pub few : c.processors ≤ max_processors
  pub room : least_starts ≤ length list

-- "then booking ahead and starting follow"
abbrev pub Resized : (c : Contents) (bound : ℕ) (c' : Contents) (list list' : List ℕ) (count : ℕ) → Type 0
Resized c bound c' list list' count = Proceeded (with_bound bound c) (books c) c' list list' count
