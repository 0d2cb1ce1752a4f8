-- What each reason says of the plan, and that a plan that commands led to tells the first that is true.
use Rattle.std.specs.Prelude.{◌≡◌, ◌⊎◌, ℕ, ◌+◌, ◌≤◌, ◌<◌}
use Rattle.books.specs.Kind.{Kind, Each, of}
use Rattle.numbers.specs.Sums.{Task}
use Rattle.numbers.specs.Lists.{at}
use Rattle.rules.specs.Phase
use Rattle.books.specs.Standing
use Rattle.rules.specs.State.{State, store_of}
use Rattle.rules.specs.Obey.{books_of, with_bounds, ahead}
use Rattle.tree.specs.Tree.{rank_in}
use Rattle.books.specs.Invariant.{FirstWaiting}
use Rattle.rules.specs.Reachable.{Reachable}
use Rattle.whys.specs.Why.{Reason, refused, ended, running, not_booked, unfed, no_processor, why}

-- the standing of x if booking ahead came now, with more places in each store
abbrev pub standing_with : State → (Kind → ℕ) → ℕ → ℕ
standing_with s more x = at (ahead (with_bounds s (λ k. (store_of s k).bound + more k)) (books_of s)).standings x

-- "with that many more tray places the first waiting step would be booked now, and with one fewer than that it would not": nor with
-- fewer still, whatever is added to another store
pub record LackIsExact (s : State) (x : ℕ) (lack : Kind → ℕ) : Type 0 where
  pub some : (k : Kind) × (1 ≤ lack k)
  pub booked : standing_with s lack x ≡ Standing.activated
  pub waits : (more : Kind → ℕ) (k : Kind) → more k < lack k → standing_with s more x ≡ Standing.waiting

-- "not booked, with the first waiting step in the activation order and the number of trays that step lacks"
pub record NotBooked (s : State) (i x : ℕ) (lack : Each ℕ) : Type 0 where
  pub asked : at s.standings i ≡ Standing.waiting
  pub first : FirstWaiting s.size (rank_in s.activation) (at s.standings) x
  pub exact : LackIsExact s x (of lack)

-- "waiting for a feeder, with the lowest-numbered unended child"
pub record Unfed (s : State) (i c : ℕ) : Type 0 where
  pub task : Task s.size c
  pub child : at s.parents c ≡ i
  pub unended : at s.standings c ≡ Standing.finished → ⊥
  pub lowest : (d : ℕ) → Task s.size d → d < c → at s.parents d ≡ i → at s.standings d ≡ Standing.finished

-- what a reason says, whether or not another is true too: "3 outside running", "4 for the step", and "all stations taken"
abbrev pub Says : State → ℕ → Reason → Type 0
Says s i (refused k) = ((k ≡ 3) × (s.phase ≡ Phase.running → ⊥)) ⊎ ((k ≡ 4) × (Task s.size i → ⊥))
Says s i ended = at s.standings i ≡ Standing.finished
Says s i running = at s.standings i ≡ Standing.running
Says s i (not_booked x lack) = NotBooked s i x lack
Says s i (unfed c) = Unfed s i c
Says s i no_processor = Standing.count s.size (at s.standings) Standing.running ≡ s.processors

-- the order in which reasons are tried: the two refusals by their numbers, then the others
abbrev pub precedence : Reason → ℕ
precedence (refused k) = k
precedence ended = 5
precedence running = 6
precedence (not_booked x lack) = 7
precedence (unfed c) = 8
precedence no_processor = 9

-- "the first that is true": it is, and whatever is true and does not come later is this very reason, with the same values
pub record ReasonHolds (s : State) (i : ℕ) (r : Reason) : Type 0 where
  pub says : Says s i r
  pub first : (other : Reason) → precedence other ≤ precedence r → Says s i other → other ≡ r

-- of every plan that commands led to, and of every number
abbrev pub EveryReasonHolds : Type 0
EveryReasonHolds = (s : State) → Reachable s → (i : ℕ) → ReasonHolds s i (why s i)
