-- An accepted 08 keeps the day: the new bound is at least the peak and at least what is booked, and booking ahead and starting follow.
use mathlib.Core.Path.{◌≡◌, subst, ◌∙◌}
use mathlib.Core.Bool.{false}
use mathlib.Core.List.{List, [], ◌∷◌, ◌++◌, map, append_assoc}
use Prim.Native.Nat.{ℕ, ◌≤◌}
use native.Mathlib.Omega.{arith}
use lib.Dec.{leb}
use borrow.Author.Tests.{eqb-true, ne_eqb, leb-true}
use Rattle.books.specs.Kind.{Kind, chilled}
use Rattle.numbers.specs.Lists.{at}
use Rattle.numbers.specs.Limits.{max_bound}
use Rattle.rules.specs.Phase
use Rattle.rules.specs.State.{State, store_of}
use Rattle.format.specs.Command.{places}
use Rattle.rules.specs.Grounds.{in_turn, in_limits, own_ground, demand, peak_in, peak_of, no_peaks}
use Rattle.books.specs.Booking.{booked_in, total}
use Rattle.rules.specs.Obey.{with_bound, books_of, terms_of, proceed, obey}
use Rattle.rules.specs.Day.{Event, started, bounded, is_fetched}
use Rattle.tree.specs.Tree.{rank_in}
use Rattle.books.specs.Invariant.{StockedBy, Good}
use Rattle.numbers.proofs.Tests.{or-none}
use Rattle.rules.proofs.Log.{fetched-append, bounded-logged, bounded-in-order}
use Rattle.rules.proofs.Formed.{Accepted, demand-none, with-bound-formed}
use Rattle.rules.proofs.InDay.{Planned, InDay, Going, still-going, proceed-in-day}

-- what the grounds of 08 give
pub record Fits (s : State) (bound : ℕ) : Type 0 where
  pub peak : peak_of s ≤ bound
  pub booked : total s.size (at s.stores.chilled.booked) ≤ bound

pub grounds-fit : (s : State) (bound : ℕ) → own_ground s (places bound) ≡ 0 → Fits s bound
unfolding own_ground
grounds-fit s bound own =
    let booked = total s.size (at s.stores.chilled.booked) in
    let nine = demand-none (leb (peak_of s) bound) 9 (demand (leb booked bound) 13 0) (λ q. omega arith) own in
    let thirteen = demand-none (leb booked bound) 13 0 (λ q. omega arith) nine.1 in
    record { peak = leb-true (peak_of s) bound nine.0; booked = leb-true booked bound thirteen.0 }

-- no store has fewer places than its peak, the cold room with such a bound either
bound-fits :
    (s : State) (bound : ℕ)
    → peak_of s ≤ bound
    → ((k : Kind) → peak_in s (store_of s k) ≤ (store_of s k).bound)
    → (k : Kind)
    → peak_in (with_bound s bound) (store_of (with_bound s bound) k) ≤ (store_of (with_bound s bound) k).bound
unfolding with_bound peak_of peak_in
bound-fits s bound high fits chilled = high

-- the plan with it is still in order, and each bound at least its peak
bound-planned : (s : State) (bound : ℕ) → bound ≤ max_bound → peak_of s ≤ bound → Planned s → Planned (with_bound s bound)
unfolding with_bound
bound-planned s bound limit high p =
    record {
      formed = with-bound-formed s bound limit p.formed;
      given = p.given;
      valid = p.valid;
      executed = p.executed;
      rooted = p.rooted;
      staffed = p.staffed;
      fits = bound-fits s bound high p.fits;
    }

module _ (s : State) (happened : List Event) (day : InDay s happened) (bound : ℕ) (a : Accepted s (places bound)) where
  in-running : s.phase ≡ Phase.running
  unfolding in_turn
  in-running = eqb-true s.phase Phase.running a.turn

  going : Going s
  going = still-going s day.course in-running

  fits : Fits s bound
  fits = grounds-fit s bound a.own

  limit : bound ≤ max_bound
  unfolding in_limits
  limit = leb-true bound max_bound a.limits

  -- what is kept of each store, the cold room with its new bound
  stock :
      (k : Kind)
      → StockedBy s.size (at s.parents) (terms_of (with_bound s bound) k) (at s.standings) (booked_in (books_of s) k)
  unfolding with_bound
  stock chilled =
      let kept = going.settled.good.stock chilled in
      record { sized = kept.sized; books = kept.books; within = fits.booked }

  -- the books are within it
  good : Good s.size (at s.parents) (rank_in s.activation) (terms_of (with_bound s bound)) (books_of s)
  good = record { sized = going.settled.good.sized; shape = going.settled.good.shape; stock = stock }

  not-fetched : is_fetched (happened ++ (bounded bound ∷ [])) ≡ false
  unfolding is_fetched
  not-fetched =
      fetched-append happened (bounded bound ∷ [])
      ∙ or-none (is_fetched happened)
      ∙ day.fetch
      ∙ ne_eqb s.phase Phase.over (λ q. let r = in-running in omega arith)

  pub places-in-day :
      InDay (obey s (places bound)).state (happened ++ (bounded bound ∷ map started (obey s (places bound)).started))
  unfolding obey with_bound
  places-in-day =
      let after = proceed (with_bound s bound) Phase.running (books_of s) no_peaks 0 in
      subst (λ (l : List Event). InDay after.state l) (append_assoc happened (bounded bound ∷ []) (map started after.started))
      (proceed-in-day (with_bound s bound) (bound-planned s bound limit fits.peak day.planned) (books_of s) no_peaks 0 good
      going.settled.staffed (happened ++ (bounded bound ∷ []))
      (bounded-logged s.size (at s.standings) happened bound day.logged)
      (bounded-in-order s.size (at s.parents) happened bound day.order) not-fetched going.unended)
