-- What may be asked of a plan at any time.
use Rattle.std.specs.Prelude.{Bool, false, cond, ◌||◌, List, [], ◌∷◌, ℕ, ◌*◌, ◌/◌, eqb, leb}
use Rattle.books.specs.Kind.{Kind, chilled}
use Rattle.numbers.specs.Lists.{at}
use Rattle.numbers.specs.Sums.{only}
use Rattle.rules.specs.Phase
use Rattle.books.specs.Standing
use Rattle.tree.specs.Tasks
use Rattle.rules.specs.State.{State, store_of, tasks_in}
use Rattle.books.specs.Booking.{total}

-- the plan is in the running phase
unfoldable pub is_running : State → Bool
is_running s = eqb s.phase Phase.running

-- "Booked trays, trays in use and fullness can be asked of the plan at any time, and are 0 outside running"; they "are answered in
-- ready as in running"
unfoldable pub booked_in : State → Kind → ℕ
booked_in s k = only (Phase.holds_trays s.phase) (total s.size (at (store_of s k).booked))

-- where it is answered, the trolley is not fetched yet
unfoldable pub in_use_in : State → Kind → ℕ
in_use_in s k =
    only (Phase.holds_trays s.phase)
    (Tasks.in_use (tasks_in s (store_of s k))
    (λ i. eqb (at s.standings i) Standing.finished)
    (λ i. eqb (at s.standings i) Standing.running || eqb (at s.standings i) Standing.finished) false)

-- of the cold room
abbrev pub booked : State → ℕ
booked s = booked_in s chilled

abbrev pub in_use : State → ℕ
in_use s = in_use_in s chilled

-- "Fullness of b in M, both 32-bit: 0 if M is 0; 1,000 if b is at least M; else 1,000 times b divided by M, rounded down"
unfoldable pub fullness_of : ℕ → ℕ → ℕ
fullness_of b bound = cond (eqb bound 0) 0 (cond (leb bound b) 1000 (1000 * b / bound))

unfoldable pub fullness : State → ℕ
fullness s = only (Phase.holds_trays s.phase) (fullness_of (booked s) s.stores.chilled.bound)

-- "four counts, waiting, booked, running, ended; four zeros outside running and over"; "ready shows the same standing as over"
unfoldable pub standing : State → List ℕ
standing s =
    cond (Phase.holds_trays s.phase || eqb s.phase Phase.over) (Standing.counts s.size (at s.standings))
    (0 ∷ 0 ∷ 0 ∷ 0 ∷ [])
