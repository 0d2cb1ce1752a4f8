-- "Phases: empty, steps, orders, running, over", and "a new one, ready", between running and over. It has the next number, so that
-- those before it stay; from `running` on a plan is in its day.
use Rattle.std.specs.Prelude.{Bool, ◌||◌, ℕ, eqb}

abbrev pub empty : ℕ
empty = 0

abbrev pub steps : ℕ
steps = 1

abbrev pub orders : ℕ
orders = 2

abbrev pub running : ℕ
running = 3

abbrev pub over : ℕ
over = 4

abbrev pub ready : ℕ
ready = 5

-- from BEGIN to FETCH: trays of the plan may lie in the cold room
unfoldable pub holds_trays : ℕ → Bool
holds_trays phase = eqb phase running || eqb phase ready
