-- Which reason it is, as a number for other languages: in the order in which reasons are tried.
use Rattle.std.specs.Prelude.{ℕ}

abbrev pub refused : ℕ
refused = 0

abbrev pub ended : ℕ
ended = 1

abbrev pub running : ℕ
running = 2

abbrev pub not_booked : ℕ
not_booked = 3

abbrev pub unfed : ℕ
unfed = 4

abbrev pub no_processor : ℕ
no_processor = 5
