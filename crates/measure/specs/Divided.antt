-- A number of trays, divided by the bound.
use Rattle.std.specs.Prelude.{ℕ, ◌+◌, ◌*◌}
use Rattle.measure.specs.declared.thousandths.Divided.{Divided}

-- how many trays a quotient and a remainder make
abbrev pub amount : ℕ → Divided → ℕ
amount bound trays = trays.quotient * bound + trays.remainder
