-- Where the code stands in the input, in the rules.
use Rattle.std.specs.Prelude.{ℕ, ◌+◌, ◌-◌, ◌≤◌}
use Rattle.texts.specs.Printer as rules
use Rattle.position.specs.declared.Position.{Position}

abbrev pub position_of : Position → rules.Position
position_of x =
    record { place = x.place; filled = x.filled; offset = x.offset; is_last = x.is_last }

-- the next command is among the bytes at hand, these are in a buffer of some size, and their offsets can be counted
pub record Stands (x : Position) (size : ℕ) : Type 0 where
  pub at_hand : x.place ≤ x.filled
  pub in_buffer : x.filled ≤ size
  pub counted : x.offset + (x.filled - x.place) ≤ rules.max_offset
