-- A piece of a text, put into a buffer from a place on.
use Rattle.std.specs.Prelude.{◌≡◌, List, ◌++◌, ℕ, ◌+◌, ◌-◌, min, length, take, drop}
use Rattle.put.specs.Written.{over}

-- the entries ahead of the place stay
unfoldable pub over_from : ℕ → List ℕ → List ℕ → List ℕ
over_from place text buffer = take place buffer ++ over text (drop place buffer)

-- the place behind what there was room for
abbrev pub behind : ℕ → List ℕ → List ℕ → ℕ
behind place text buffer = place + min (length text) (length buffer - place)

-- the buffer before and after, and the place of the next piece
pub record Put (text : List ℕ) (place : ℕ) (before after : List ℕ) (next : ℕ) : Type 0 where
  pub bytes : after ≡ over_from place text before
  pub ends : next ≡ behind place text before
