-- What a writer holds where not all that was to be written has been.
use Rattle.std.specs.Prelude.{List, ℕ, ◌≤◌, length, take, Option}
use Rattle.std.specs.Io.KnownBytes.{Appends}

-- the first bytes of a text, as many as there may be of it, stand behind what the writer held
abbrev pub WritesFront : List ℕ → Option (List ℕ) → Option (List ℕ) → Type 0
WritesFront text held holds = (n : ℕ) × (n ≤ length text) × Appends held holds (take n text)
