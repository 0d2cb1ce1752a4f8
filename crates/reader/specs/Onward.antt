-- "how far it has come"
use Rattle.std.specs.Prelude.{List, ℕ, ◌+◌, min, length}

-- "It moves on by the bytes used", never past the end
unfoldable pub onward : List ℕ → ℕ → ℕ → ℕ
onward stream place used = min (place + used) (length stream)
