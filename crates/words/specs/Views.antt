-- Words of an array as lists.
use Rattle.std.specs.Prelude.{List, [], ◌∷◌, ℕ, zero, suc, ◌+◌, ◌*◌}
use Rattle.numbers.specs.Lists.{at}
use Rattle.words.specs.Layout.{row, rows}

-- f 0, f 1, .., so many of them
unfoldable pub tabulate : ℕ → (ℕ → ℕ) → List ℕ
tabulate zero f = []
tabulate (suc count) f = f 0 ∷ tabulate count (λ i. f (suc i))

-- so many words as a list, with the word of each entry
unfoldable pub view : ℕ → (ℕ → ℕ) → List ℕ → List ℕ
view count word w = tabulate count (λ i. at w (word i))

-- a column: entry i is the word of row i
abbrev pub column : ℕ → List ℕ → List ℕ
column k w = view rows (λ i. row * i + k) w

-- so many words on end
abbrev pub part : ℕ → ℕ → List ℕ → List ℕ
part base count w = view count (λ i. base + i) w
