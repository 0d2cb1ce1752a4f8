-- The peak of an activation order with its task, over the tasks alone, and what an order must be.
use Rattle.std.specs.Prelude.{◌≡◌, Bool, true, ◌&&◌, ◌||◌, List, [], ◌∷◌, ℕ, ◌+◌, eqb}
use Rattle.numbers.specs.Lists.{at, mem, place, largest}
use Rattle.tree.specs.Need.{need, resident}

-- "While a step runs, the cold room holds its need, plus the outs of steps already ended whose parent has neither run nor is
-- running": the sum at x, where those of `ended` have run already
abbrev pub sum_at : (n : ℕ) (par work out : ℕ → ℕ) → List ℕ → ℕ → ℕ
sum_at n par work out ended x =
    need n par work out x + resident n par out (λ i. mem i ended) (λ i. mem i (x ∷ ended))

-- "Run the steps one at a time in that order": the sums, one after another
unfoldable pub sums : (n : ℕ) (par work out : ℕ → ℕ) (ended order : List ℕ) → List ℕ
sums n par work out ended [] = []
sums n par work out ended (x ∷ later) = sum_at n par work out ended x ∷ sums n par work out (x ∷ ended) later

-- "The peak is the largest of these n sums."
unfoldable pub peak : (n : ℕ) (par work out : ℕ → ℕ) → List ℕ → ℕ
peak n par work out order = largest (sums n par work out [] order)

-- its step, "the earliest in the activation order where several are equal": it stands where the peak first stands among the sums; 0
-- for no order
unfoldable pub peak_task : (n : ℕ) (par work out : ℕ → ℕ) → List ℕ → ℕ
peak_task n par work out order = at order (place (peak n par work out order) (sums n par work out [] order))

-- "The peak shall always come with its step"
pub record Peaked : Type 0 where
  pub trays : ℕ
  pub task : ℕ

unfoldable pub peaked : (n : ℕ) (par work out : ℕ → ℕ) → List ℕ → Peaked
peaked n par work out order =
    record { trays = peak n par work out order; task = peak_task n par work out order }

-- "Where no peak is answered, the step is 0"
abbrev pub no_peak : Peaked
no_peak = record { trays = 0; task = 0 }
