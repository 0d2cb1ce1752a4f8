-- "In the running phase a step is waiting, booked, running or ended."
use Rattle.std.specs.Prelude.{List, [], ◌∷◌, ℕ, eqb}
use Rattle.numbers.specs.Sums.{count_to}

abbrev pub waiting : ℕ
waiting = 0

-- booked
abbrev pub activated : ℕ
activated = 1

abbrev pub running : ℕ
running = 2

-- ended
abbrev pub finished : ℕ
finished = 3

-- how many of the tasks 1 to n have a standing
unfoldable pub count : (n : ℕ) (st : ℕ → ℕ) → ℕ → ℕ
count n st which = count_to (λ i. eqb (st i) which) n

-- "The standing of the day is four counts, waiting, booked, running, ended"
unfoldable pub counts : (n : ℕ) (st : ℕ → ℕ) → List ℕ
counts n st = count n st waiting ∷ count n st activated ∷ count n st running ∷ count n st finished ∷ []
