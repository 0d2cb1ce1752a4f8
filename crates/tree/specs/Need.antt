-- What a task needs, and what lies in a store while tasks run. A store is left open: `work` and `out` are its counts.
use Rattle.std.specs.Prelude.{Bool, not, ◌&&◌, ℕ, ◌+◌, eqb}
use Rattle.numbers.specs.Sums.{only, sum_to}
use Rattle.tree.specs.Tree.{children}

-- "Need of a step = the outs of its children + its work + its out."
unfoldable pub need : (n : ℕ) (par work out : ℕ → ℕ) → ℕ → ℕ
need n par work out i = children n par out i + work i + out i

-- the outs of ended tasks whose parent has not begun: neither run nor running, so waiting or booked. The root has no parent
unfoldable pub resident : (n : ℕ) (par out : ℕ → ℕ) (ended begun : ℕ → Bool) → ℕ
resident n par out ended begun =
    sum_to (λ i. only (ended i && not (eqb (par i) 0) && not (begun (par i))) (out i)) n

-- "the needs of running steps + the outs of ended steps whose parent is waiting or booked": begun says which tasks have started, ended
-- which have ended, and a task runs in between
unfoldable pub in_process : (n : ℕ) (par work out : ℕ → ℕ) (ended begun : ℕ → Bool) → ℕ
in_process n par work out ended begun =
    sum_to (λ i. only (begun i && not (ended i)) (need n par work out i)) n + resident n par out ended begun

-- the loaded trolley: "When the root ends, its out remains booked and in use", until it is fetched
unfoldable pub trolley : (n : ℕ) (par out : ℕ → ℕ) (ended : ℕ → Bool) (fetched : Bool) → ℕ
trolley n par out ended fetched = only (not fetched) (sum_to (λ i. only (ended i && eqb (par i) 0) (out i)) n)

-- trays in use, "reckoned from the starts, the ends and the fetch"
unfoldable pub in_use : (n : ℕ) (par work out : ℕ → ℕ) (ended begun : ℕ → Bool) (fetched : Bool) → ℕ
in_use n par work out ended begun fetched = in_process n par work out ended begun + trolley n par out ended fetched
