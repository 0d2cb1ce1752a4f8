-- Streams worked out: plan A's.
use mathlib.Core.Path.{◌≡◌, refl}
use mathlib.Core.List.{[], ◌∷◌}
use lib.ListN.{take}
use Rattle.streams.specs.Stream.{run, run_from, read_in, prepend, stopped}
use Rattle.worked.specs.Marked.{day_a}
use Rattle.worked.proofs.Computing.{computing}

-- plan A's stream of 58 bytes is accepted whole; cut in its last report, the command at 54 is refused, with 1
pub run-A : (run day_a).place ∷ (run day_a).number ∷ [] ≡ 58 ∷ 0 ∷ []
unfolding computing day_a run run_from read_in prepend stopped
run-A = refl

pub run-A-cut : (run (take 56 day_a)).place ∷ (run (take 56 day_a)).number ∷ [] ≡ 54 ∷ 1 ∷ []
unfolding computing day_a run run_from read_in prepend stopped
run-A-cut = refl
