-- Each task more stands behind a space.
use Rattle.std.proofs.Common.{◌≡◌, refl, List, [], ◌∷◌, ◌++◌, ℕ, append_assoc, append-nil}
use Rattle.texts.specs.Text.{ascii, spaced}
use Rattle.put.proofs.Pages.{nothing, turn, ◌then◌}
use Rattle.lines.proofs.tail.spaced.Goals as goal

-- one task more
grows : (list : List ℕ) (i : ℕ) → spaced (list ++ (i ∷ [])) ≡ spaced list ++ spaced (i ∷ [])
unfolding spaced
grows [] i = refl
grows (j ∷ later) i = rw (grows later i) (simp append_assoc)

pub loop-task-init : goal.loop-task-init
unfolding spaced
loop-task-init c = nothing _

pub loop-task-preserved : goal.loop-task-preserved
unfolding ascii spaced
loop-task-preserved c =
    turn spaced grows _ _ c.loop-task-test.true c.loop-task.invariant
    (rw append-nil (c.byte.ensures then c.decimal.ensures))
