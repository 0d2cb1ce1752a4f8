-- A dash for no task, and each task behind a space.
use Rattle.std.proofs.Common.{◌≡◌, refl, List, [], ◌∷◌, ℕ, length, arith}
use Rattle.std.proofs.lemmas.Bool.Decides.{nat_tests}
use Rattle.texts.specs.Text.{ascii, spaced, listed}
use Rattle.lines.proofs.tail.listed.Goals as goal

none : (list : List ℕ) → length list ≡ 0 → listed list ≡ ascii " -"
unfolding listed
none [] e = refl
none (i ∷ later) e = absurd (omega arith)

some : (list : List ℕ) → (length list ≡ 0 → ⊥) → listed list ≡ spaced list
unfolding listed
some [] filled = absurd (filled refl)
some (i ∷ later) filled = refl

pub returns-then-is_empty : goal.returns-then-is_empty
unfolding ascii
returns-then-is_empty c = rw (none c.args.tasks.now (grind (arith, nat_tests))) c.text.ensures

pub returns-else-is_empty : goal.returns-else-is_empty
returns-else-is_empty c = rw (some c.args.tasks.now (grind (arith, nat_tests))) c.spaced.ensures
