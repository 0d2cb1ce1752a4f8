-- What the words keep of a running plan, as the rules ask for it.
use mathlib.Core.Path.{◌≡◌, sym, ap, ap₂, ◌∙◌}
use Prim.Native.Nat.{ℕ}
use lib.Dec.{eqb}
use Rattle.numbers.specs.Sums.{Task, lowest_to}
use Rattle.numbers.specs.Lists.{at}
use Rattle.rules.specs.Phase
use Rattle.books.specs.Booking.{is_unended_child, fed}
use Rattle.whys.specs.Why.{unended_child}
use Rattle.words.specs.Contents.{Contents}
use Rattle.store.proofs.Unended.{fed-is}
use Rattle.answer.specs.Meaning.{meaning}
use Rattle.answer.specs.Sound.{Sound}
use Rattle.answer.proofs.Meant.{in-running, cached-now, parents-meant, standings-rows, standings-meant}

module _ (c : Contents) (sound : Sound c) (now : c.phase ≡ Phase.running) where
  -- the lowest-numbered child that has not ended
  pub child-kept :
      (i : ℕ) → lowest_to (is_unended_child (at c.parents) (at c.standings) i) c.size ≡ unended_child (meaning c) i
  unfolding unended_child
  child-kept i =
      ap₂ (λ (par st : ℕ → ℕ). lowest_to (is_unended_child par st i) c.size) (sym (parents-meant c sound))
      (sym (standings-meant c sound now))

  -- the children of a task that have not ended are counted
  pub fed-kept :
      (i : ℕ) → Task c.size i → fed c.size (at (meaning c).parents) (at (meaning c).standings) i ≡ eqb (at c.unended i) 0
  fed-kept i t =
      rw (parents-meant c sound, standings-rows c sound (in-running c sound now))
      (fed-is c.size (at c.parents) _ i ∙ ap (λ (v : ℕ). eqb v 0) (sym ((cached-now c sound now).counted i t)))
