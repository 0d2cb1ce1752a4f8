-- `is_whole` meets its contract: the three tests are those of the rules, by what the head counts.
use Rattle.std.proofs.Common.{◌≡◌, ap₂, sym, not, ◌&&◌, ℕ, List, eqb, ◌∙◌}
use Rattle.rules.specs.Phase
use Rattle.streams.specs.Write.{is_whole}
use Rattle.words.specs.Contents.{contents}
use Rattle.words.proofs.Contents.{lengths}
use Rattle.answer.specs.Meaning.{plan_of}
use Rattle.answer.specs.ValidPlan.{ValidPlan}
use Rattle.answer.proofs.Meant.{ranked-length, placed-length}
use Rattle.writer.proofs.is_whole.Goals as goal
use Rattle.writer.proofs.is_whole.Goals.{then-not-is_in, else-not-is_in}

counted :
    (w : List ℕ)
    → ValidPlan w
    → is_whole (plan_of w)
    ≡ (not (eqb (contents w).phase Phase.empty) && eqb (contents w).ranked (contents w).size && eqb (contents w).placed (contents w).size)
unfolding is_whole
counted w valid =
    ap₂
    (λ (a b : ℕ). not (eqb (contents w).phase Phase.empty) && eqb a (contents w).size && eqb b (contents w).size)
    (ranked-length (contents w) valid.sound (lengths w))
    (placed-length (contents w) valid.sound (lengths w))

pub returns-then-is_complete : goal.returns-then-is_complete
unfolding contents
returns-then-is_complete c =
    elim c.if-not-is_in.branch [
      | then-not-is_in w ↦ rw (counted _ c.requires, ← c.is_in.ensures, w.if-not-is_in.true, ← w.is_complete.ensures, ← w.value-is, c.if-is_complete.true) c.is_complete-then-is_complete.ensures
      | else-not-is_in w ↦ absurd (cc)
    ]

pub returns-else-is_complete : goal.returns-else-is_complete
unfolding contents
returns-else-is_complete c =
    elim c.if-not-is_in.branch [
      | then-not-is_in w ↦ rw (counted _ c.requires, ← c.is_in.ensures, w.if-not-is_in.true, ← w.is_complete.ensures, ← w.value-is, c.if-is_complete.false)
      | else-not-is_in w ↦ rw (w.value-is, counted _ c.requires, ← c.is_in.ensures, w.if-not-is_in.false)
    ]
