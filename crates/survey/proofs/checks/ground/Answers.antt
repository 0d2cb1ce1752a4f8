-- The checks are done in their order.
use Rattle.std.proofs.Common.{sym, ◌∙◌}
use Rattle.survey.proofs.Grounds.{ground-roots, ground-late, ground-none}
use Rattle.survey.proofs.checks.ground.Goals as goal

pub returns-then-roots-ne1 : goal.returns-then-roots-ne1
returns-then-roots-ne1 c = ground-roots _ _ _ (λ one. c.if-roots-ne1.true (c.roots.ensures ∙ one))

pub returns-then-late-ne0 : goal.returns-then-late-ne0
returns-then-late-ne0 c =
    ground-late _ _ _ _ c.requires.parented c.requires.ranked (sym c.roots.ensures ∙ c.if-roots-ne1.false)
    (λ none. c.if-late-ne0.true (c.late.ensures ∙ none))

pub returns : goal.returns
returns c =
    ground-none _ _ _ _ c.requires.parented c.requires.ranked (sym c.roots.ensures ∙ c.if-roots-ne1.false)
    (sym c.late.ensures ∙ c.if-late-ne0.false)
