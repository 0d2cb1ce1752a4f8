-- `complete` meets its contract: the activation order is copied where no 04 was given.
use Rattle.std.proofs.Common.{sym, ◌∙◌}
use Rattle.streams.proofs.OneOrder.{in-turn-alone}
use Rattle.words.specs.Contents.{contents}
use Rattle.words.proofs.Contents.{lengths}
use Rattle.answer.specs.Meaning.{plan_of}
use Rattle.answer.proofs.Meant.{placed-length}
use Rattle.ordering.proofs.Copying.{complete-given}
use Rattle.ordering.proofs.complete.Goals as goal

pub copy_activation-requires : goal.copy_activation-requires
unfolding contents
copy_activation-requires c =
    let w = c.args.plan.now.words in (
      c.requires.0,
      in-turn-alone (plan_of w) c.requires.1
          (placed-length (contents w) c.requires.0.sound (lengths w) ∙ sym c.cell.ensures ∙ c.if-cell-eq0.true),
    )

pub returns-else-cell-eq0 : goal.returns-else-cell-eq0
unfolding contents
returns-else-cell-eq0 c = complete-given c.requires.0 (λ e. c.if-cell-eq0.false (c.cell.ensures ∙ e))
