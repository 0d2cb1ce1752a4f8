-- The nine pieces, one behind the other, are the definition's.
use Rattle.texts.specs.Text.{ascii, figures}
use Rattle.put.proofs.Pages.{◌then◌}
use Rattle.lines.proofs.tail.Figures.put.Goals as goal

pub returns : goal.returns
unfolding ascii figures
returns c =
    c.text.ensures
    then c.decimal.ensures
    then c.text-2.ensures
    then c.decimal-2.ensures
    then c.text-3.ensures
    then c.decimal-3.ensures
    then c.text-4.ensures
    then c.listed.ensures
    then c.byte.ensures
