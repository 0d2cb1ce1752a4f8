-- The digits of the tenth part, where there is one, and then the last digit.
use Rattle.put.proofs.Digits.{one-digit, more-digits}
use Rattle.put.proofs.Pages.{◌then◌}
use Rattle.put.proofs.Page.+decimal.Goals as goal
use Rattle.put.proofs.Page.+decimal.Goals.{then-x-ge10, else-x-ge10}

pub returns : goal.returns
returns t c =
    elim c.if-x-ge10.branch [
      | then-x-ge10 w ↦ rw (more-digits _ w.if-x-ge10.true) (w.decimal.ensures then (rw w.self-is at c.byte.ensures))
      | else-x-ge10 w ↦ rw (one-digit _ w.if-x-ge10.false) (rw w.self-is at c.byte.ensures)
    ]
