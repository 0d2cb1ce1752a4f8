-- `contains` meets its contract: each way out knows what the test of the noted place said.
use Rattle.std.proofs.Common.{arith}
use Rattle.ordering.proofs.Ordering.{contains-not, contains-there}
use Rattle.ordering.proofs.contains.Goals as goal

pub returns-then-count-place : goal.returns-then-count-place
returns-then-count-place c = contains-not c.requires c.cell-place.result (rw c.column.ensures at c.cell-place.ensures) c.if-count-place.true

pub returns : goal.returns
returns c =
    contains-there c.requires c.cell-place.result c.entry.result (rw c.column.ensures at c.cell-place.ensures)
    (λ h. let l = c.if-count-place.false in omega arith) (rw c.base.ensures at c.entry.ensures)
