-- `hold_alone` meets its contract: one word of a row and two of the head are written.
use mathlib.Core.Path.{refl}
use Rattle.words.specs.Layout.{kind_at}
use Rattle.store.specs.Store.{with_store, with_holdings, held_alone}
use Rattle.store.proofs.Writing.{holds, total-written, used-written, booked-written}
use Rattle.store.proofs.Store.hold_alone.Goals as goal

pub returns : goal.returns
unfolding with_store with_holdings held_alone
returns c =
    let here = c.requires in
    let units = c.args.units in
    (used-written
    (total-written
    (booked-written (holds _ (kind_at c.args.self.offset) here.long) here.offset units refl c.args.task here.task_in c.set_cell.ensures)
    here.offset units refl c.set_cell-2.ensures)
    here.offset units refl c.set_cell-3.ensures).same
