-- `end` meets its contract: three words are written.
use native.Mathlib.Omega.{arith}
use Rattle.dispatch.proofs.Cells.{head_read}
use Rattle.dispatch.proofs.Feeding.{end-written}
use Rattle.dispatch.proofs.end.Goals as goal

pub overflow_sub-active : goal.overflow_sub-active
overflow_sub-active c = let h = head_read c.args.plan.now.words in omega (arith, c.requires.some_run)

pub overflow_add-ended : goal.overflow_add-ended
overflow_add-ended c = let h = head_read c.args.plan.now.words in omega (arith, c.requires.ended_fits)

pub returns : goal.returns
returns c =
    end-written c.args.plan.now.words c.set_standing.new.self.words c.set_cell.new.self.words c.requires c.cell-active.ensures
    c.cell-ended.ensures c.set_standing.ensures c.set_cell.ensures c.set_cell-2.ensures
