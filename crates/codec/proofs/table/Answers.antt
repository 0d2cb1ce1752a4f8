-- In each arm the byte is known, and what the callees ensure is its line of the rules' table.
use Rattle.std.proofs.Common.{sym, arith}
use Rattle.std.proofs.lemmas.Grind.{common_steps}
use Rattle.format.specs.Command.{forms, find}
use Rattle.codec.proofs.Lines.{plan-line, task-line, activation-line, execution-line, begin-line, done-line, fetch-line, places-line, no_line}
use Rattle.codec.proofs.table.Goals as goal

pub returns-in-1 : goal.returns-in-1
returns-in-1 c =
    rw (c.in-1.is, plan-line)
    (rw (
      c.number.ensures.lowest_first,
      c.number-in-1.ensures.lowest_first,
      c.after.ensures,
      c.number-in-1-2.ensures.lowest_first,
      c.after-in-1.ensures,
    ) at c.whole.ensures)

pub returns-in-2 : goal.returns-in-2
returns-in-2 c =
    rw (c.in-2.is, task-line)
    (rw (
      c.number-in-2.ensures.lowest_first,
      c.number-in-2-2.ensures.lowest_first,
      c.after-in-2.ensures,
      c.number-in-2-3.ensures.lowest_first,
      c.after-in-2-2.ensures,
    ) at c.whole-in-2.ensures)

pub returns-in-3 : goal.returns-in-3
returns-in-3 c = rw (c.in-3.is, activation-line) (rw c.number-in-3.ensures.lowest_first at c.whole-in-3.ensures)

pub returns-in-4 : goal.returns-in-4
returns-in-4 c = rw (c.in-4.is, execution-line) (rw c.number-in-4.ensures.lowest_first at c.whole-in-4.ensures)

pub returns-in-5 : goal.returns-in-5
returns-in-5 c = rw (c.in-5.is, begin-line) c.whole-in-5.ensures

pub returns-in-6 : goal.returns-in-6
returns-in-6 c = rw (c.in-6.is, done-line) (rw c.number-in-6.ensures.lowest_first at c.whole-in-6.ensures)

pub returns-in-7 : goal.returns-in-7
returns-in-7 c = rw (c.in-7.is, fetch-line) c.whole-in-7.ensures

pub returns-in-8 : goal.returns-in-8
returns-in-8 c = rw (c.in-8.is, places-line) (rw c.number-in-8.ensures.lowest_first at c.whole-in-8.ensures)

-- the byte is none of the arms': the last arm's fact stands outermost
pub returns-in_default : goal.returns-in_default
unfolding forms find
returns-in_default c = sym (no_line _ _ (grind (arith, common_steps)))
