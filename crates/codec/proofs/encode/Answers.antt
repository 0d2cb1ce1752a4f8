-- In each arm the command is known, and the pieces, one behind the other, are its bytes.
use Rattle.format.specs.Command.{forms, find, byte_of, operands_of, widths_of, little, littles, bytes}
use Rattle.put.proofs.Pages.{◌then◌}
use Rattle.codec.proofs.encode.Goals as goal

pub returns-in-Plan : goal.returns-in-Plan
unfolding bytes byte_of operands_of widths_of find forms littles little
returns-in-Plan c = rw c.in-Plan.is (c.start.ensures then c.little.ensures then c.little-in-Plan.ensures)

pub returns-in-Task : goal.returns-in-Task
unfolding bytes byte_of operands_of widths_of find forms littles little
returns-in-Task c =
    rw c.in-Task.is (c.start-in-Task.ensures then c.little-in-Task.ensures then c.little-in-Task-2.ensures)

pub returns-in-Activation : goal.returns-in-Activation
unfolding bytes byte_of operands_of widths_of find forms littles little
returns-in-Activation c = rw c.in-Activation.is c.start-in-Activation.ensures

pub returns-in-Execution : goal.returns-in-Execution
unfolding bytes byte_of operands_of widths_of find forms littles little
returns-in-Execution c = rw c.in-Execution.is c.start-in-Execution.ensures

pub returns-in-Begin : goal.returns-in-Begin
unfolding bytes byte_of operands_of widths_of find forms littles little
returns-in-Begin c = rw c.in-Begin.is c.byte.ensures

pub returns-in-Done : goal.returns-in-Done
unfolding bytes byte_of operands_of widths_of find forms littles little
returns-in-Done c = rw c.in-Done.is c.start-in-Done.ensures

pub returns-in-Fetch : goal.returns-in-Fetch
unfolding bytes byte_of operands_of widths_of find forms littles little
returns-in-Fetch c = rw c.in-Fetch.is c.byte-in-Fetch.ensures

pub returns-in-Places : goal.returns-in-Places
unfolding bytes byte_of operands_of widths_of find forms littles little
returns-in-Places c = rw c.in-Places.is (c.byte-in-Places.ensures then c.little-in-Places.ensures)
