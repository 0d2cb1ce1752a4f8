-- In each arm the byte is known, and its line of the table has the command and its bytes.
use Rattle.std.proofs.lemmas.Bool.{ne_eqb}
use Rattle.format.specs.Command.{forms, find, byte_of, operands_of, widths_of, little, littles, bytes}
use Rattle.cephlouk.specs.FlatCommand.{named, known}
use Rattle.cephlouk.proofs.command.ReadTryFromFlatCommand.try_from.Goals as goal

pub returns-in-1 : goal.returns-in-1
unfolding named known bytes byte_of operands_of widths_of find forms littles little
returns-in-1 c = rw c.in-1.is

pub returns-in-2 : goal.returns-in-2
unfolding named known bytes byte_of operands_of widths_of find forms littles little
returns-in-2 c = rw c.in-2.is

pub returns-in-3 : goal.returns-in-3
unfolding named known bytes byte_of operands_of widths_of find forms littles little
returns-in-3 c = rw c.in-3.is

pub returns-in-4 : goal.returns-in-4
unfolding named known bytes byte_of operands_of widths_of find forms littles little
returns-in-4 c = rw c.in-4.is

pub returns-in-5 : goal.returns-in-5
unfolding named known bytes byte_of operands_of widths_of find forms littles little
returns-in-5 c = rw c.in-5.is

pub returns-in-6 : goal.returns-in-6
unfolding named known bytes byte_of operands_of widths_of find forms littles little
returns-in-6 c = rw c.in-6.is

pub returns-in-7 : goal.returns-in-7
unfolding named known bytes byte_of operands_of widths_of find forms littles little
returns-in-7 c = rw c.in-7.is

pub returns-in-8 : goal.returns-in-8
unfolding named known bytes byte_of operands_of widths_of find forms littles little
returns-in-8 c = rw c.in-8.is

-- the byte is none of the arms': the last arm's fact stands outermost
pub returns-in_default : goal.returns-in_default
unfolding named known
returns-in_default c =
    let rest = c.in_default.in_default-own.rest in
    simp (
      ne_eqb _ _ rest.1,
      ne_eqb _ _ rest.0.1,
      ne_eqb _ _ rest.0.0.1,
      ne_eqb _ _ rest.0.0.0.1,
      ne_eqb _ _ rest.0.0.0.0.1,
      ne_eqb _ _ rest.0.0.0.0.0.1,
      ne_eqb _ _ rest.0.0.0.0.0.0.1,
      ne_eqb _ _ rest.0.0.0.0.0.0.0.1,
    )
