-- Each way leaves what the turn of the rules leaves.
use Rattle.refusal.proofs.Number.{some_number}
use Rattle.std.proofs.Common.{arith, refl}
use Rattle.printing.proofs.Taking.{waiting, ending, refusing, accepting, of-read, accepted-read}
use Rattle.printing.proofs.turn.Goals as goal

-- more input is waited for
pub returns-then-is_awaited : goal.returns-then-is_awaited
returns-then-is_awaited c =
    waiting _ _ _ _ c.decode-asked.ensures _ c.requires c.is_awaited.ensures c.if-is_awaited.true c.idle.ensures

-- the input has ended between commands
pub returns-then-part-place : goal.returns-then-part-place
returns-then-part-place c =
    ending _ _ _ _ c.decode-asked.ensures _ c.requires c.is_awaited.ensures c.if-is_awaited.false c.if-part-place.true
    c.idle-then-part-place.ensures

-- the command is refused
pub returns-in-Err : goal.returns-in-Err
returns-in-Err c =
    let line = rw c.from.ensures at c.refused_line.ensures in
    refusing _ _ _ _ c.decode-asked.ensures c.is_awaited.ensures c.if-is_awaited.false c.if-part-place.false c.in-Err.ensures
    (λ e. let h = some_number c.in-Err.refusal in omega arith) line

-- it is accepted
pub unwrap-read-requires : goal.unwrap-read-requires
unwrap-read-requires c = accepted-read c.decode-asked.result c.decode-asked.ensures c.in-Ok.ensures

pub returns-in-Ok : goal.returns-in-Ok
returns-in-Ok c =
    let line = rw (← of-read _ c.unwrap-read.ensures) at c.accepted_line.ensures in
    accepting _ _ _ _ c.decode-asked.ensures c.is_awaited.ensures c.if-is_awaited.false c.if-part-place.false c.in-Ok.ensures
    c.requires refl line
