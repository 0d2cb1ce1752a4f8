-- The first bytes are put.
use Rattle.std.proofs.Common.{take}
use Rattle.put.specs.Pages.{Puts}
use Rattle.put.proofs.Page.text.Given as goal

abbrev pub invariant-loop-x : goal.invariant-loop-x
invariant-loop-x l = Puts (take l.x-index l.bytes) l.initial.self l.self
