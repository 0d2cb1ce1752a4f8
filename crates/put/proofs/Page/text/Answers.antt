-- Byte by byte, the whole text is put.
use Rattle.std.proofs.Common.{refl}
use Rattle.put.proofs.Pages.{nothing, turn}
use Rattle.put.proofs.Page.text.Goals as goal

pub loop-x-init : goal.loop-x-init
loop-x-init c = nothing _

pub loop-x-preserved : goal.loop-x-preserved
loop-x-preserved c = turn (λ l. l) (λ l x. refl) _ _ c.loop-x-test.true c.loop-x.invariant c.byte.ensures
