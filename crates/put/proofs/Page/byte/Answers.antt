-- A byte where there is room for it, and where there is none.
use Rattle.std.proofs.Common.{refl}
use Rattle.put.proofs.Pieces.{byte-in, byte-out}
use Rattle.put.proofs.Page.byte.Goals as goal
use Rattle.put.proofs.Page.byte.Goals.{then-place-self, else-place-self}

pub returns : goal.returns
returns c =
    elim c.if-place-self.branch [
      | then-place-self w ↦ rw (w.self-is, w.next-is) (record { same_buffer = refl; piece = byte-in _ _ _ w.if-place-self.true })
      | else-place-self w ↦ rw (w.self-is, w.next-is) (record { same_buffer = refl; piece = byte-out _ _ _ w.if-place-self.false })
    ]
