-- `has_room` meets its contract: what is booked is within the bound, so that both tests say the same.
use mathlib.Core.Path.{sym, ◌∙◌}
use mathlib.Core.Logic.{⊎_elim}
use Prim.Native.Nat.{◌+◌, ◌-◌}
use native.Mathlib.Omega.{arith}
use borrow.Author.Tests.{le-leb, lt-leb}
use Rattle.numbers.proofs.Tests.{le-or-lt}
use Rattle.words.specs.Contents.{contents}
use Rattle.store.specs.Store.{store_at}
use Rattle.store.proofs.Writing.{head_at}
use Rattle.store.proofs.Store.has_room.Goals as goal

pub overflow_sub-result : goal.overflow_sub-result
overflow_sub-result c = let r = head_at c.args.plan.now.words c.requires.0.offset in omega arith

pub returns : goal.returns
returns c =
    let r = head_at c.args.plan.now.words c.requires.0.offset in
    let was = store_at c.args.self.offset (contents c.args.plan.now.words) in
    let left = c.cell-bound.result - c.cell-total.result in
    ⊎_elim (λ h. le-leb c.args.units left h ∙ sym (le-leb (was.total + c.args.units) was.bound (omega arith)))
    (λ h. lt-leb c.args.units left h ∙ sym (lt-leb (was.total + c.args.units) was.bound (omega arith)))
    (le-or-lt c.args.units left)
