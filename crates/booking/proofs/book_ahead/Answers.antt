-- `book_ahead` meets its contract.
use mathlib.Core.Path.{sym, ◌∙◌}
use native.Mathlib.Omega.{arith}
use Rattle.words.specs.Contents.{contents}
use Rattle.words.proofs.Contents.{lengths}
use Rattle.booking.proofs.Ahead.{ahead-first, ahead-end, ahead-stop, ahead-next}
use Rattle.booking.proofs.book_ahead.Goals as goal

pub loop-next-init : goal.loop-next-init
unfolding contents
loop-next-init c = ahead-first c.requires c.cell-first.ensures

pub book_next-requires : goal.book_next-requires
unfolding contents
book_next-requires c =
    let s = c.loop-next.invariant.same.size in
    record { kept = c.loop-next.invariant.kept; here = c.loop-next.invariant.here; more = omega arith }

pub loop-next-preserved : goal.loop-next-preserved
unfolding contents
loop-next-preserved c =
    let s = c.loop-next.invariant.same.size in
    ahead-next c.loop-next.invariant (lengths c.loop-next.plan.words) (omega arith)
    (sym c.book_next.ensures.tested ∙ c.if-not-book_next.false) (c.book_next.ensures.booked c.if-not-book_next.false)

pub returns-after-loop-next : goal.returns-after-loop-next
unfolding contents
returns-after-loop-next c =
    let s = c.loop-next.invariant.same.size in
    ahead-end c.loop-next.invariant (omega arith)

pub returns-then-not-book_next : goal.returns-then-not-book_next
unfolding contents
returns-then-not-book_next c =
    let s = c.loop-next.invariant.same.size in
    rw (c.book_next.ensures.stays c.if-not-book_next.true)
    (ahead-stop c.loop-next.invariant (lengths c.loop-next.plan.words) (omega arith)
    (sym c.book_next.ensures.tested ∙ c.if-not-book_next.true))
