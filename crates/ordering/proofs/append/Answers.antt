-- `append` meets its contract: refused by its ground, or written.
use Rattle.std.proofs.Common.{sym}
use Rattle.std.proofs.lemmas.Result.{err_from_is_err_and}
use Rattle.ordering.proofs.Ordering.{append-may}
use Rattle.ordering.proofs.Appending.{order-at, refuses-next, takes-next}
use Rattle.ordering.proofs.append.Goals as goal

pub may_append-requires : goal.may_append-requires
may_append-requires c = order-at c.args.plan.now.words c.requires.sound c.args.task c.args.order

pub returns-in_err-may_append : goal.returns-in_err-may_append
returns-in_err-may_append c =
    let p = err_from_is_err_and c.from_residual.result c.from_residual.ensures.1 in
    rw (p.1, p.2)
    (refuses-next c.args.plan.now.words c.requires.sound c.args.task c.args.order c.in_err-may_append.field-0.0 c.in_err-may_append.ensures)

pub write_next-requires : goal.write_next-requires
write_next-requires c =
    append-may (order-at c.args.plan.now.words c.requires.sound c.args.task c.args.order) (sym c.in_ok-may_append.ensures)

pub returns : goal.returns
returns c =
    takes-next c.args.plan.now.words c.requires.sound c.args.task c.args.order (sym c.in_ok-may_append.ensures) c.write_next.ensures c.plain.ensures
