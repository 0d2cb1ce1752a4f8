-- `command` meets its contract: the start list is checked first, then what the bytes say is obeyed.
use Rattle.std.proofs.lemmas.Result.{err_from_is_err_and}
use Rattle.plan.proofs.Responding.{short-list, not-a-command, as-judged}
use Rattle.plan.proofs.obey.command.Goals as goal

pub returns-then-starts-lt-LEAST_STARTS : goal.returns-then-starts-lt-LEAST_STARTS
returns-then-starts-lt-LEAST_STARTS c =
    short-list c.args.plan.now.words (record { stream = c.args.stream.now; place = c.args.place; list = c.args.starts.now })
    c.requires c.if-starts-lt-LEAST_STARTS.true

pub returns-in_err-read : goal.returns-in_err-read
returns-in_err-read c =
    let p = err_from_is_err_and c.from_residual.result c.from_residual.ensures.1 in
    rw (p.1, p.2)
    (not-a-command c.args.plan.now.words (record { stream = c.args.stream.now; place = c.args.place; list = c.args.starts.now })
    c.in_err-read.field-0.0 c.requires c.if-starts-lt-LEAST_STARTS.false c.in_err-read.ensures)

pub returns : goal.returns
returns c = as-judged c.requires c.if-starts-lt-LEAST_STARTS.false c.in_ok-read.ensures c.obey.ensures
