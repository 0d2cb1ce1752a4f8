-- `resize` meets its contract: a refusal, and a new bound.
use Rattle.std.proofs.Common.{sym}
use Rattle.std.proofs.lemmas.Result.{err_from_is_err_and}
use Rattle.words.specs.Contents.{contents}
use Rattle.answer.proofs.Obeying.{refusal, judged}
use Rattle.day.proofs.Resizing.{may-resize, resize-sound, resize-answers}
use Rattle.day.proofs.resize.resize.Goals as goal

pub returns-in_err-may_resize : goal.returns-in_err-may_resize
returns-in_err-may_resize c =
    let p = err_from_is_err_and c.from_residual.result c.from_residual.ensures.1 in
    rw (p.1, p.2) (refusal c.in_err-may_resize.field-0.0 c.requires.0.sound (sym c.in_err-may_resize.ensures) c.args.starts.now)

pub advance_within-started-requires : goal.advance_within-started-requires
advance_within-started-requires c =
    may-resize (contents c.args.plan.now.words) c.requires.0.reached c.requires.0.sound c.args.bound c.ranges.bound.fits
    (sym c.in_ok-may_resize.ensures) c.args.starts.now c.requires.1

pub returns : goal.returns
returns c =
    let w = c.args.plan.now.words in
    rw c.plain.ensures
    (judged (sym c.in_ok-may_resize.ensures)
    (resize-answers (contents w) c.requires.0.reached c.requires.0.sound c.args.bound c.ranges.bound.fits (sym c.in_ok-may_resize.ensures)
    c.advance_within-started.ensures c.args.used)
    (resize-sound (contents w) c.requires.0.reached c.requires.0.sound c.args.bound c.ranges.bound.fits (sym c.in_ok-may_resize.ensures)
    c.advance_within-started.ensures))
