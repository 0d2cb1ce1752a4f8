-- `may_resize` meets its contract: each way out knows what the tests before it said.
use Rattle.std.proofs.Common.{arith, sym}
use Rattle.refusal.proofs.Number.{some_number}
use Rattle.words.specs.Contents.{contents, store_contents}
use Rattle.words.proofs.Contents.{lengths}
use Rattle.day.proofs.Resizing.{resize-late, may-survey, fine, resize-high, resize-booked, resize-free}
use Rattle.words.proofs.Tests.{are-same, are-apart}
use Rattle.day.proofs.resize.may_resize.Goals as goal

pub returns-then-not-is_in : goal.returns-then-not-is_in
returns-then-not-is_in c =
    sym (resize-late (contents c.args.plan.now.words) c.args.bound (are-apart c.is_in.ensures c.if-not-is_in.true))

pub survey-requires : goal.survey-requires
survey-requires c =
    let w = c.args.plan.now.words in
    may-survey (contents w) (lengths w) c.requires.reached c.requires.sound (are-same c.is_in.ensures c.if-not-is_in.false)

-- a day has an order without a ground
pub returns-in_err-peak : goal.returns-in_err-peak
returns-in_err-peak c =
    let w = c.args.plan.now.words in
    let none = fine (contents w) (lengths w) c.requires.reached c.requires.sound (are-same c.is_in.ensures c.if-not-is_in.false) in
    absurd (omega (arith, none, c.in_err-peak.ensures.0, some_number c.in_err-peak.field-0.0))

pub returns-then-bound-peak : goal.returns-then-bound-peak
returns-then-bound-peak c =
    let w = c.args.plan.now.words in
    sym
    (resize-high (contents w) (lengths w) c.requires.reached c.requires.sound (are-same c.is_in.ensures c.if-not-is_in.false)
    c.args.bound c.ranges.bound.fits c.in_ok-peak.ensures.1 (omega (arith, c.if-bound-peak.true)))

pub returns-then-bound-cell : goal.returns-then-bound-cell
unfolding contents store_contents
returns-then-bound-cell c =
    let w = c.args.plan.now.words in
    sym
    (resize-booked (contents w) (lengths w) c.requires.reached c.requires.sound (are-same c.is_in.ensures c.if-not-is_in.false)
    c.args.bound c.ranges.bound.fits c.in_ok-peak.ensures.1 (omega (arith, c.if-bound-peak.false))
    (omega (arith, c.if-bound-cell.true, c.cell.ensures)))

pub returns : goal.returns
unfolding contents store_contents
returns c =
    let w = c.args.plan.now.words in
    sym
    (resize-free (contents w) (lengths w) c.requires.reached c.requires.sound (are-same c.is_in.ensures c.if-not-is_in.false)
    c.args.bound c.ranges.bound.fits c.in_ok-peak.ensures.1 (omega (arith, c.if-bound-peak.false))
    (omega (arith, c.if-bound-cell.false, c.cell.ensures)))
