-- `begin` meets its contract.
use Rattle.std.proofs.Common.{arith, refl, sym, ◌∙◌}
use Rattle.std.proofs.lemmas.Result.{err_from_is_err_and}
use Rattle.refusal.specs.declared.Refusal.TheVariants.{OutOfTurn, PeakAboveBound}
use Rattle.refusal.proofs.Number.{some_number}
use Rattle.words.specs.Contents.{contents, store_contents}
use Rattle.words.proofs.Contents.{lengths}
use Rattle.answer.proofs.Obeying.{refusal, judged}
use Rattle.day.proofs.Beginning.{begin-late, in-turn, may-survey, surveyed-refused, no-order-ground, high_is, too-high, low-enough, may-begin, begin-sound, begin-answers}
use Rattle.day.proofs.begin.begin.Goals as goal

pub returns-then-not-is_in_turn : goal.returns-then-not-is_in_turn
returns-then-not-is_in_turn c =
    let w = c.args.plan.now.words in
    refusal OutOfTurn c.requires.0.sound
    (begin-late (contents w) c.requires.0.sound (lengths w) (sym c.is_in_turn.ensures ∙ c.if-not-is_in_turn.true))
    c.args.starts.now

pub survey-requires : goal.survey-requires
survey-requires c =
    let w = c.args.plan.now.words in
    may-survey (contents w) c.requires.0.sound (lengths w) c.requires.0.reached (sym c.is_in_turn.ensures ∙ c.if-not-is_in_turn.false)

pub returns-in_err-peak : goal.returns-in_err-peak
returns-in_err-peak c =
    let w = c.args.plan.now.words in
    let p = err_from_is_err_and c.from_residual.result c.from_residual.ensures.1 in
    rw (p.1, p.2)
    (refusal c.in_err-peak.field-0.0 c.requires.0.sound
    (surveyed-refused (contents w) c.requires.0.sound (lengths w) c.requires.0.reached (sym c.is_in_turn.ensures ∙ c.if-not-is_in_turn.false)
    c.in_err-peak.ensures.0 c.in_err-peak.ensures.1 (λ e. let h = some_number c.in_err-peak.field-0.0 in omega arith))
    c.args.starts.now)

pub returns-then-bound-peak : goal.returns-then-bound-peak
unfolding contents store_contents
returns-then-bound-peak c =
    let w = c.args.plan.now.words in
    refusal PeakAboveBound c.requires.0.sound
    (too-high (contents w) c.requires.0.sound (lengths w) c.requires.0.reached (sym c.is_in_turn.ensures ∙ c.if-not-is_in_turn.false)
    c.in_ok-peak.ensures.0 c.in_ok-peak.ensures.1 refl (omega (arith, c.if-bound-peak.true, c.cell-bound.ensures)))
    c.args.starts.now

pub complete-requires : goal.complete-requires
complete-requires c =
    let w = c.args.plan.now.words in
    (c.requires.0, in-turn (contents w) c.requires.0.sound (lengths w) (sym c.is_in_turn.ensures ∙ c.if-not-is_in_turn.false))

pub start_day-started-requires : goal.start_day-started-requires
start_day-started-requires c =
    let w = c.args.plan.now.words in
    let valid = c.requires.0 in
    let done = c.complete.ensures in
    let turn = sym c.is_in_turn.ensures ∙ c.if-not-is_in_turn.false in
    may-begin (contents w) done.valid.sound (lengths _) done.valid.reached done.means (in-turn (contents w) valid.sound (lengths w) turn)
    (no-order-ground (contents w) valid.sound (lengths w) valid.reached turn c.in_ok-peak.ensures.0 c.in_ok-peak.ensures.1 refl)
    _ c.requires.1

pub returns : goal.returns
unfolding contents store_contents
returns c =
    let w = c.args.plan.now.words in
    let valid = c.requires.0 in
    let done = c.complete.ensures in
    let turn = sym c.is_in_turn.ensures ∙ c.if-not-is_in_turn.false in
    let turned = in-turn (contents w) valid.sound (lengths w) turn in
    judged
    (low-enough (contents w) valid.sound (lengths w) valid.reached turn c.in_ok-peak.ensures.0 c.in_ok-peak.ensures.1 refl
    (omega (arith, c.if-bound-peak.false, c.cell-bound.ensures)))
    (begin-answers (contents w) done.valid.sound (lengths _) done.valid.reached done.means turned c.start_day-started.ensures
    (high_is (contents w) valid.sound (lengths w) valid.reached turn c.in_ok-peak.ensures.0 c.in_ok-peak.ensures.1 refl) c.args.used)
    (begin-sound (contents w) done.valid.sound (lengths _) done.valid.reached done.means turned c.start_day-started.ensures)
