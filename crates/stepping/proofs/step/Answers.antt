-- Each turn was asked with what the position answered.
use Rattle.std.proofs.Common.{◌≡◌, sym, ◌∙◌, arith, length-take, rules, true≢false}
use lib.Seq.{length-take-le}
use Rattle.printing.specs.declared.Verdict.TheVariants.{GoesOn}
use Rattle.stepping.proofs.Stepping.{begun, filled-up, counts, ended, some, onward}
use Rattle.stepping.proofs.step.Goals as goal

pub loop-output-init : goal.loop-output-init
loop-output-init c =
    let stands = c.requires.1 in
    let size = length-take-le c.args.position.filled c.args.input.now stands.in_buffer in
    begun _ _ _ _ _ c.requires.0 (omega (arith, size, stands.at_hand)) (omega (arith, size, stands.counted))

pub moved-position-requires : goal.moved-position-requires
moved-position-requires c =
    let taken = rw (c.is_last.ensures, c.offset.ensures, c.place.ensures, c.filled.ensures) at c.turn-turned.ensures in
    counts _ _ _ _ _ c.loop-output.invariant c.loop-output-test.true taken
    (omega (arith, length-take c.args.position.filled c.args.input.now))

pub returns-then-ne : goal.returns-then-ne
returns-then-ne c =
    let taken = rw (c.is_last.ensures, c.offset.ensures, c.place.ensures, c.filled.ensures) at c.turn-turned.ensures in
    ended _ _ _ _ _ c.loop-output.invariant c.loop-output-test.true taken c.moved-position.ensures
    (λ e. let both = rw e at c.ne.ensures in true≢false (sym c.if-ne.true ∙ both))

pub loop-output-smaller : goal.loop-output-smaller
loop-output-smaller c =
    let taken = rw (c.is_last.ensures, c.offset.ensures, c.place.ensures, c.filled.ensures) at c.turn-turned.ensures in
    let goes : c.turn-turned.result.verdict ≡ GoesOn = search rules in
    let more = some _ _ _ _ _ c.loop-output.invariant c.loop-output-test.true taken c.moved-position.ensures goes in
    let held = onward _ _ _ _ _ c.loop-output.invariant c.loop-output-test.true taken c.moved-position.ensures goes in
    omega (arith, more, held.within)

pub loop-output-preserved : goal.loop-output-preserved
loop-output-preserved c =
    let taken = rw (c.is_last.ensures, c.offset.ensures, c.place.ensures, c.filled.ensures) at c.turn-turned.ensures in
    onward _ _ _ _ _ c.loop-output.invariant c.loop-output-test.true taken c.moved-position.ensures (search rules)

pub returns : goal.returns
returns c = filled-up _ _ _ _ _ c.loop-output.invariant c.loop-output-test.false
