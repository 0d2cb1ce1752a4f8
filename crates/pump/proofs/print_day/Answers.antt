-- What `print_day` keeps from step to step.
use Rattle.std.proofs.Common.{ℕ, arith, sym, ap, ◌∙◌, refl}
use Rattle.std.proofs.lemmas.List.{length-replicate}
use Rattle.printing.specs.Verdict.{verdict_of}
use Rattle.pump.specs.declared.TheConstants.{ROOM}
use Rattle.pump.proofs.Holding.{at-start, onward, room, falls, refalls, refilled}
use Rattle.pump.proofs.Printing.{if_some, on_err, nothing-yet, ends, front-of-step, lines-out, advance, too-long, read-on}
use Rattle.plan.proofs.NewPlan.{new-valid, new-empty}
use Rattle.pump.proofs.print_day.Goals as goal

pub loop-position-init : goal.loop-position-init
loop-position-init g c =
    record {
      holding =
          record {
            valid = new-valid c.new-plan.ensures;
            input-size = sym (length-replicate {A = ℕ} ROOM 0);
            output-size = sym (length-replicate {A = ℕ} ROOM 0);
            starts-size = refl;
            stands = at-start c.start-position.ensures;
          };
      so_far = λ stream e. nothing-yet (g.W.Write.contents c.args.output.now) stream e (new-empty c.new-plan.ensures) c.start-position.ensures;
    }

pub returns-in-Stops-clause-printed : goal.returns-in-Stops-clause-printed
returns-in-Stops-clause-printed g c =
    let loop = c.loop-position.invariant in
    if_some (g.R.Read.remaining c.args.input.now)
    (λ stream e. ends loop.holding (loop.so_far stream e) c.step-stepped.ensures (g.W.Write.contents c.put_out.new.output) c.in_ok-put_out.ensures.ok c.in-Stops.is)

pub returns-in_err-put_out-clause-cut_short : goal.returns-in_err-put_out-clause-cut_short
returns-in_err-put_out-clause-cut_short g c =
    let loop = c.loop-position.invariant in
    on_err c.from_residual.result
    (if_some (g.R.Read.remaining c.args.input.now)
    (λ stream e. front-of-step loop.holding (loop.so_far stream e) c.step-stepped.ensures (g.W.Write.contents c.put_out.new.output) c.in_err-put_out.ensures.err))

pub returns-then-not-is_counted-clause-cut_short : goal.returns-then-not-is_counted-clause-cut_short
returns-then-not-is_counted-clause-cut_short g c =
    let loop = c.loop-position.invariant in
    if_some (g.R.Read.remaining c.args.input.now)
    (λ stream e. lines-out loop.holding (loop.so_far stream e) c.step-stepped.ensures (g.W.Write.contents c.put_out.new.output) c.in_ok-put_out.ensures.ok)

pub returns-in_default-clause-cut_short : goal.returns-in_default-clause-cut_short
returns-in_default-clause-cut_short g c =
    let loop = c.loop-position.invariant in
    if_some (g.R.Read.remaining c.args.input.now)
    (λ stream e. lines-out loop.holding (loop.so_far stream e) c.step-stepped.ensures (g.W.Write.contents c.put_out.new.output) c.in_ok-put_out.ensures.ok)

pub returns-then-not-is_counted-clause-too_long : goal.returns-then-not-is_counted-clause-too_long
returns-then-not-is_counted-clause-too_long g c =
    let loop = c.loop-position.invariant in
    let next = onward loop.holding c.step-stepped.ensures c.step-stepped.auto.starts c.step-stepped.auto.output in
    let waits = ap verdict_of c.in-Waits.is in
    λ _.
    if_some (g.R.Read.remaining c.args.input.now)
    (λ stream e.
    let after = advance loop.holding (loop.so_far stream e) c.step-stepped.ensures (g.W.Write.contents c.put_out.new.output) c.in_ok-put_out.ensures.ok (λ q. omega arith) in
    omega (arith, next.input-size, too-long after next.stands.at_hand (omega (arith, next.input-size, next.stands.in_buffer)) (sym c.is_counted.ensures ∙ c.if-not-is_counted.true)))

pub refill-requires : goal.refill-requires
refill-requires g c =
    room c.loop-position.invariant.holding c.step-stepped.ensures c.step-stepped.auto.starts c.step-stepped.auto.output c.in-Waits.is

-- more is read only where it can be counted
pub loop-position-smaller : goal.loop-position-smaller
loop-position-smaller g c =
    refalls c.loop-position.invariant.holding c.step-stepped.ensures c.in-Ok.ensures (sym c.is_counted.ensures ∙ c.if-not-is_counted.false) c.in-Waits.is

pub loop-position-preserved : goal.loop-position-preserved
loop-position-preserved g c =
    let loop = c.loop-position.invariant in
    let step = c.step-stepped in
    let waits = ap verdict_of c.in-Waits.is in
    let asked = room loop.holding step.ensures step.auto.starts step.auto.output c.in-Waits.is in
    record {
      holding =
          refilled loop.holding step.ensures c.in-Ok.ensures (sym c.is_counted.ensures ∙ c.if-not-is_counted.false) step.auto.starts step.auto.output;
      so_far = λ stream e.
          read-on
          (advance loop.holding (loop.so_far stream e) step.ensures (g.W.Write.contents c.put_out.new.output) c.in_ok-put_out.ensures.ok (λ q. omega arith))
          asked.0.at_hand asked.0.in_buffer asked.1 c.in-Ok.ensures;
    }

pub loop-position-smaller-in-GoesOn : goal.loop-position-smaller-in-GoesOn
loop-position-smaller-in-GoesOn g c = falls c.loop-position.invariant.holding c.step-stepped.ensures c.in-GoesOn.is

pub loop-position-preserved-in-GoesOn : goal.loop-position-preserved-in-GoesOn
loop-position-preserved-in-GoesOn g c =
    let loop = c.loop-position.invariant in
    let goes = ap verdict_of c.in-GoesOn.is in
    record {
      holding = onward loop.holding c.step-stepped.ensures c.step-stepped.auto.starts c.step-stepped.auto.output;
      so_far = λ stream e.
          advance loop.holding (loop.so_far stream e) c.step-stepped.ensures (g.W.Write.contents c.put_out.new.output) c.in_ok-put_out.ensures.ok (λ q. omega arith);
    }
