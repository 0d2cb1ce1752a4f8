-- What holds from step to step of the day printer, and that it ends.
use mathlib.Core.Path.{◌≡◌, sym, ap, subst, ◌∙◌}
use mathlib.Core.Bool.{true, false, cond}
use mathlib.Core.List.{List}
use Rattle.std.specs.Prelude.{Option, Ok}
use Prim.Native.Nat.{ℕ, zero, suc, ◌+◌, ◌-◌, ◌≤◌, ◌<◌}
use native.Mathlib.Omega.{arith}
use borrow.Author.Tests.{leb-true, ne_eqb}
use lib.ListN.{length, take}
use lib.Seq.{length-take-le}
use Rattle.numbers.specs.Limits.{least_starts}
use Rattle.texts.specs.Printer as rules
use Rattle.texts.specs.Printer.{waits, stops, moved, fronted, fed, is_counted, max_offset, step}
use Rattle.answer.specs.Meaning.{plan_of}
use Rattle.answer.specs.ValidPlan.{ValidPlan}
use Rattle.position.specs.declared.Position.{Position}
use Rattle.stepping.specs.declared.Stepped.{Stepped}
use Rattle.pump.specs.declared.TheConstants.{ROOM}
use Rattle.printing.specs.declared.Verdict.TheVariants.{GoesOn, Waits}
use Rattle.printing.specs.Verdict.{verdict_of}
use Rattle.position.specs.Standing.{position_of, Stands}
use Rattle.stepping.specs.Stepped.{Step}
use Rattle.pump.specs.Filled.{left_of, gained, Filled}
use Rattle.stepping.proofs.Reach.{Reach, step-reach, step-some}

pub record PumpLoop (input output starts w : List ℕ) (x : Position) : Type 0 where
  pub valid : ValidPlan w
  pub input-size : ROOM ≡ length input
  pub output-size : ROOM ≡ length output
  pub starts-size : least_starts ≡ length starts
  pub stands : Stands x ROOM

pub at_size : {x : Position} {n : ℕ} → ROOM ≡ n → Stands x ROOM → Stands x n
at_size {x} e h = subst (Stands x) e h

-- before the first step
pub at-start : {x : Position} → position_of x ≡ rules.start → Stands x ROOM
at-start e =
    let place = ap (λ (y : rules.Position). y.place) e in
    let filled = ap (λ (y : rules.Position). y.filled) e in
    let offset = ap (λ (y : rules.Position). y.offset) e in
    record { at_hand = omega arith; in_buffer = omega arith; counted = omega arith }

-- the bytes that can still be counted from the next command on and from what is read next on, and the end of the input
abbrev pub bytes_left : rules.Position → ℕ
bytes_left y = (max_offset - y.offset) + (max_offset - (y.offset + (y.filled - y.place))) + cond y.is_last 0 1

-- bytes that are used bring it down
used-up : (used : ℕ) (y : rules.Position)
    → 0 < used
    → y.place + used ≤ y.filled
    → y.offset + (y.filled - y.place) ≤ max_offset
    → bytes_left (moved used y) < bytes_left y
unfolding moved
used-up used y some within counted = omega arith

-- what is left to count falls where neither number does and one of them, or the end, is new
fewer : (most a b a' b' e e' : ℕ)
    → a ≤ a'
    → b' ≤ most
    → b + e' < b' + e
    → b ≤ b'
    → (most - a') + (most - b') + e' < (most - a) + (most - b) + e
fewer most a b a' b' e e' h h' h'' h''' = omega arith

-- the bytes at hand, one more way of counting them
again : (offset place used filled count : ℕ)
    → place + used ≤ filled
    → offset + used + (filled - (place + used) + count - 0) ≡ offset + (filled - place) + count
again offset place used filled count within = omega arith

-- and so does a read: it gives a byte or ends the input
read-in : (used count : ℕ) (y : rules.Position)
    → y.place + used ≤ y.filled
    → y.is_last ≡ false
    → y.offset + (y.filled - y.place) + count ≤ max_offset
    → bytes_left (fed count (fronted (moved used y))) < bytes_left y
unfolding moved fronted fed
read-in used zero y within more counted =
    rw (more, again y.offset y.place used y.filled 0 within)
    (fewer max_offset y.offset (y.offset + (y.filled - y.place)) (y.offset + used) _ 1 0 (omega arith) counted (omega arith) (omega arith))
read-in used (suc count) y within more counted =
    rw (more, ne_eqb (suc count) 0 (λ e. omega arith), again y.offset y.place used y.filled (suc count) within)
    (fewer max_offset y.offset (y.offset + (y.filled - y.place)) (y.offset + used) _ 1 1 (omega arith) counted (omega arith) (omega arith))

module _ {input output starts w : List ℕ} {x : Position} (loop : PumpLoop input output starts w x) where
  -- the bytes at hand
  abbrev part : List ℕ
  part = take x.filled input

  part-size : length part ≡ x.filled
  part-size = length-take-le x.filled input (omega (arith, loop.stands.in_buffer, loop.input-size))

  abbrev taken : rules.Turn
  taken = step (plan_of w) part starts (length output) (position_of x)

  reach : Reach part x.place x.is_last taken
  reach =
      step-reach (plan_of w) part starts (length output) (position_of x) loop.valid.reached
      (omega (arith, part-size, loop.stands.at_hand))

  -- the step ends among them
  pub within : x.place + taken.used ≤ length part
  within = reach.within

  module _ {r : Stepped} {w' starts' output' : List ℕ} (stepped : Step x taken output r w' starts' output') where
    place' : r.position.place ≡ x.place + taken.used
    unfolding moved
    place' = ap (λ (y : rules.Position). y.place) stepped.position

    filled' : r.position.filled ≡ x.filled
    unfolding moved
    filled' = ap (λ (y : rules.Position). y.filled) stepped.position

    offset' : r.position.offset ≡ x.offset + taken.used
    unfolding moved
    offset' = ap (λ (y : rules.Position). y.offset) stepped.position

    inside : x.place + taken.used ≤ x.filled
    inside = omega (arith, reach.within, part-size)

    -- what holds goes on holding
    pub onward : length starts' ≡ length starts → length output' ≡ length output → PumpLoop input output' starts' w' r.position
    onward same-starts same-output =
        record {
          valid = stepped.valid;
          input-size = loop.input-size;
          output-size = loop.output-size ∙ sym same-output;
          starts-size = loop.starts-size ∙ sym same-starts;
          stands =
              record {
                at_hand = omega (arith, place', filled', inside);
                in_buffer = omega (arith, filled', loop.stands.in_buffer);
                counted = omega (arith, place', filled', offset', inside, loop.stands.counted);
              };
        }

    -- where more input is waited for, there is room for it
    pub room : length starts' ≡ length starts
        → length output' ≡ length output
        → r.verdict ≡ Waits
        → Stands r.position (length input) × (r.position.filled - r.position.place < length input)
    room same-starts same-output e = (
      at_size loop.input-size (onward same-starts same-output).stands,
      omega (arith, loop.input-size, reach.few (sym stepped.verdict ∙ ap verdict_of e), part-size, place', filled'),
    )

    -- a step that goes on has used a byte
    pub falls : r.verdict ≡ GoesOn → bytes_left (position_of r.position) < bytes_left (position_of x)
    falls goes =
        let some =
        step-some (plan_of w) part starts (length output) (position_of x) (omega (arith, loop.output-size))
        (sym stepped.verdict ∙ ap verdict_of goes) in
        subst (λ (y : rules.Position). bytes_left y < bytes_left (position_of x)) (sym stepped.position)
        (used-up taken.used (position_of x) some inside loop.stands.counted)

    module _ {E : Type 0} {had has : Option (List ℕ)} {input' : List ℕ} {y : Position} (filled : Filled {E = E} input r.position had input' has (Ok y)) (counted : is_counted (length input) (position_of r.position) ≡ true) where
      abbrev count : ℕ
      count = gained r.position y

      far : r.position.offset + length input ≤ max_offset
      unfolding is_counted
      far = leb-true (r.position.offset + length input) max_offset counted

      most : count ≤ length input - left_of r.position
      most = filled.within

      -- a read waits for what comes next
      pub refalls : r.verdict ≡ Waits → bytes_left (position_of y) < bytes_left (position_of x)
      refalls e =
          subst (λ (y : rules.Position). bytes_left y < bytes_left (position_of x))
          (sym (filled.position ∙ ap (λ (y : rules.Position). fed count (fronted y)) stepped.position))
          (read-in taken.used count (position_of x) inside (reach.awaited (sym stepped.verdict ∙ ap verdict_of e))
          (omega (arith, far, most, place', filled', offset', inside, loop.stands.in_buffer, loop.input-size)))

      place'' : y.place ≡ 0
      unfolding fed fronted
      place'' = ap (λ (y : rules.Position). y.place) filled.position

      filled'' : y.filled ≡ left_of r.position + count
      unfolding fed fronted
      filled'' = ap (λ (y : rules.Position). y.filled) filled.position

      offset'' : y.offset ≡ r.position.offset
      unfolding fed fronted
      offset'' = ap (λ (y : rules.Position). y.offset) filled.position

      pub refilled : length starts' ≡ length starts → length output' ≡ length output → PumpLoop input' output' starts' w' y
      refilled same-starts same-output =
          let before = onward same-starts same-output in
          record {
            valid = before.valid;
            input-size = loop.input-size ∙ sym filled.size;
            output-size = before.output-size;
            starts-size = before.starts-size;
            stands =
                record {
                  at_hand = omega (arith, place'');
                  in_buffer = omega (arith, filled'', most, loop.input-size, before.stands.in_buffer);
                  counted = omega (arith, place'', filled'', offset'', far, most, loop.input-size, before.stands.in_buffer);
                };
          }
