-- The trays so far are the booked ones times the bits of 1,000 that were taken.
use mathlib.Core.Path.{◌≡◌, sym, ap, ◌∙◌}
use Prim.Native.Nat.{ℕ, zero, suc, ◌+◌, ◌-◌, ◌*◌, ◌/◌, ◌%◌, ◌^◌, ◌≤◌, ◌<◌}
use native.Mathlib.Nat.{add-mul, mul_assoc, mul-le-mul_right, lt_of_mul-lt-mul_right, div-div-eq-div-mul, div-le_self, pow-suc}
use native.Mathlib.Omega.{arith}
use lib.Bits.{bit_and, and_mask}
use Rattle.measure.specs.Divided.{amount}
use Rattle.measure.specs.declared.thousandths.Divided.{Divided}
use Rattle.measure.proofs.thousandths.thousandths.Invariants.{Taken}
use Rattle.measure.proofs.thousandths.thousandths.Goals as goal

one_less : (k : ℕ) → suc k - 1 ≡ k
one_less k = omega arith

-- the bits of a factor down to one of them are twice those above it, and that one
next_bit : (factor left : ℕ) → 0 < left → factor / 2 ^ (left - 1) ≡ 2 * (factor / 2 ^ left) + factor / 2 ^ (left - 1) % 2
next_bit factor zero h = absurd (omega arith)
next_bit factor (suc k) h = rw (one_less k, pow-suc 2 k, ← div-div-eq-div-mul factor (2 ^ k) 2) (omega arith)

-- a number whose lowest bit is not set is even
even : (n : ℕ) → (bit_and n 1 ≡ 1 → ⊥) → n % 2 ≡ 0
even n unset =
    let other : n % 2 ≡ 1 → ⊥ = λ e. unset (and_mask n 1 ∙ e) in
    omega (arith, other)

module _ (booked bound : ℕ) (h : booked < bound) where
  -- of at most 1,000 times the booked trays, the whole bounds are fewer than 1,000
  few : (factor : ℕ) (trays : Divided) → factor ≤ 1000 → amount bound trays ≡ factor * booked → trays.quotient < 1000
  few factor trays most e = lt_of_mul-lt-mul_right bound (omega (arith, e, mul-le-mul_right booked most))

  module _ (trays next : Divided) (left : ℕ) (t : Taken booked bound trays left) (more : 0 < left) where
    abbrev above : ℕ
    above = 1000 / 2 ^ left

    abbrev bit : ℕ
    bit = 1000 / 2 ^ (left - 1) % 2

    twice : 2 * amount bound trays ≡ 2 * above * booked
    twice = ap (λ x. 2 * x) t.times ∙ sym (mul_assoc 2 above booked)

    few-doubled : amount bound next ≡ 2 * amount bound trays → next.quotient < 1000
    few-doubled e = few (2 * above) next (omega (arith, next_bit 1000 left more, div-le_self 1000 (2 ^ (left - 1)))) (e ∙ twice)

    -- one bit more is taken: twice the trays, and the booked ones where it is set
    step : amount bound next ≡ 2 * amount bound trays + bit * booked → next.remainder < bound → Taken booked bound next (left - 1)
    step e below =
        record {
          times =
              e
              ∙ ap (λ x. x + bit * booked) twice
              ∙ sym (add-mul (2 * above) bit booked)
              ∙ ap (λ x. x * booked) (sym (next_bit 1000 left more));
          below = below;
        }

pub added-trays-requires : goal.added-trays-requires
added-trays-requires c =
    let d = c.doubled-trays.ensures in
    (d.1, few-doubled _ _ c.requires _ _ _ c.loop-left.invariant c.loop-left-test.true d.0, c.requires)

pub loop-left-preserved-then-left-eq1 : goal.loop-left-preserved-then-left-eq1
loop-left-preserved-then-left-eq1 c =
    let odd = sym (and_mask (1000 / 2 ^ (c.loop-left.left - 1)) 1) ∙ c.if-left-eq1.true in
    let a = c.added-trays.ensures in
    step _ _ c.requires _ _ _ c.loop-left.invariant c.loop-left-test.true
    (rw odd (omega (arith, a.0, c.doubled-trays.ensures.0))) a.1

pub loop-left-preserved : goal.loop-left-preserved
loop-left-preserved c =
    let d = c.doubled-trays.ensures in
    step _ _ c.requires _ _ _ c.loop-left.invariant c.loop-left-test.true
    (rw (even (1000 / 2 ^ (c.loop-left.left - 1)) c.if-left-eq1.false) (omega (arith, d.0))) d.1
