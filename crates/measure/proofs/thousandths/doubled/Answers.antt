-- No bit is shifted out.
use Rattle.std.proofs.Common.{◌≡◌, ℕ, ◌*◌, ◌%◌, ◌^◌, ◌<◌, arith}
use native.Mathlib.Nat.{add-mul, mul_right_comm, mod-eq_of_lt}
use Rattle.measure.proofs.thousandths.doubled.Goals as goal

-- a number of at most 31 bits, shifted
shifted : (n : ℕ) → n * 2 < 2 ^ 32 → n * 2 % 2 ^ 32 ≡ n * 2
shifted n h = mod-eq_of_lt h

pub returns-then-trays-to_bound : goal.returns-then-trays-to_bound
returns-then-trays-to_bound c =
    let trays = c.args.trays in
    rw (shifted trays.quotient (omega arith), shifted trays.remainder (omega arith))
    (omega (arith, mul_right_comm trays.quotient 2 c.args.bound), omega arith)

pub returns-else-trays-to_bound : goal.returns-else-trays-to_bound
returns-else-trays-to_bound c =
    let trays = c.args.trays in
    rw (shifted trays.quotient (omega arith), add-mul (trays.quotient * 2) 1 c.args.bound)
    (omega (arith, mul_right_comm trays.quotient 2 c.args.bound), omega arith)
