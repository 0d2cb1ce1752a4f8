-- `number` meets its contract: each byte counts 256 times what the one before it does.
use Rattle.std.proofs.Common.{rules, arith, ◌≡◌, ◌≤◌, ◌<◌, ◌^◌, ℕ, ◌+◌, ◌*◌, List, get_or, refl, add-one}
use Rattle.std.proofs.Math.Nat.{pow-suc, pow-le-pow_right}
use Rattle.std.proofs.lemmas.List.{get_or-drop}
use Rattle.format.specs.Command.{number}
use Rattle.format.proofs.Number.{number_fits, number-join}
use Rattle.codec.proofs.number.Goals as goal

one_more : (place : ℕ) (given : List ℕ) → number (place + 1) given ≡ number place given + 256 ^ place * get_or given place 0
unfolding number
one_more place given =
    let here : place + 0 ≡ place = omega arith in
    let alone : get_or given place 0 + 256 * 0 ≡ get_or given place 0 = omega arith in
    rw (number-join place 1 given, get_or-drop, here, alone) refl

unit-next : (place : ℕ) → 256 ^ (place + 1) ≡ 256 ^ place * 256
unit-next place = rw (add-one place, pow-suc) (omega arith)

-- of four bytes at most
few : (width place : ℕ) → width ≤ 4 → place < width → 256 ^ (place + 1) ≤ 256 ^ 4
few width place h more = pow-le-pow_right (omega arith) {j = 4} (omega arith)

pub loop-place-init : goal.loop-place-init
unfolding number
loop-place-init g c = (refl, refl)

pub overflow_add-sum : goal.overflow_add-sum
overflow_add-sum g c =
    let byte : c.unwrap_or.result ≡ get_or c.args.given.now c.loop-place.place 0 = search rules in
    let fits = number_fits (c.loop-place.place + 1) c.args.given.now (λ i. (c.type_inv.given i).fits) in
    let next : c.loop-place.sum + c.loop-place.unit * c.unwrap_or.result ≡ number (c.loop-place.place + 1) c.args.given.now =
    rw (one_more, ← c.loop-place.invariant.0, ← c.loop-place.invariant.1, byte) refl in
    omega (arith, next, fits, few _ _ c.requires c.loop-place-test.true)

pub overflow_mul-unit : goal.overflow_mul-unit
overflow_mul-unit g c =
    omega (arith, unit-next c.loop-place.place, few _ _ c.requires c.loop-place-test.true, c.loop-place.invariant.1)

pub loop-place-preserved : goal.loop-place-preserved
loop-place-preserved g c =
    let byte : c.unwrap_or.result ≡ get_or c.args.given.now c.loop-place.place 0 = search rules in (
      rw (one_more, ← c.loop-place.invariant.0, ← c.loop-place.invariant.1, byte) refl,
      rw (unit-next, ← c.loop-place.invariant.1) refl,
    )

pub returns-clause-fits : goal.returns-clause-fits
returns-clause-fits g c =
    let all : c.loop-place.place ≡ g.row.WIDTH = omega arith in
    rw (c.loop-place.invariant.0, all) (number_fits _ _ (λ i. (c.type_inv.given i).fits))
