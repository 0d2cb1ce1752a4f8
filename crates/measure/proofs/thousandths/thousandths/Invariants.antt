-- With so many bits left, those taken tell how many times the booked trays there are.
use Rattle.std.proofs.Common.{◌≡◌, ℕ, ◌*◌, ◌/◌, ◌^◌, ◌<◌}
use Rattle.measure.specs.Divided.{amount}
use Rattle.measure.specs.declared.thousandths.Divided.{Divided}
use Rattle.measure.proofs.thousandths.thousandths.Given as goal

pub record Taken (booked bound : ℕ) (trays : Divided) (left : ℕ) : Type 0 where
  pub times : amount bound trays ≡ 1000 / 2 ^ left * booked
  pub below : trays.remainder < bound

abbrev pub invariant-loop-left : goal.invariant-loop-left
invariant-loop-left l = Taken l.booked l.bound l.trays l.left
