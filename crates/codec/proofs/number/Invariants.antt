-- The sum so far is the number in the bytes ahead of this place, and the next byte counts so many units.
use Rattle.std.proofs.Common.{◌≡◌, ◌^◌}
use Rattle.format.specs.Command.{number}
use Rattle.codec.proofs.number.Given as goal

abbrev pub invariant-loop-place : goal.invariant-loop-place
invariant-loop-place g l = (l.sum ≡ number l.place l.given) × (l.unit ≡ 256 ^ l.place)
