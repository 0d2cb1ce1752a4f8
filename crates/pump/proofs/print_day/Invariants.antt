-- What holds from step to step: `PumpLoop`, and of known bytes `SoFar`; what falls: `bytes_left`.
use Rattle.std.proofs.Common.{◌≡◌, ℕ, List}
use Rattle.std.specs.Prelude.{Some}
use Rattle.position.specs.Standing.{position_of}
use Rattle.pump.proofs.Holding.{PumpLoop, bytes_left}
use Rattle.pump.proofs.Printing.{SoFar}
use Rattle.pump.proofs.print_day.Given as goal

abbrev pub invariant-loop-position : goal.invariant-loop-position
invariant-loop-position g l = record {
  holding : PumpLoop l.bytes l.lines l.starts l.plan.words l.position;
  so_far : (stream : List ℕ)
      → g.R.Read.remaining l.fn.input ≡ Some stream
      → SoFar stream l.bytes l.plan.words l.position (g.R.Read.remaining l.input) (g.W.Write.contents l.fn.output) (g.W.Write.contents l.output);
}

abbrev pub decreases-loop-position : goal.decreases-loop-position
decreases-loop-position g l = bytes_left (position_of l.position)
