-- The first bytes have been written, and there are fewer left each time.
use Rattle.std.proofs.Common.{◌≡◌, ℕ, length, take, drop, ◌≤◌}
use Rattle.std.specs.Io.KnownBytes.{Appends}
use Rattle.pump.proofs.put_out.Given as goal

abbrev pub invariant-loop-left : goal.invariant-loop-left
invariant-loop-left g l = record {
  done : ℕ;
  within : done ≤ length l.lines;
  rest : l.left ≡ drop done l.lines;
  written : Appends (g.W.Write.contents l.fn.output) (g.W.Write.contents l.output) (take done l.lines);
}

abbrev pub decreases-loop-left : goal.decreases-loop-left
decreases-loop-left g l = length l.left
