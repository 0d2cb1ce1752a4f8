-- The bytes at hand are as many as were left, and what the read gives fills the buffer behind them.
use Rattle.std.proofs.Common.{◌≡◌, ◌≤◌, ◌-◌, arith, rules, length}
use Rattle.std.proofs.lemmas.Result.{err_from_is_err_and}
use Rattle.texts.specs.Printer as printer
use Rattle.position.specs.Standing.{position_of}
use Rattle.pump.specs.Filled.{left_of, gained}
use Rattle.pump.proofs.Refilling.{left_over, behind, stays, gained-is}
use Rattle.pump.proofs.room.refill.Goals as goal

pub slice_bounds-read-count : goal.slice_bounds-read-count
slice_bounds-read-count g c =
    let count = left_over (position_of c.args.position) c.to_front-position.ensures.0 c.filled-left.ensures in
    omega arith

pub slice_bounds-read-start : goal.slice_bounds-read-start
slice_bounds-read-start g c = slice_bounds-read-count g c

pub returns-in_err-count : goal.returns-in_err-count
returns-in_err-count g c =
    let x = c.args.position in
    let left = c.filled-left.result in
    let kept = c.to_front-position.new.buffer in
    let given = c.read.new.buf in
    let count : left ≡ left_of x = left_over (position_of x) c.to_front-position.ensures.0 c.filled-left.ensures in
    let within : left ≤ length kept = omega arith in
    let size : length given ≡ length kept - left = omega arith in
    let p = err_from_is_err_and c.from_residual.result c.from_residual.ensures.1 in
    rw p.1
    record {
      front = stays c.args.buffer.now x left kept given within size count (omega arith) (rw c.filled-left.ensures c.to_front-position.ensures.1);
      size = search rules;
      behind = c.in_err-count.ensures.bytes;
      within = tt;
      position = tt;
    }

pub returns : goal.returns
returns g c =
    let x = c.args.position in
    let left = c.filled-left.result in
    let kept = c.to_front-position.new.buffer in
    let given = c.read.new.buf in
    let count : left ≡ left_of x = left_over (position_of x) c.to_front-position.ensures.0 c.filled-left.ensures in
    let within : left ≤ length kept = omega arith in
    let size : length given ≡ length kept - left = omega arith in
    let all : position_of c.fed.result ≡ printer.fed c.in_ok-count.count (printer.fronted (position_of x)) = cc in
    let some : gained x c.fed.result ≡ c.in_ok-count.count = gained-is x c.fed.result all in
    record {
      front = stays c.args.buffer.now x left kept given within size count (omega arith) (rw c.filled-left.ensures c.to_front-position.ensures.1);
      size = search rules;
      behind = rw (some, ← count, behind left kept given within size) c.in_ok-count.ensures.bytes;
      within = rw some (omega (arith, c.in_ok-count.ensures.bound));
      position = rw some all;
    }
