-- What a write took goes behind what was written before.
use Rattle.std.proofs.Common.{◌+◌, sym, subst, ◌∙◌, ap, take, drop, length-drop, arith}
use Rattle.std.proofs.Math.Seq.{take-add, drop-drop}
use Rattle.std.proofs.lemmas.List.{take_rest}
use Rattle.std.specs.Io.KnownBytes.{Appends}
use Rattle.pump.proofs.Growing.{grows}
use Rattle.pump.proofs.put_out.Goals as goal

pub loop-left-preserved : goal.loop-left-preserved
loop-left-preserved g c =
    let loop = c.loop-left in
    let held = g.W.Write.contents c.args.output.now in
    let holds = g.W.Write.contents c.write.new.self in
    let lines = c.args.lines.now in
    let done = loop.invariant.done in
    let count = c.in-Ok.count in
    let wrote = rw loop.invariant.rest at c.in-Ok.ensures in
    record {
      done = done + count;
      within = omega (arith, wrote.bound, loop.invariant.within, length-drop done lines);
      rest = take_rest _ count ∙ ap (drop count) loop.invariant.rest ∙ drop-drop count done lines;
      written =
          subst (Appends held holds) (sym (take-add done count lines))
          (grows held (g.W.Write.contents loop.output) holds (take done lines) (take count (drop done lines)) loop.invariant.written wrote.bytes);
    }
