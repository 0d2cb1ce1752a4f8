-- The pieces, one behind the other, are the line.
use Rattle.std.proofs.Common.{length, arith, rules}
use lib.Seq.{take_all}
use Rattle.texts.specs.Text.{ascii, begin_line}
use Rattle.texts.proofs.Lengths.{begin_line-short}
use Rattle.put.proofs.Pieces.{whole}
use Rattle.put.proofs.Pages.{◌then◌, from-front}
use Rattle.lines.proofs.begin_line.Goals as goal

pub returns : goal.returns
unfolding ascii begin_line
returns c =
    let all = c.text.ensures then c.decimal.ensures then c.text-2.ensures then c.decimal-2.ensures then c.put.ensures in
    let page = c.new-page.ensures in
    let figures = c.args.figures in
    let started = c.args.started.now in
    record {
      written = whole (from-front all page.same_buffer page.unwritten page.at_place (search rules) c.place.ensures);
      short =
          λ few.
          rw (take_all (length started) started (omega arith))
          at (begin_line-short
          figures.booked figures.used figures.full _ started few (omega arith) (omega arith) (omega arith)
          (λ i. (c.type_inv.started i).fits) (record { trays = c.args.peak; task = c.args.by }) (omega arith) (omega arith));
    }
