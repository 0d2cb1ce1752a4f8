-- The pieces, one behind the other, are the line.
use Rattle.std.proofs.Common.{length, arith, rules}
use lib.Seq.{take_all}
use Rattle.texts.specs.Text.{ascii, places_line}
use Rattle.texts.proofs.Lengths.{places_line-short}
use Rattle.put.proofs.Pieces.{whole}
use Rattle.put.proofs.Pages.{◌then◌, from-front}
use Rattle.lines.proofs.places_line.Goals as goal

pub returns : goal.returns
unfolding ascii places_line
returns c =
    let all = c.text.ensures then c.decimal.ensures then c.put.ensures in
    let page = c.new-page.ensures in
    let figures = c.args.figures in
    let started = c.args.started.now in
    record {
      written = whole (from-front all page.same_buffer page.unwritten page.at_place (search rules) c.place.ensures);
      short =
          λ few.
          rw (take_all (length started) started (omega arith))
          at (places_line-short
          figures.booked figures.used figures.full _ started few (omega arith) (omega arith) (omega arith)
          (λ i. (c.type_inv.started i).fits) c.args.bound (omega arith));
    }
