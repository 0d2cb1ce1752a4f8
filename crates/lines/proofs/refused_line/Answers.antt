-- The pieces, one behind the other, are the line.
use Rattle.std.proofs.Common.{arith, rules}
use Rattle.texts.specs.Text.{ascii, refused_line}
use Rattle.texts.proofs.Lengths.{refused_line-short}
use Rattle.put.proofs.Pieces.{whole}
use Rattle.put.proofs.Pages.{◌then◌, from-front}
use Rattle.lines.proofs.refused_line.Goals as goal

pub returns : goal.returns
unfolding ascii refused_line
returns c =
    let all = c.text.ensures then c.decimal.ensures then c.text-2.ensures then c.decimal-2.ensures then c.byte.ensures in
    let page = c.new-page.ensures in
    record {
      written = whole (from-front all page.same_buffer page.unwritten page.at_place (search rules) c.place.ensures);
      short = λ _. refused_line-short _ _ (omega arith) (omega arith);
    }
