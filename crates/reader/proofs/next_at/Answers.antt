-- `next_at` meets its contract: a reader that is set at a place reads what stands there.
use Rattle.std.proofs.Common.{◌∙◌}
use Rattle.reader.proofs.Next.{at-decode}
use Rattle.reader.proofs.next_at.Goals as goal

pub returns : goal.returns
returns c = rw (c.at.ensures.0, c.at.ensures.1) at c.next.ensures ∙ at-decode c.args.stream.now c.args.place
