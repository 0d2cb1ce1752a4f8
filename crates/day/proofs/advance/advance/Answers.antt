-- `advance` meets its contract.
use Rattle.day.proofs.Advancing.{then-may-start, advanced}
use Rattle.day.proofs.advance.advance.Goals as goal

pub start_ready-requires : goal.start_ready-requires
start_ready-requires c = then-may-start c.requires c.book_ahead.ensures

pub returns : goal.returns
returns c = advanced c.requires c.book_ahead.ensures c.start_ready.ensures
