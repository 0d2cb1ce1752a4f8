-- `go_on` meets its contract.
use Rattle.day.proofs.Days.{end-advances, went_on}
use Rattle.day.proofs.report.go_on.Goals as goal

pub advance-started-requires : goal.advance-started-requires
advance-started-requires c = end-advances c.requires c.finish-offers.ensures

pub returns : goal.returns
returns c = went_on c.requires c.finish-offers.ensures c.advance-started.ensures
