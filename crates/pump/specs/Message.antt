-- What is told on standard error.
use Rattle.std.specs.Prelude.{List, ℕ, codes}
use Rattle.pump.specs.declared.failed.Failed.{Failed}
use Rattle.pump.specs.declared.failed.Failed.TheVariants.{Write, TooLong, Read}

abbrev pub message : Failed → List ℕ
message Write = codes "printer: write failed"
message TooLong = codes "printer: input too long"
message Read = codes "printer: read failed"
