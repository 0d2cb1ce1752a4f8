-- What a turn decides, in the rules.
use Rattle.std.specs.Prelude.{ℕ}
use Rattle.texts.specs.Printer as rules
use Rattle.printing.specs.declared.Verdict.{Verdict}
use Rattle.printing.specs.declared.Verdict.TheVariants.{GoesOn, Waits, Stops}

abbrev pub verdict_of : Verdict → ℕ
verdict_of GoesOn = rules.continues
verdict_of Waits = rules.waits
verdict_of Stops = rules.stops
