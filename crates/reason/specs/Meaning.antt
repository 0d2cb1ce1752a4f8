-- What the code's reasons mean in the rules, case by case.
use Rattle.std.specs.Prelude.{Result, Ok, Err}
use Rattle.books.specs.Kind.{each}
use Rattle.whys.specs.Why as rules
use Rattle.refusal.specs.declared.Refusal.{Refusal}
use Rattle.refusal.specs.Number.{number_of}
use Rattle.reason.specs.declared.Reason.{Reason}
use Rattle.reason.specs.declared.Reason.TheVariants.{Ended, Running, NotBooked, Unfed, NoProcessor}

abbrev pub reason_of : Reason → rules.Reason
reason_of Ended = rules.ended
reason_of Running = rules.running
reason_of (NotBooked first lack) = rules.not_booked first (each (λ _. lack))
reason_of (Unfed child) = rules.unfed child
reason_of NoProcessor = rules.no_processor

-- what is answered where the question may be refused
abbrev pub answered : Result Reason Refusal → rules.Reason
answered (Ok reason) = reason_of reason
answered (Err refusal) = rules.refused (number_of refusal)
