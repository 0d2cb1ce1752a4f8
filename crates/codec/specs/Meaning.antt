-- What the code's commands and answers mean in the rules, case by case.
use Rattle.std.specs.Prelude.{Result, Ok, Err}
use Rattle.format.specs.Command as rules
use Rattle.refusal.specs.declared.Refusal.{Refusal}
use Rattle.refusal.specs.Number.{number_of}
use Rattle.codec.specs.declared.Command.{Command}
use Rattle.codec.specs.declared.Command.TheVariants.{Plan, Task, Activation, Execution, Begin, Done, Fetch, Places}
use Rattle.codec.specs.declared.Read.{Read}

abbrev pub command_of : Command → rules.Command
command_of (Plan n p bound) = rules.plan n p bound
command_of (Task parent work out) = rules.task parent work out
command_of (Activation i) = rules.activation i
command_of (Execution i) = rules.execution i
command_of Begin = rules.begin
command_of (Done i) = rules.done i
command_of Fetch = rules.fetch
command_of (Places bound) = rules.places bound

abbrev pub decoded : Result Read Refusal → rules.Decoded
decoded (Ok read) = rules.read (command_of read.command) read.used
decoded (Err refusal) = rules.refused (number_of refusal)
