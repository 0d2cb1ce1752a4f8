-- A command as plain numbers: its byte, and its operands by their names.
use Rattle.std.specs.Prelude.{◌≡◌, cond, List, ℕ, eqb, ltb, length}
use Rattle.std.proofs.Math.Option.{Option, none, some}
use Rattle.format.specs.Command.{Command, plan, task, activation, execution, begin, done, fetch, places, bytes, Decoded, refused, read}
use Rattle.streams.specs.Write.{Wrote, untouched, at_front}
use Rattle.cephlouk.specs.declared.command.FlatCommand.{FlatCommand}
use Rattle.cephlouk.specs.declared.command.FlatDecoded.{FlatDecoded}

-- a byte with no operands, and one whose operand is a task
abbrev pub bare : ℕ → FlatCommand
bare byte = record { byte = byte; p = 0; n = 0; task = 0; parent = 0; work = 0; out = 0; bound = 0 }

abbrev pub of_task : ℕ → ℕ → FlatCommand
of_task byte i = record { byte = byte; p = 0; n = 0; task = i; parent = 0; work = 0; out = 0; bound = 0 }

-- the numbers of a command; what it does not have is 0
abbrev pub flat_command : Command → FlatCommand
flat_command (plan n p bound) =
    record { byte = 1; p = p; n = n; task = 0; parent = 0; work = 0; out = 0; bound = bound }
flat_command (task parent work out) =
    record { byte = 2; p = 0; n = 0; task = 0; parent = parent; work = work; out = out; bound = 0 }
flat_command (activation i) = of_task 3 i
flat_command (execution i) = of_task 4 i
flat_command begin = bare 5
flat_command (done i) = of_task 6 i
flat_command fetch = bare 7
flat_command (places bound) =
    record { byte = 8; p = 0; n = 0; task = 0; parent = 0; work = 0; out = 0; bound = bound }

-- what stands at a place of a stream; in a refusal all but the number is 0
abbrev pub flat_decoded : Decoded → FlatDecoded
flat_decoded (refused k) = record { number = k; used = 0; command = bare 0 }
flat_decoded (read c used) = record { number = 0; used = used; command = flat_command c }

-- the command of a byte and its operands, whatever the other numbers are; none where the byte is unknown
unfoldable pub named : FlatCommand → Option Command
named f =
    cond (eqb f.byte 1) (some (plan f.n f.p f.bound))
    (cond (eqb f.byte 2) (some (task f.parent f.work f.out))
    (cond (eqb f.byte 3) (some (activation f.task))
    (cond (eqb f.byte 4) (some (execution f.task))
    (cond (eqb f.byte 5) (some begin)
    (cond (eqb f.byte 6) (some (done f.task))
    (cond (eqb f.byte 7) (some fetch) (cond (eqb f.byte 8) (some (places f.bound)) none)))))))

-- the same with how many bytes it has, or "the byte is none of .." (2)
unfoldable pub known : Option Command → Decoded
known none = refused 2
known (some c) = read c (length (bytes c))

-- its bytes to the front of a list: 2 where it is none, then 11 if the list is shorter than they are
unfoldable pub encode : FlatCommand → List ℕ → Wrote
encode f list =
    elim (named f) [
      | none ↦ untouched 2 list
      | some c ↦ cond (ltb (length list) (length (bytes c))) (untouched 11 list) (at_front (bytes c) list)
    ]

-- what is promised of the numbers of a command: they name it again
abbrev pub EveryNameHolds : Type 0
EveryNameHolds = (c : Command) → named (flat_command c) ≡ some c
