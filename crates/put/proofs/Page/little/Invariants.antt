-- What is put, and then the bytes of what is left of the number in the bytes that are left, are the number's.
use Rattle.std.proofs.Common.{◌≡◌, ◌++◌, ◌-◌, ℕ, List}
use Rattle.format.specs.Command.{little}
use Rattle.put.specs.Pages.{Puts}
use Rattle.put.proofs.Page.little.Given as goal

abbrev pub invariant-loop : goal.invariant-loop
invariant-loop l = (done : List ℕ) × Puts done l.initial.self l.self × (little l.width l.x ≡ done ++ little (l.width - l.counter) l.rest)
