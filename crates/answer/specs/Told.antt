-- What is told of an outcome as plain numbers. "A refusal answers its number, with bytes used, starts and every other count 0".
use Rattle.std.specs.Prelude.{ℕ, Result, Ok, Err}
use Rattle.refusal.specs.declared.Refusal.{Refusal}
use Rattle.refusal.specs.Number.{number_of}
use Rattle.answer.specs.declared.accepted.Accepted.{Accepted}
use Rattle.answer.specs.declared.Answer.{Answer}
use Rattle.answer.specs.declared.Wrote.{Wrote}

abbrev pub told : Result Accepted Refusal → Answer
told (Ok a) = record { number = 0; used = a.used; starts = a.starts; peak = a.peak; by = a.by; offers = a.offers }
told (Err refusal) = record { number = number_of refusal; used = 0; starts = 0; peak = 0; by = 0; offers = 0 }

-- of a tool that writes into a lent list: how many entries it wrote
abbrev pub told_count : Result ℕ Refusal → Wrote
told_count (Ok count) = record { number = 0; count = count }
told_count (Err refusal) = record { number = number_of refusal; count = 0 }
