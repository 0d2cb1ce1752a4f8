-- What the words of a plan and the answers of the code mean in the rules.
use Rattle.std.specs.Prelude.{List, ℕ, suc, leb, take}
use Rattle.books.specs.Kind.{of, each}
use Rattle.numbers.specs.Sums.{only}
use Rattle.rules.specs.Phase
use Rattle.rules.specs.State.{State}
use Rattle.rules.specs.Answer as rules
use Rattle.streams.specs.Write as writing
use Rattle.words.specs.Contents.{Contents, contents}
use Rattle.answer.specs.declared.Answer.{Answer}
use Rattle.answer.specs.declared.Wrote.{Wrote}

-- how many entries the columns of a day have: one for nobody and one for each task, from BEGIN on
abbrev pub day_rows : Contents → ℕ
day_rows c = only (leb Phase.running c.phase) (suc c.size)

-- the plan of the rules whose lists are the entries given so far
abbrev pub meaning : Contents → State
meaning c =
    record {
      phase = c.phase;
      size = c.size;
      processors = c.processors;
      parents = take c.given c.parents;
      activation = take c.ranked c.activation;
      execution = take c.placed c.execution;
      standings = take (day_rows c) c.standings;
      stores =
          each
          (λ k.
          record {
            bound = (of c.stores k).bound;
            works = take c.given (of c.stores k).works;
            outs = take c.given (of c.stores k).outs;
            booked = take (day_rows c) (of c.stores k).booked;
          });
    }

-- the plan in some words
abbrev pub plan_of : List ℕ → State
plan_of w = meaning (contents w)

abbrev pub answer_of : Answer → rules.Answer
answer_of a =
    record {
      number = a.number;
      used = a.used;
      starts = a.starts;
      peaks = each (λ _. record { trays = a.peak; task = a.by });
      offers = a.offers;
    }

-- an answer, with the plan and the start list afterwards
abbrev pub answered_of : Answer → Contents → List ℕ → rules.Answered
answered_of a c list = record { answer = answer_of a; state = meaning c; list = list }

-- what was written, with the lent list afterwards
abbrev pub wrote_of : Wrote → List ℕ → writing.Wrote
wrote_of r list = record { number = r.number; count = r.count; list = list }
