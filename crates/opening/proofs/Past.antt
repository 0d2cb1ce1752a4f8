-- Nothing stands in the words past the tasks of a plan, in any phase.
use mathlib.Core.Logic.{⊎_elim}
use Prim.Native.Nat.{◌≤◌, ◌<◌}
use native.Mathlib.Omega.{arith}
use Rattle.books.specs.Kind.{chilled}
use Rattle.rules.specs.Phase
use Rattle.rules.specs.Reachable.{Reachable}
use Rattle.numbers.proofs.Tests.{le-or-lt}
use Rattle.words.specs.Contents.{Contents}
use Rattle.answer.specs.Meaning.{meaning}
use Rattle.answer.specs.Sound.{DayPast, Sound}
use Rattle.answer.proofs.Past.{unused-past, running-past}
use Rattle.opening.proofs.Opening.{NothingPast}

module _ (c : Contents) (sound : Sound c) (reached : Reachable (meaning c)) where
  -- nothing of a day: before it, while it runs, and once all have ended
  day-past : DayPast c.size c
  day-past =
      ⊎_elim
      (λ (h : Phase.running ≤ c.phase).
      ⊎_elim (λ (l : c.phase ≤ Phase.running). running-past c sound reached (omega arith))
      (λ (l : Phase.running < c.phase). ((sound.day h).closed l).past) (le-or-lt c.phase Phase.running))
      (λ (h : c.phase < Phase.running).
      (let z = sound.rest (omega arith) in
      record {
        unended = λ a _. z.unended a;
        standings = λ a _. z.standings a;
        needs = λ a _. z.needs chilled a;
        booked = λ a _. z.booked chilled a;
        figures = λ a _. z.figures chilled a;
      }))
      (le-or-lt Phase.running c.phase)

  pub nothing-past : NothingPast c.size c
  nothing-past =
      record {
        parents = unused-past c sound reached c.parents sound.parents;
        works = unused-past c sound reached c.stores.chilled.works sound.works;
        outs = unused-past c sound reached c.stores.chilled.outs sound.outs;
        day = day-past;
      }
