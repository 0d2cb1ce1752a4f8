-- A call that asks a command: its number is the ground against it, and where there is none it leaves what obeying the command does.
use mathlib.Core.Path.{◌≡◌, refl, sym, ap, ◌∙◌}
use mathlib.Core.Bool.{true}
use mathlib.Core.Logic.{⊎_elim}
use mathlib.Core.List.{List}
use Prim.Native.Nat.{ℕ}
use lib.ListN.{length}
use borrow.Author.Tests.{eqb-true, eq-eqb, le-ltb}
use Rattle.numbers.specs.Limits.{least_starts}
use Rattle.format.specs.Command.{Command}
use Rattle.rules.specs.Grounds.{ground_for}
use Rattle.rules.specs.Obey.{obey}
use Rattle.rules.specs.Answer as rules
use Rattle.numbers.proofs.Tests.{same_or_not}
use Rattle.rules.proofs.Judging.{judge-refused}
use Rattle.rules.proofs.Reaching.{is_read}
use Rattle.streams.proofs.Stream.{granted-answer}
use Rattle.answer.specs.Meaning.{plan_of}
use Rattle.demand.specs.Calls.{Call, CallContract, accepted, Asks}

-- what is received from a call that asks a command against which there is no ground
pub record Followed (w : List ℕ) (c : Call) (k : Command) (used : ℕ) : Type 0 where
  pub accepts : accepted c ≡ true
  pub used-is : c.answer.used ≡ used
  pub left : plan_of c.left ≡ (obey (plan_of w) k).state

module _ {w : List ℕ} {c : Call} {k : Command} (e : CallContract w c) (a : Asks k c) where
  pub followed : ground_for (plan_of w) k ≡ 0 → Followed w c k a.used
  unfolding rules.accept
  followed free =
      let answered = e.same ∙ granted-answer (plan_of w) c.asking k a.used a.bytes free a.long in
      record {
        accepts = eq-eqb c.answer.number 0 (ap (λ (r : rules.Answered). r.answer.number) answered);
        used-is = ap (λ (r : rules.Answered). r.answer.used) answered;
        left = ap (λ (r : rules.Answered). r.state) answered;
      }

  refused :
      (ground_for (plan_of w) k ≡ 0 → ⊥)
      → rules.command (plan_of w) c.asking ≡ rules.refuse (ground_for (plan_of w) k) (plan_of w) c.asking.list
  unfolding rules.command
  refused some =
      rw a.bytes
      (is_read (plan_of w) k a.used c.asking.list (le-ltb (length c.asking.list) least_starts a.long)
      ∙ judge-refused (plan_of w) k (ground_for (plan_of w) k) a.used c.asking.list refl some)

  pub number_is : c.answer.number ≡ ground_for (plan_of w) k
  unfolding rules.refuse
  number_is =
      ⊎_elim (λ free. eqb-true c.answer.number 0 (followed free).accepts ∙ sym free)
      (λ some. ap (λ (r : rules.Answered). r.answer.number) (e.same ∙ refused some))
      (same_or_not (ground_for (plan_of w) k) 0)
