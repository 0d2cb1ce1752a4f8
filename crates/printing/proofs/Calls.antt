-- A turn of the day printer that answers a command is a call of the command function, so that what is promised of every list of calls
-- (`EveryCallHolds`) holds of the plan and of the start lists that turns leave.
use mathlib.Core.Path.{◌≡◌, ap, ◌∙◌}
use mathlib.Core.Bool.{Bool, false, cond}
use mathlib.Core.List.{List}
use Prim.Native.Nat.{ℕ}
use native.Mathlib.Omega.{arith}
use lib.Dec.{leb}
use lib.ListN.{length}
use borrow.Author.Tests.{ne_eqb}
use Rattle.format.specs.Command.{decode}
use Rattle.rules.specs.Answer as answers
use Rattle.texts.specs.Printer as rules
use Rattle.answer.specs.Meaning.{plan_of}
use Rattle.answer.specs.declared.Answer.{Answer}
use Rattle.answer.specs.ValidPlan.{Commanded}
use Rattle.printing.specs.Taken.{Taken}
use Rattle.printing.specs.declared.Turned.{Turned}
use Rattle.printing.specs.Verdict.{verdict_of}

-- the answer that the turn was given
abbrev pub given : answers.Answer → Answer
given a =
    record {
      number = a.number;
      used = a.used;
      starts = a.starts;
      peak = a.peaks.chilled.trays;
      by = a.peaks.chilled.task;
      offers = a.offers;
    }

module _ (w : List ℕ) (asking : answers.Asking) (offset : ℕ) (is_last : Bool) {buffer : List ℕ} {r : Turned} {w' list buffer' : List ℕ}
    (taken : Taken w (rules.turn (plan_of w) asking offset is_last) buffer r w' list buffer')
    (whole : rules.is_awaited is_last (decode asking.stream asking.place) ≡ false)
    (some : leb (length asking.stream) asking.place ≡ false) where
  abbrev a : answers.Answered
  a = answers.command (plan_of w) asking

  turn_is :
      rules.turn (plan_of w) asking offset is_last ≡ rules.answered (decode asking.stream asking.place) offset a
  unfolding rules.turn
  turn_is = rw (whole, some)

  state-is : plan_of w' ≡ a.state
  unfolding rules.answered
  state-is = taken.state ∙ ap (λ (t : rules.Turn). t.state) turn_is

  list_is : list ≡ a.list
  unfolding rules.answered
  list_is = taken.starts ∙ ap (λ (t : rules.Turn). t.list) turn_is

  -- a refusal stops the printer, which leaves the very words
  stops : (a.answer.number ≡ 0 → ⊥) → verdict_of r.verdict ≡ rules.stops
  unfolding rules.answered
  stops d =
      taken.verdict
      ∙ ap (λ (t : rules.Turn). t.verdict) turn_is
      ∙ ap (λ (b : Bool). cond b rules.continues rules.stops) (ne_eqb a.answer.number 0 d)

  -- all that its caller receives is what the command function ensures
  pub turn-call : Commanded w asking (given a.answer) w' list
  turn-call =
      record {
        same = λ z. record { answer = a.answer; state = state-is z; list = list_is z };
        valid = taken.valid;
        refused = λ d. taken.kept (λ e. let s = stops d in omega arith);
      }
