-- A worked list of calls on a new plan, one refused and one accepted: what is promised of every list of calls is not empty.
use mathlib.Core.Path.{◌≡◌, refl, sym, ap, subst}
use mathlib.Core.List.{List, [], ◌∷◌, map}
use Prim.Native.Nat.{ℕ, ◌+◌, ◌<◌}
use native.Mathlib.Omega.{arith}
use lib.ListN.{set, replicate}
use Rattle.std.specs.Prelude.{Ok, Err}
use Rattle.refusal.specs.declared.Refusal.TheVariants.{UnknownByte}
use Rattle.rules.specs.Phase
use Rattle.rules.specs.State.{State}
use Rattle.format.specs.Command.{plan, bytes, decode}
use Rattle.rules.specs.Reachable.{Reachable, next}
use Rattle.rules.specs.Answer as rules
use Rattle.rules.specs.Day.{in_force}
use Rattle.worked.specs.Marked.{ask, reading}
use Rattle.worked.proofs.Computing.{computing}
use Rattle.words.specs.Layout.{words, head_base}
use Rattle.words.specs.Contents.{contents}
use Rattle.answer.specs.Meaning.{plan_of}
use Rattle.answer.specs.ValidPlan.{Judged, NewPlan}
use Rattle.demand.specs.Calls.{Call, CallContract, Calls, Entries, Answers, left_by, asked, all_received, next_plan, history}
use Rattle.demand.specs.Demand.{OpenedWith, CallsHold}
use Rattle.answer.specs.Told.{told}
use Rattle.answer.proofs.Obeying.{accepted, acceptance}
use Rattle.opening.proofs.Opening.{opening-contents, opening-sound, opening-means, open_free}
use Rattle.plan.proofs.NewPlan.{new-long, new-blank, new-empty, new-valid}
use Rattle.demand.proofs.Demand.{every-call-holds}

-- an unknown byte
unfoldable pub unknown : List ℕ → Call
unknown w = record { asking = reading (9 ∷ []) 0; answer = told (Err UnknownByte); left = w; list = replicate 64 0 }

-- PLAN with n = 3, p = 2 and M = 7: five words of the head are written
unfoldable pub opens : List ℕ → Call
opens w =
    record {
      asking = ask (plan 3 2 7);
      answer = told (Ok (accepted 8));
      left =
          set (set (set (set (set w (head_base + 0) Phase.steps) (head_base + 1) 3) (head_base + 2) 2) (head_base + 3) 1)
          (head_base + 5) 7;
      list = replicate 64 0;
    }

unfoldable pub worked : List ℕ → List Call
worked w = unknown w ∷ opens w ∷ []

module _ {w : List ℕ} (new : NewPlan w) where
  unknown-byte : CallContract w (unknown w)
  unfolding unknown computing reading
  unknown-byte = record { same = refl; valid = new-valid new; refused = λ _. refl }

  judged : Judged w (plan 3 2 7) 8 (replicate 64 0) (told (Ok (accepted 8))) (opens w).left (replicate 64 0)
  unfolding opens Phase.holds_trays
  judged =
      acceptance
      (open_free (contents w) 3 2 7 (ap (λ (s : State). Phase.holds_trays s.phase) (new-empty new)) refl refl (omega arith))
      refl
      (opening-contents w _ _ _ _ 3 2 7 (new-long new) refl refl refl refl refl)
      (opening-means (contents w) (new-blank new) 3 2 7 (contents w))
      (opening-sound (contents w) (new-blank new) 3 2 7 refl refl (omega arith)) (replicate 64 0)

  opens-plan : CallContract w (opens w)
  unfolding opens ask computing
  opens-plan =
      record {
        same = judged.same;
        valid =
            record {
              reached =
                  subst (λ (s : State). Reachable s) (sym (ap (λ (a : rules.Answered). a.state) judged.same))
                  (next (decode (bytes (plan 3 2 7)) 0) (replicate 64 0) (new-valid new).reached);
              sound = judged.sound;
            };
        refused = λ d. absurd (d refl);
      }

  pub worked-calls : Calls w (worked w)
  unfolding Calls worked unknown
  worked-calls = (unknown-byte, (opens-plan, tt))

-- all that is promised of a list of calls holds of it
pub worked-hold : CallsHold (replicate words 0) (worked (replicate words 0))
worked-hold = every-call-holds (replicate words 0) refl (worked (replicate words 0)) (worked-calls refl)

-- the numbers that are answered
pub worked-numbers : (w : List ℕ) → map (λ r. r.answer.number) (all_received (worked w)) ≡ 2 ∷ 0 ∷ []
unfolding all_received worked unknown opens
worked-numbers w = refl

-- the plan is the one that the second call opened
pub worked-plan : OpenedWith 3 2 7 (plan_of (left_by (replicate words 0) (worked (replicate words 0))))
unfolding worked opens ask computing next_plan history in_force
worked-plan =
    worked-hold.plans (unknown (replicate words 0) ∷ []) (opens (replicate words 0)) [] 3 2 7 8 refl refl refl refl

-- not all tasks are given yet, so no order is found
pub worked-finds :
    (q : Answers (left_by (replicate words 0) (worked (replicate words 0)))) (list : List ℕ)
    → Entries list
    → (q.found list).number ≡ 3
unfolding worked unknown opens ask reading asked computing
worked-finds q list fits =
    (worked-hold.finds q list fits).early
    (subst (λ (s : State). s.phase < Phase.orders) (sym worked-hold.leaves) (omega arith))
