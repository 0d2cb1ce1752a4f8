-- Laws of a whole command in code: a refusal leaves the very words, and one that starts nothing leaves what the rules say.
use mathlib.Core.Path.{◌≡◌, refl, sym, ap, subst, ◌∙◌}
use mathlib.Core.List.{List}
use Prim.Native.Nat.{ℕ}
use Rattle.format.specs.Command as rules
use Rattle.rules.specs.Grounds.{ground_for}
use Rattle.rules.specs.Obey.{Outcome, plain, obey}
use Rattle.rules.specs.Answer as answers
use Rattle.rules.proofs.Judging.{judge-refused, judge-accepted}
use Rattle.words.specs.Contents.{Contents, contents}
use native.Mathlib.Omega.{arith}
use Rattle.std.specs.Prelude.{Ok, Err}
use Rattle.refusal.specs.declared.Refusal.{Refusal}
use Rattle.refusal.specs.Number.{number_of}
use Rattle.refusal.proofs.Number.{some_number}
use Rattle.answer.specs.declared.accepted.Accepted.{Accepted}
use Rattle.answer.specs.Told.{told}
use Rattle.answer.specs.Meaning.{meaning, plan_of, answered_of}
use Rattle.answer.specs.Sound.{Sound}
use Rattle.answer.specs.ValidPlan.{Judged, Obeyed}

-- the answer to a command that starts nothing
abbrev pub accepted : ℕ → Accepted
accepted used = record { used = used; starts = 0; peak = 0; by = 0; offers = 0 }

-- a refusal leaves the plan and the start list
pub refuses :
    (c : Contents) (list : List ℕ) (r : Refusal)
    → answered_of (told (Err r)) c list ≡ answers.refuse (number_of r) (meaning c) list
unfolding answers.refuse
refuses c list r = refl

-- by the ground of the rules
pub refusal :
    {w : List ℕ} {c : rules.Command} {used : ℕ} (r : Refusal)
    → Sound (contents w)
    → ground_for (plan_of w) c ≡ number_of r
    → Obeyed w c used (told (Err r)) w
refusal {w = w} {c = c} {used = used} r sound why list =
    record {
      same = refuses (contents w) list r ∙ sym (judge-refused (plan_of w) c (number_of r) used list why (λ e. let h = some_number r in omega arith));
      sound = sound;
      refused = λ _. refl;
    }

-- a plain answer with the plan that the rules leave
pub acceptance :
    {w w' : List ℕ} {c : rules.Command} {used : ℕ} {a : Accepted} {left : Contents}
    → ground_for (plan_of w) c ≡ 0
    → a ≡ accepted used
    → contents w' ≡ left
    → obey (plan_of w) c ≡ plain (meaning left)
    → Sound left
    → Obeyed w c used (told (Ok a)) w'
unfolding answers.accept answers.front
acceptance {w = w} {w' = w'} {c = c} {used = used} {a = a} none said is means sound list =
    record {
      same =
          ap (λ (b : Accepted). answered_of (told (Ok b)) (contents w') list) said
          ∙ ap (λ (l : Contents). answered_of (told (Ok (accepted used))) l list) is
          ∙ sym
          (judge-accepted (plan_of w) c used list none
          ∙ ap (λ (o : Outcome). answers.accept o used list) means);
      sound = subst (λ (l : Contents). Sound l) (sym is) sound;
      refused = λ d. absurd (d refl);
    }

-- an accepted command that may start tasks
pub judged :
    {w w' : List ℕ} {c : rules.Command} {used : ℕ} {list list' : List ℕ} {a : Accepted}
    → ground_for (plan_of w) c ≡ 0
    → answered_of (told (Ok a)) (contents w') list' ≡ answers.accept (obey (plan_of w) c) used list
    → Sound (contents w')
    → Judged w c used list (told (Ok a)) w' list'
judged {w = w} {c = c} {used = used} {list = list} none same sound =
    record {
      same = same ∙ sym (judge-accepted (plan_of w) c used list none);
      sound = sound;
      refused = λ d. absurd (d refl);
    }
