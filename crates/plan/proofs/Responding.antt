-- A command in code: the start list is checked first, then what was decoded, and commands led to what is left.
use mathlib.Core.Path.{◌≡◌, refl, sym, ap, subst, ◌∙◌}
use mathlib.Core.Bool.{Bool, cond}
use mathlib.Core.List.{List}
use Prim.Native.Nat.{ℕ, ◌≤◌, ◌<◌}
use lib.ListN.{length}
use borrow.Author.Tests.{lt-ltb, le-ltb}
use Rattle.std.specs.Prelude.{Err}
use Rattle.refusal.specs.declared.Refusal.{Refusal}
use Rattle.refusal.specs.declared.Refusal.TheVariants.{FewStarts}
use Rattle.refusal.specs.Number.{number_of}
use Rattle.numbers.specs.Limits.{least_starts}
use Rattle.rules.specs.State.{State}
use Rattle.format.specs.Command.{Command, Decoded, refused, read, decode}
use Rattle.rules.specs.Reachable.{Reachable, next}
use Rattle.rules.specs.Answer as rules
use Rattle.rules.proofs.Reaching.{is_read}
use Rattle.words.specs.Contents.{contents}
use Rattle.answer.specs.declared.Answer.{Answer}
use Rattle.answer.specs.Told.{told}
use Rattle.answer.specs.Meaning.{plan_of, answered_of}
use Rattle.answer.specs.Sound.{Sound}
use Rattle.answer.specs.ValidPlan.{ValidPlan, Judged, Commanded}
use Rattle.answer.proofs.Obeying as obeying

-- an answer of the rules that leaves a sound plan is all that is asked
commanded :
    {w : List ℕ} {asking : rules.Asking} {a : Answer} {w' list' : List ℕ} {d : Decoded}
    → ValidPlan w
    → d ≡ decode asking.stream asking.place
    → answered_of a (contents w') list' ≡ rules.respond (plan_of w) d asking.list
    → Sound (contents w')
    → ((a.number ≡ 0 → ⊥) → w' ≡ w)
    → Commanded w asking a w' list'
unfolding rules.command
commanded {w = w} {asking = asking} valid e same sound very =
    let is = same ∙ ap (λ (d : Decoded). rules.respond (plan_of w) d asking.list) e in
    record {
      same = is;
      valid =
          record {
            reached =
                subst (λ (s : State). Reachable s) (sym (ap (λ (r : rules.Answered). r.state) is))
                (next (decode asking.stream asking.place) asking.list valid.reached);
            sound = sound;
          };
      refused = very;
    }

-- too short a start list
pub short-list :
    (w : List ℕ) (asking : rules.Asking)
    → ValidPlan w
    → length asking.list < least_starts
    → Commanded w asking (told (Err FewStarts)) w asking.list
unfolding rules.respond
short-list w asking valid short =
    commanded valid refl
    (obeying.refuses (contents w) asking.list FewStarts
    ∙ ap
    (λ (t : Bool).
    cond t (rules.refuse 10 (plan_of w) asking.list)
    (elim (decode asking.stream asking.place) [
      | refused k ↦ rules.refuse k (plan_of w) asking.list
      | read c used ↦ rules.judge (plan_of w) c used asking.list
    ]))
    (sym (lt-ltb (length asking.list) least_starts short)))
    valid.sound (λ _. refl)

-- what is no command
pub not-a-command :
    (w : List ℕ) (asking : rules.Asking) (r : Refusal)
    → ValidPlan w
    → least_starts ≤ length asking.list
    → refused (number_of r) ≡ decode asking.stream asking.place
    → Commanded w asking (told (Err r)) w asking.list
unfolding rules.respond
not-a-command w asking r valid room e =
    commanded valid e
    (obeying.refuses (contents w) asking.list r
    ∙ ap (λ (t : Bool). cond t (rules.refuse 10 (plan_of w) asking.list) (rules.refuse (number_of r) (plan_of w) asking.list))
    (sym (le-ltb (length asking.list) least_starts room)))
    valid.sound (λ _. refl)

-- a command that was read
pub as-judged :
    {w : List ℕ} {asking : rules.Asking} {c : Command} {used : ℕ} {list' : List ℕ} {a : Answer} {w' : List ℕ}
    → ValidPlan w
    → least_starts ≤ length asking.list
    → read c used ≡ decode asking.stream asking.place
    → Judged w c used asking.list a w' list'
    → Commanded w asking a w' list'
as-judged {w = w} {asking = asking} {c = c} {used = used} valid room e s =
    commanded valid e (s.same ∙ sym (is_read (plan_of w) c used asking.list (le-ltb (length asking.list) least_starts room))) s.sound s.refused
