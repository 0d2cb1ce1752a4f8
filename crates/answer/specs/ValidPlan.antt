-- A plan that commands led to, the one that is new, and what a command leaves of it.
use Rattle.std.specs.Prelude.{◌≡◌, List, ℕ, replicate}
use Rattle.format.specs.Command as rules
use Rattle.rules.specs.Reachable.{Reachable}
use Rattle.rules.specs.Answer as answers
use Rattle.words.specs.Layout.{words}
use Rattle.words.specs.Contents.{contents}
use Rattle.answer.specs.declared.Answer.{Answer}
use Rattle.answer.specs.Meaning.{plan_of, answered_of}
use Rattle.answer.specs.Sound.{Sound}

-- "commands led to the plan": it is what commands leave of an empty plan, and what its words keep beside agrees with it
pub record ValidPlan (w : List ℕ) : Type 0 where
  pub reached : Reachable (plan_of w)
  pub sound : Sound (contents w)

-- words as `Plan::new` gives them
abbrev pub NewPlan : List ℕ → Type 0
NewPlan w = w ≡ replicate words 0

-- a whole command: the answer, the plan and the start list are those of the rules, and a refused one leaves the very words
pub record Judged (w : List ℕ) (c : rules.Command) (used : ℕ) (list : List ℕ) (a : Answer) (w' list' : List ℕ) : Type 0 where
  pub same : answered_of a (contents w') list' ≡ answers.judge (plan_of w) c used list
  pub sound : Sound (contents w')
  pub refused : (a.number ≡ 0 → ⊥) → w' ≡ w

-- one that starts nothing: whatever the start list, it stays
abbrev pub Obeyed : (w : List ℕ) (c : rules.Command) (used : ℕ) (a : Answer) (w' : List ℕ) → Type 0
Obeyed w c used a w' = (list : List ℕ) → Judged w c used list a w' list

-- any command, asked in bytes: all that its caller receives
pub record Commanded (w : List ℕ) (asking : answers.Asking) (a : Answer) (w' list' : List ℕ) : Type 0 where
  -- the number, bytes used, starts, the peak with its task, offers, the plan and the whole start list are those of the rules
  pub same : answered_of a (contents w') list' ≡ answers.command (plan_of w) asking
  -- commands led to the plan that is left
  pub valid : ValidPlan w'
  -- a refused command leaves the very words
  pub refused : (a.number ≡ 0 → ⊥) → w' ≡ w
