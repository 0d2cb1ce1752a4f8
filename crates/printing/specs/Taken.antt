-- A turn of the day printer in code.
use Rattle.std.specs.Prelude.{◌≡◌, List, ℕ, ◌≤◌, length}
use Rattle.texts.specs.Text.{longest_line}
use Rattle.texts.specs.Printer as rules
use Rattle.answer.specs.Meaning.{plan_of}
use Rattle.answer.specs.ValidPlan.{ValidPlan}
use Rattle.put.specs.Written.{Written}
use Rattle.printing.specs.declared.Turned.{Turned}
use Rattle.printing.specs.Verdict.{verdict_of}

-- a turn t of the rules, taken with a plan of words w and a buffer: all that its caller receives
pub record Taken (w : List ℕ) (t : rules.Turn) (buffer : List ℕ) (r : Turned) (w' list buffer' : List ℕ) : Type 0 where
  -- the verdict, the bytes used, the plan and the whole start list are those of the rules
  pub verdict : verdict_of r.verdict ≡ t.verdict
  pub used : r.used ≡ t.used
  pub state : plan_of w' ≡ t.state
  pub starts : list ≡ t.list
  -- what is printed stands at the front of the buffer, as much of it as there is room for
  pub printed : Written t.text buffer buffer' r.written
  -- and it is no longer than the longest line
  pub short : length t.text ≤ longest_line
  -- commands led to the plan that is left
  pub valid : ValidPlan w'
  -- the very words are left, unless a command was accepted
  pub kept : (verdict_of r.verdict ≡ rules.continues → ⊥) → w' ≡ w
