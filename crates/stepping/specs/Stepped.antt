-- A step of the day printer in code.
use Rattle.std.specs.Prelude.{◌≡◌, List, ◌++◌, ℕ, length, drop}
use Rattle.texts.specs.Printer as rules
use Rattle.answer.specs.Meaning.{plan_of}
use Rattle.answer.specs.ValidPlan.{ValidPlan}
use Rattle.printing.specs.Verdict.{verdict_of}
use Rattle.position.specs.declared.Position.{Position}
use Rattle.stepping.specs.declared.Stepped.{Stepped}
use Rattle.position.specs.Standing.{position_of}

-- turns t of the rules, taken from a position and with a buffer: all that their caller receives
pub record Step (x : Position) (t : rules.Turn) (buffer : List ℕ) (r : Stepped) (w' list buffer' : List ℕ) : Type 0 where
  -- the verdict, the plan and the whole start list are those of the rules
  pub verdict : verdict_of r.verdict ≡ t.verdict
  pub state : plan_of w' ≡ t.state
  pub starts : list ≡ t.list
  -- the place of the next command and its offset are further on by the bytes used, and the input has ended or not as before
  pub position : position_of r.position ≡ rules.moved t.used (position_of x)
  -- the whole text stands at the front of the buffer, and no entry behind it changes
  pub printed : buffer' ≡ t.text ++ drop (length t.text) buffer
  pub written : r.written ≡ length t.text
  -- commands led to the plan that is left
  pub valid : ValidPlan w'
