-- Each arm writes what the definition has for its command.
use mathlib.Core.Logic.{inl, inr}
use Rattle.texts.specs.Text.{line}
use Rattle.printing.proofs.Printed.{no_text, no-tasks, of-begin, of-done, of-places}
use Rattle.printing.proofs.accepted.accepted_line.Goals as goal

pub returns-in-Begin : goal.returns-in-Begin
returns-in-Begin c = rw c.in-Begin.is (of-begin _ c.figures.ensures c.min.ensures c.begin_line.ensures)

pub returns-in-Done : goal.returns-in-Done
returns-in-Done c = rw c.in-Done.is (of-done _ c.figures-in-Done.ensures c.min.ensures _ c.done_line.ensures)

pub returns-in-Fetch : goal.returns-in-Fetch
unfolding line
returns-in-Fetch c = rw (c.in-Fetch.is, ← c.booked.ensures) (no-tasks c.fetch_line.ensures)

pub returns-in-Places : goal.returns-in-Places
returns-in-Places c = rw c.in-Places.is (of-places _ c.figures-in-Places.ensures c.min.ensures _ c.places_line.ensures)

-- no line
pub returns-in-Plan : goal.returns-in-Plan
unfolding line
returns-in-Plan c =
    elim c.in-Plan.is [
      | inl (n, p, bound, e) ↦ rw e (no_text _ _)
      | inr (inl (parent, work, out, e)) ↦ rw e (no_text _ _)
      | inr (inr (inl (task, e))) ↦ rw e (no_text _ _)
      | inr (inr (inr (task, e))) ↦ rw e (no_text _ _)
    ]
