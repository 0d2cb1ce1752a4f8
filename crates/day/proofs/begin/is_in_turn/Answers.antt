-- `is_in_turn` meets its contract: each way out knows what the tests before it said.
use Rattle.std.proofs.Common.{sym, eqb, ◌∙◌}
use Rattle.std.proofs.lemmas.Bool.{eq-eqb, ne_eqb}
use Rattle.numbers.proofs.Tests.{or_right, or-none}
use Rattle.words.specs.Contents.{contents}
use Rattle.day.specs.Day.{begins}
use Rattle.day.proofs.begin.is_in_turn.Goals as goal
use Rattle.day.proofs.begin.is_in_turn.Goals.{then-not-is_in-via-then-not-is_in, then-not-is_in-via-else-not-is_in+then-not-is_complete}

pub returns-then-not-is_in : goal.returns-then-not-is_in
unfolding contents begins
returns-then-not-is_in c =
    elim c.then-not-is_in.branch [
      | then-not-is_in-via-then-not-is_in w ↦ rw (← c.is_in.ensures, w.if-not-is_in.true)
      | then-not-is_in-via-else-not-is_in+then-not-is_complete w ↦
          rw (← c.is_in.ensures, w.if-not-is_in.false, ← w.is_complete.ensures, w.if-not-is_complete.true)
    ]

pub returns-then-cell-eq0 : goal.returns-then-cell-eq0
unfolding contents begins
returns-then-cell-eq0 c =
    let d = contents c.args.plan.now.words in
    rw (← c.is_in.ensures, c.if-not-is_in.false, ← c.is_complete.ensures, c.if-not-is_complete.false, eq-eqb c.cell.result 0 c.if-cell-eq0.true)
    (sym (or_right (eqb d.placed d.size) (eqb d.placed 0) (eq-eqb d.placed 0 (sym c.cell.ensures ∙ c.if-cell-eq0.true))))

pub returns-else-cell-eq0 : goal.returns-else-cell-eq0
unfolding contents begins
returns-else-cell-eq0 c =
    let d = contents c.args.plan.now.words in
    rw (
      ← c.is_in.ensures,
      c.if-not-is_in.false,
      ← c.is_complete.ensures,
      c.if-not-is_complete.false,
      ne_eqb d.placed 0 (λ e. c.if-cell-eq0.false (c.cell.ensures ∙ e)),
      ← c.is_complete-else-cell-eq0.ensures,
    )
    (sym (or-none _))
