-- `first_true` meets its contract: each way out knows the standing of the task, and the last two what its children do.
use Rattle.std.proofs.Common.{arith, sym, ap, ◌≡◌, ◌+◌, ◌*◌, ◌<◌, ℕ, List, Bool, true, false, eqb, ◌∙◌}
use Rattle.std.proofs.lemmas.Bool.{eqb-true, eqb-false, eq-eqb, ne_eqb}
use Rattle.numbers.specs.Lists.{at}
use Rattle.books.specs.Standing.{waiting, activated, running, finished}
use Rattle.books.specs.Booking.{fed}
use Rattle.whys.specs.Why as rules
use Rattle.whys.proofs.Why.{why-ended, why-running, why-waiting, why-unfed, why-no-processor}
use Rattle.words.specs.Layout.{row, rows}
use Rattle.words.specs.Contents.{contents}
use Rattle.words.proofs.Contents.{lengths}
use Rattle.words.proofs.Views.{column-at}
use Rattle.answer.specs.Meaning.{plan_of}
use Rattle.answer.proofs.Meant.{standings-meant, going}
use Rattle.reason.specs.Asked.{Asked}
use Rattle.reason.proofs.Reading.{child-kept, fed-kept}
use Rattle.reason.proofs.Waiting.{some-waits}
use Rattle.reason.proofs.first_true.Goals as goal

-- of a task that is asked for
module _ {w : List ℕ} {task : ℕ} (a : Asked w task) where
  task_in : task < rows
  task_in = let t = a.is_task in let s = a.valid.sound.small in omega arith

  -- what is read is the standing of the task
  standing_is : at w (row * task + 4) ≡ at (plan_of w).standings task
  unfolding contents
  standing_is = column-at 4 w task task_in ∙ sym (ap (λ (f : ℕ → ℕ). f task) (standings-meant (contents w) a.valid.sound a.runs))

  stands-so : {b : Bool} (s : ℕ) → b ≡ eqb (at w (row * task + 4)) s → b ≡ true → at (plan_of w).standings task ≡ s
  stands-so s read so = sym standing_is ∙ eqb-true _ _ (sym read ∙ so)

  stands-else : {b : Bool} (s : ℕ) → b ≡ eqb (at w (row * task + 4)) s → b ≡ false → at (plan_of w).standings task ≡ s → ⊥
  stands-else s read other is = eqb-false _ _ (sym read ∙ other) (standing_is ∙ is)

  -- of four standings one is left
  booked :
      (at (plan_of w).standings task ≡ finished → ⊥)
      → (at (plan_of w).standings task ≡ running → ⊥)
      → (at (plan_of w).standings task ≡ waiting → ⊥)
      → at (plan_of w).standings task ≡ activated
  booked not-ended not-running not-waiting =
      let four = (going (contents w) a.valid.reached a.valid.sound a.runs).settled.good.shape.four task a.is_task in omega arith

  unended-is :
      (v : ℕ) → v ≡ at w (row * task + 3) → eqb v 0 ≡ fed (contents w).size (at (plan_of w).parents) (at (plan_of w).standings) task
  unfolding contents
  unended-is v read =
      ap (λ (v : ℕ). eqb v 0) (read ∙ column-at 3 w task task_in) ∙ sym (fed-kept (contents w) a.valid.sound a.runs task a.is_task)

pub returns-then-stands : goal.returns-then-stands
returns-then-stands c =
    sym (why-ended (plan_of c.args.plan.now.words) c.args.task c.requires.runs c.requires.is_task (stands-so c.requires finished c.stands.ensures c.if-stands.true))

pub returns-then-stands-2 : goal.returns-then-stands-2
returns-then-stands-2 c =
    sym
    (why-running (plan_of c.args.plan.now.words) c.args.task c.requires.runs c.requires.is_task
    (stands-so c.requires running c.stands-2.ensures c.if-stands-2.true))

pub not_booked-requires : goal.not_booked-requires
not_booked-requires c =
    record {
      valid = c.requires.valid;
      runs = c.requires.runs;
      more =
          some-waits (contents c.args.plan.now.words) c.requires.valid.reached c.requires.valid.sound c.requires.runs (lengths c.args.plan.now.words)
          c.args.task c.requires.is_task (stands-so c.requires waiting c.stands-3.ensures c.if-stands-3.true);
    }

pub returns-then-stands-3 : goal.returns-then-stands-3
returns-then-stands-3 c =
    c.not_booked.ensures
    ∙ sym
    (why-waiting (plan_of c.args.plan.now.words) c.args.task c.requires.runs c.requires.is_task
    (stands-so c.requires waiting c.stands-3.ensures c.if-stands-3.true))

pub returns-then-cell-ne0 : goal.returns-then-cell-ne0
returns-then-cell-ne0 c =
    ap rules.unfed (c.unended_child.ensures ∙ child-kept (contents c.args.plan.now.words) c.requires.valid.sound c.requires.runs c.args.task)
    ∙ sym
    (why-unfed (plan_of c.args.plan.now.words) c.args.task c.requires.runs c.requires.is_task
    (booked c.requires (stands-else c.requires finished c.stands.ensures c.if-stands.false)
    (stands-else c.requires running c.stands-2.ensures c.if-stands-2.false)
    (stands-else c.requires waiting c.stands-3.ensures c.if-stands-3.false))
    (sym (unended-is c.requires c.cell.result c.cell.ensures) ∙ ne_eqb c.cell.result 0 c.if-cell-ne0.true))

pub returns : goal.returns
returns c =
    sym
    (why-no-processor (plan_of c.args.plan.now.words) c.args.task c.requires.runs c.requires.is_task
    (booked c.requires (stands-else c.requires finished c.stands.ensures c.if-stands.false)
    (stands-else c.requires running c.stands-2.ensures c.if-stands-2.false)
    (stands-else c.requires waiting c.stands-3.ensures c.if-stands-3.false))
    (sym (unended-is c.requires c.cell.result c.cell.ensures) ∙ eq-eqb c.cell.result 0 c.if-cell-ne0.false))
