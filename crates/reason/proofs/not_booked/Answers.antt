-- `not_booked` meets its contract: the next task to be booked is the first that waits, and its lack is by the kept figures.
use Rattle.std.proofs.Common.{arith, refl, sym, ap, ap₂, ◌≡◌, ◌+◌, ◌-◌, ℕ, List, ◌∙◌}
use Rattle.books.specs.Kind.{each}
use Rattle.books.specs.Kind
use Rattle.numbers.specs.Lists.{at}
use Rattle.whys.specs.Why as rules
use Rattle.words.specs.Layout.{activation_base}
use Rattle.words.specs.Contents.{Contents, contents}
use Rattle.words.proofs.Contents.{lengths}
use Rattle.store.specs.Kept.{Kept}
use Rattle.booking.specs.Booked.{SomeWait}
use Rattle.booking.proofs.Turn.{task_in}
use Rattle.booking.proofs.Booking.{next_task, lacking, turn, next-in, next-read}
use Rattle.answer.specs.Meaning.{meaning}
use Rattle.answer.proofs.Meant.{still_kept}
use Rattle.reason.specs.Asked.{AskedWaiting}
use Rattle.reason.proofs.Waiting.{within-bound, next-first, next-lack}
use Rattle.reason.proofs.not_booked.Goals as goal

module _ {w : List ℕ} (a : AskedWaiting w) where
  kept : Kept (contents w)
  kept = still_kept (contents w) a.valid.reached a.valid.sound a.runs

  -- the place that is looked at, and the task there
  wait : (next : ℕ) → next ≡ at w 16409 → SomeWait (contents w) next
  unfolding contents
  wait next here = let more = a.more in record { kept = kept; here = here; more = omega arith }

  first-is : (next first : ℕ) → next ≡ at w 16409 → first ≡ at w (activation_base + next) → first ≡ next_task (contents w)
  first-is next first here read = read ∙ next-read w next (wait next here)

pub entry-first-requires : goal.entry-first-requires
entry-first-requires c =
    let w = wait c.requires c.cell-next.result c.cell-next.ensures in
    let more = w.more in
    let small = w.kept.invariant.small in
    omega arith

pub overflow_cast-first : goal.overflow_cast-first
overflow_cast-first c =
    let e = first-is c.requires c.cell-next.result c.entry-first.result c.cell-next.ensures c.entry-first.ensures in
    let low = task_in (turn (kept c.requires) (lengths c.args.plan.now.words) c.requires.more) in
    omega arith

pub missing-units-requires : goal.missing-units-requires
missing-units-requires c =
    rw (first-is c.requires c.cell-next.result c.entry-first.result c.cell-next.ensures c.entry-first.ensures)
    (next-in (kept c.requires) (lengths c.args.plan.now.words) c.requires.more Kind.chilled)

pub shortage-lack-requires : goal.shortage-lack-requires
shortage-lack-requires c =
    let a = c.requires in (
      record { offset = refl; inside = omega arith },
      within-bound (contents c.args.plan.now.words) a.valid.reached a.valid.sound a.runs (lengths c.args.plan.now.words),
    )

pub returns : goal.returns
unfolding rules.lacks
returns c =
    let a = c.requires in
    let p : Contents = contents c.args.plan.now.words in
    let first-there = first-is a c.cell-next.result c.entry-first.result c.cell-next.ensures c.entry-first.ensures in
    let first = next-first p a.valid.reached a.valid.sound a.runs (lengths c.args.plan.now.words) a.more in
    let lack = next-lack p a.valid.reached a.valid.sound a.runs (lengths c.args.plan.now.words) a.more in
    let units : c.missing-units.result ≡ lacking p Kind.chilled =
    c.missing-units.ensures ∙ ap (λ (t : ℕ). at p.stores.chilled.needs t - at p.stores.chilled.figures t) first-there
    in
    ap₂ (λ (x lack : ℕ). rules.not_booked x (each (λ _. lack))) (first-there ∙ sym first)
    (c.shortage-lack.ensures
    ∙ ap (λ (u : ℕ). p.stores.chilled.total + u - p.stores.chilled.bound) units
    ∙ sym lack
    ∙ ap (rules.lack_in (meaning p) (meaning p).stores.chilled) (sym first))
