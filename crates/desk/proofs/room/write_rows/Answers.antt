-- The rows passed are written, and their parents are tasks or nobody.
use Rattle.std.proofs.Common.{sym, arith, refl}
use Rattle.std.proofs.lemmas.Bool.{false≢true}
use Rattle.desk.specs.Records.{step_records}
use Rattle.desk.proofs.Rowing.{rowing-none, rowing-at, rowing-next, rowing-stray, rowing-all}
use Rattle.desk.proofs.Records.{length-steps, no-others, entry}
use Rattle.desk.proofs.room.write_rows.Goals as goal

pub loop-place-init : goal.loop-place-init
loop-place-init c = rowing-none (rw (length-steps c.args.records.now) c.requires.0) c.requires.1

pub write_row-requires : goal.write_row-requires
write_row-requires c = let long = length-steps c.args.records.now in rowing-at c.loop-place.invariant (omega arith)

pub returns-then-not-write_row : goal.returns-then-not-write_row
returns-then-not-write_row c =
    let records = c.args.records.now in
    let long = length-steps records in
    let parent = entry (λ r. r.parent) records refl c.loop-place.place in (
      rw (← long) (rowing-stray c.loop-place.invariant (omega arith) (rw (← parent, long) (sym c.if-not-write_row.ensures.0))),
      λ e. absurd (false≢true e),
    )

pub loop-place-preserved : goal.loop-place-preserved
loop-place-preserved c =
    let records = c.args.records.now in
    let long = length-steps records in
    let parent = entry (λ r. r.parent) records refl c.loop-place.place in
    let work = entry (λ r. r.work) records refl c.loop-place.place in
    let out = entry (λ r. r.out) records refl c.loop-place.place in
    rowing-next c.loop-place.invariant (omega arith) _ (rw (← parent, ← work, ← out) c.write_row.ensures.1)
    (rw (← parent, long) (sym c.if-not-write_row.ensures.0))

pub returns : goal.returns
returns c =
    let long = length-steps c.args.records.now in
    let end = rowing-all (no-others (step_records c.args.records.now)) c.loop-place.invariant (omega arith) in
    (rw (← long) end.0, λ _. end.1)
