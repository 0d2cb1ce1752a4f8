-- `start_ready` meets its contract.
use mathlib.Core.Path.{◌≡◌, sym, subst}
use mathlib.Core.List.{◌++◌}
use Prim.Native.Nat.{◌-◌, ◌<◌}
use native.Mathlib.Omega.{arith}
use lib.ListN.{length, drop}
use Rattle.std.proofs.lemmas.List.{length-take, length-take-le, take-append-drop, set-append_left, set-get_or}
use Rattle.words.specs.Contents.{contents}
use Rattle.starting.specs.Started.{Started}
use Rattle.starting.proofs.StartLoop.{none_yet, no-processor, nobody-ready, marked, may-run, next}
use Rattle.starting.proofs.start_ready.Goals as goal

pub overflow_sub-free : goal.overflow_sub-free
unfolding contents
overflow_sub-free c = omega (arith, c.requires.busy)

pub slice_bounds-start-items-end : goal.slice_bounds-start-items-end
unfolding contents
slice_bounds-start-items-end c = omega (arith, c.requires.room, c.requires.few)

pub slice_bounds-start-items-end-2 : goal.slice_bounds-start-items-end-2
unfolding contents
slice_bounds-start-items-end-2 c = sym (length-take-le _ _ (omega (arith, c.requires.room, c.requires.few)))

pub loop-count-init : goal.loop-count-init
loop-count-init c = rw take-append-drop (none_yet c.requires)

pub first_ready-requires : goal.first_ready-requires
first_ready-requires c = marked c.requires c.loop-count.invariant

pub returns-in_default : goal.returns-in_default
returns-in_default c =
    rw set-get_or (nobody-ready c.requires c.loop-count.invariant c.in_default.ensures)

pub run-requires : goal.run-requires
run-requires c = may-run c.requires c.loop-count.invariant c.in-Some.ensures

pub loop-count-preserved : goal.loop-count-preserved
unfolding contents
loop-count-preserved c =
    let inside : c.loop-count.count < length c.loop-count.start-items = omega arith in
    rw set-append_left at
    (next c.requires c.loop-count.invariant c.in-Some.ensures
    (omega (arith, c.requires.busy, length-take (c.cell-processors.result - c.cell-active.result) c.args.starts.now)) c.run.ensures)

pub returns : goal.returns
unfolding contents
returns c =
    let e : c.cell-processors.result - c.cell-active.result ≡ c.loop-count.count =
    omega
    (arith, c.requires.room, c.requires.few, length-take (c.cell-processors.result - c.cell-active.result) c.args.starts.now)
    in
    subst
    (Started (contents c.args.plan.now.words) (contents c.loop-count.plan.words) c.args.starts.now
    (c.loop-count.start-items ++ drop (c.cell-processors.result - c.cell-active.result) c.args.starts.now))
    (sym e) (no-processor c.requires c.loop-count.invariant (omega (arith, c.requires.busy)))
