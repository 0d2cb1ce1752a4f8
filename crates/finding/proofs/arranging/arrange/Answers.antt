-- The tasks from a place on have had their turns.
use Rattle.std.proofs.Common.{◌≡◌, ◌-◌, ◌∙◌, arith}
use Rattle.finding.proofs.Turns.{arranged-none, may-join, arranged-next, arranged-all}
use Rattle.finding.proofs.arranging.arrange.Goals as goal

pub loop-place-init : goal.loop-place-init
loop-place-init c = rw c.requires.0 (arranged-none _ _ _ _ _ c.requires.1)

-- the task whose turn it is
pub join-requires : goal.join-requires
join-requires c =
    let within = c.loop-place.invariant.within in
    let task = c.get-task.ensures.0 ∙ c.loop-place.invariant.queue_is (c.loop-place.place - 1) (omega arith) in
    rw task (may-join _ _ _ _ _ c.requires.1 _ _ c.loop-place.invariant c.loop-place-test.true)

pub loop-place-preserved : goal.loop-place-preserved
loop-place-preserved c =
    let within = c.loop-place.invariant.within in
    let task = c.get-task.ensures.0 ∙ c.loop-place.invariant.queue_is (c.loop-place.place - 1) (omega arith) in
    arranged-next _ _ _ _ _ c.requires.1 _ _ c.loop-place.invariant c.loop-place-test.true _ (rw task at c.join.ensures)

pub returns : goal.returns
returns c =
    let none : c.loop-place.place ≡ 0 = omega arith in
    arranged-all _ _ _ _ _ c.requires.1 _ (rw none at c.loop-place.invariant)
