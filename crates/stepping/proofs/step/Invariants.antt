-- What holds from turn to turn: `StepLoop`; what falls: the bytes at hand from the next command on.
use Rattle.std.proofs.Common.{◌-◌, length, take}
use Rattle.stepping.proofs.Stepping.{StepLoop}
use Rattle.stepping.proofs.step.Given as goal

abbrev pub invariant-loop-output : goal.invariant-loop-output
invariant-loop-output l =
    StepLoop (take l.fn.position.filled l.input) l.fn.starts l.fn.output l.fn.plan.words l.fn.position l.plan.words l.position l.starts
    l.output l.written

abbrev pub decreases-loop-output : goal.decreases-loop-output
decreases-loop-output l = length (take l.fn.position.filled l.input) - l.position.place
