use Rattle.std.proofs.Common.{◌∙◌, arith}
use Rattle.survey.proofs.Reading.{work-at, out_at}
use Rattle.survey.proofs.level.sum.Goals as goal

pub returns : goal.returns
returns c =
    let w = c.args.plan.now.words in
    let work = c.cell-work.ensures ∙ work-at w c.args.task (omega arith) c.args.store.offset in
    let out = c.cell-out.ensures ∙ out_at w c.args.task (omega arith) c.args.store.offset in
    omega arith
