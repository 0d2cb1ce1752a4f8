-- `write_opening` meets its contract: what is read is n, p and M.
use Rattle.std.proofs.Common.{arith, ◌≡◌}
use Rattle.words.specs.Contents.{contents, store_contents}
use Rattle.writer.proofs.write_opening.Goals as goal

pub overflow_cast-n : goal.overflow_cast-n
unfolding contents
overflow_cast-n c = omega (arith, c.requires.valid.sound.small)

pub overflow_cast-p : goal.overflow_cast-p
unfolding contents
overflow_cast-p c = omega (arith, c.requires.valid.sound.few)

pub returns : goal.returns
unfolding contents store_contents
returns c =
    let w = c.args.plan.now.words in
    let n : c.cell-n.result ≡ (contents w).size = c.cell-n.ensures in
    let p : c.cell-p.result ≡ (contents w).processors = c.cell-p.ensures in
    let bound : c.cell-bound.result ≡ (contents w).stores.chilled.bound = c.cell-bound.ensures in
    rw (← n, ← p, ← bound) c.encode.ensures
