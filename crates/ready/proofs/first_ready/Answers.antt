-- `first_ready` meets its contract: the first word of the set that is not 0, and its lowest bit.
use mathlib.Core.Path.{◌≡◌, sym, ap, ◌∙◌}
use lib.Count.{count_trailing_zeros}
use Rattle.words.specs.Layout.{bits, blocks, ready_base}
use Rattle.words.specs.Contents.{contents}
use Rattle.words.proofs.Views.{part_at}
use Rattle.ready.proofs.Marks.{word_in, first-none, first-lowest}
use Rattle.ready.proofs.first_ready.Goals as goal

pub returns-then-filled-eq0 : goal.returns-then-filled-eq0
unfolding contents
returns-then-filled-eq0 c = first-none (contents c.args.plan.now.words) (sym c.entry-filled.ensures ∙ c.if-filled-eq0.true)

pub returns : goal.returns
unfolding contents
returns c =
    let plan = contents c.args.plan.now.words in
    let full : plan.filled ≡ 0 → ⊥ = λ e. c.if-filled-eq0.false (c.entry-filled.ensures ∙ e) in
    let block : count_trailing_zeros bits c.entry-filled.result ≡ count_trailing_zeros bits plan.filled =
    ap (count_trailing_zeros bits) c.entry-filled.ensures
    in
    first-lowest plan _ _ full block
    (ap (count_trailing_zeros bits)
    (c.entry-word.ensures
    ∙ part_at ready_base blocks c.args.plan.now.words (count_trailing_zeros bits c.entry-filled.result)
    (word_in c.requires.marks full block)))
