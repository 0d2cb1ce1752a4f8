-- `may_append` meets its contract: each way out knows what the tests before it said.
use Rattle.std.proofs.Common.{arith, sym, ◌∙◌}
use Rattle.words.specs.Kept.{counted_word, order_base}
use Rattle.words.specs.Contents.{contents}
use Rattle.ordering.proofs.Ordering.{other-phase, whole-order, outside, again, no-ground}
use Rattle.words.proofs.Tests.{are-same, are-apart}
use Rattle.ordering.proofs.may_append.Goals as goal

pub returns-then-not-is_in : goal.returns-then-not-is_in
unfolding contents
returns-then-not-is_in c =
    other-phase (counted_word c.args.order) (order_base c.args.order) c.args.task c.args.plan.now.words
    (are-apart c.is_in.ensures c.if-not-is_in.true)

pub returns-then-size-count : goal.returns-then-size-count
unfolding contents
returns-then-size-count c =
    whole-order (counted_word c.args.order) (order_base c.args.order) c.args.task c.args.plan.now.words
    (are-same c.is_in.ensures c.if-not-is_in.false)
    c.cell-size.ensures (rw c.counted.ensures at c.cell-count.ensures) c.if-size-count.true

pub returns-then-not-is_within : goal.returns-then-not-is_within
unfolding contents
returns-then-not-is_within c =
    outside (counted_word c.args.order) (order_base c.args.order) c.args.task c.args.plan.now.words
    (are-same c.is_in.ensures c.if-not-is_in.false)
    c.cell-size.ensures (rw c.counted.ensures at c.cell-count.ensures)
    (λ h. let l = c.if-size-count.false in omega arith) (sym c.is_within.ensures ∙ c.if-not-is_within.true)

pub returns-then-contains : goal.returns-then-contains
unfolding contents
returns-then-contains c =
    again (counted_word c.args.order) (order_base c.args.order) c.args.task c.args.plan.now.words
    (are-same c.is_in.ensures c.if-not-is_in.false)
    c.cell-size.ensures (rw c.counted.ensures at c.cell-count.ensures)
    (λ h. let l = c.if-size-count.false in omega arith) (sym c.is_within.ensures ∙ c.if-not-is_within.false)
    (sym c.if-contains.true ∙ c.contains.ensures)

pub returns : goal.returns
unfolding contents
returns c =
    no-ground (counted_word c.args.order) (order_base c.args.order) c.args.task c.args.plan.now.words
    (are-same c.is_in.ensures c.if-not-is_in.false)
    c.cell-size.ensures (rw c.counted.ensures at c.cell-count.ensures)
    (λ h. let l = c.if-size-count.false in omega arith) (sym c.is_within.ensures ∙ c.if-not-is_within.false)
    (sym c.if-contains.false ∙ c.contains.ensures)
