-- `unended_child` meets its contract: the first that is such a child is the lowest.
use Rattle.std.proofs.Common.{arith, sym, ◌∙◌}
use Rattle.numbers.proofs.Lowest.{lowest-none, lowest-is}
use Rattle.words.specs.Contents.{contents}
use Rattle.reason.proofs.unended_child.Goals as goal

pub is_unended_child-requires : goal.is_unended_child-requires
unfolding contents
is_unended_child-requires c = omega arith

pub overflow_cast-result : goal.overflow_cast-result
unfolding contents
overflow_cast-result c = omega arith

pub returns-then-is_unended_child : goal.returns-then-is_unended_child
unfolding contents
returns-then-is_unended_child c =
    sym
    (lowest-is _ _ _
    (record {
      task = omega arith;
      passes = sym c.is_unended_child.ensures ∙ c.if-is_unended_child.true;
      below = λ d low high. c.loop-child.invariant d low (omega arith);
    }))

pub returns : goal.returns
unfolding contents
returns c = sym (lowest-none _ _ (λ d t. c.loop-child.invariant d t.low (omega (arith, t.high))))
