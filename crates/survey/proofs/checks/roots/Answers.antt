use Rattle.std.proofs.Common.{◌+◌, ◌*◌, ◌∙◌, ap, arith, eqb, rules}
use Rattle.std.proofs.lemmas.Iterator.{YieldsList-from_range}
use Rattle.std.proofs.lemmas.Iterator.Consumers.{YieldsList-from_filter, count_from_yields_List}
use borrow.Author.Tests.{tests}
use Rattle.numbers.specs.Lists.{at}
use Rattle.words.specs.Layout.{row}
use Rattle.numbers.proofs.Counts.{count-cong}
use Rattle.tree.specs.Tree.{roots}
use Rattle.survey.proofs.Reading.{parent-at}
use Rattle.survey.proofs.Counting.{counted}
use Rattle.survey.proofs.checks.roots.Goals as goal

pub returns : goal.returns
unfolding roots
returns c =
    count_from_yields_List _ _ c.count.ensures.ran
    (YieldsList-from_filter _ (λ x. eqb (at c.args.plan.now.words (row * x + 0)) 0)
    (YieldsList-from_range 1 (c.args.n + 1) c.args.n c.filter.ensures.source (omega arith)) c.filter.ensures.closure (λ x r q k. search (rules, tests)))
    ∙ counted _ c.args.n
    ∙ count-cong _ _ c.args.n (λ i t. ap (λ p. eqb p 0) (parent-at _ i (omega arith)))
