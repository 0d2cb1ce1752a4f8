use Rattle.std.proofs.Common.{◌+◌, ◌∙◌, arith, rules}
use Rattle.std.proofs.lemmas.Iterator.{YieldsList-from_range}
use Rattle.std.proofs.lemmas.Iterator.Consumers.{YieldsList-from_filter, count_from_yields_List}
use borrow.Author.Tests.{tests}
use Rattle.numbers.specs.Lists.{at}
use Rattle.words.specs.Contents.{contents}
use Rattle.survey.specs.Checks.{is_late}
use Rattle.survey.proofs.Counting.{counted}
use Rattle.survey.proofs.checks.late.Goals as goal

pub returns : goal.returns
returns c =
    count_from_yields_List _ _ c.count.ensures.ran
    (YieldsList-from_filter _ (is_late (at (contents c.args.plan.now.words).parents) (at (contents c.args.plan.now.words).ranks))
    (YieldsList-from_range 1 (c.args.n + 1) c.args.n c.filter.ensures.source (omega arith)) c.filter.ensures.closure (λ x r q k. search (rules, tests)))
    ∙ counted _ c.args.n
