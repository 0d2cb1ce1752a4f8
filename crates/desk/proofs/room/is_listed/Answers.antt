use Rattle.std.proofs.Common.{◌≡◌, ℕ, Bool, List, [], ◌∷◌, refl, ap, ◌∙◌, ◌&&◌, rules, tests}
use Rattle.std.specs.List.{list_all}
use Rattle.std.proofs.lemmas.Iterator.{YieldsList-from_slice}
use Rattle.std.proofs.lemmas.Iterator.Search.{all_from_yields_List}
use Rattle.numbers.specs.Sums.{within}
use Rattle.numbers.specs.Lists.{every}
use Rattle.desk.proofs.room.is_listed.Goals as goal

same : (test : ℕ → Bool) (l : List ℕ) → list_all test l ≡ every test l
unfolding every
same test [] = refl
same test (x ∷ l) = ap (λ (later : Bool). test x && later) (same test l)

pub returns : goal.returns
returns c =
    all_from_yields_List (λ i. within i c.args.n) _ _ _ c.all.ensures.ran (YieldsList-from_slice c.args.activation.now cc)
    (λ x b q k. search (rules, tests))
    ∙ same (λ i. within i c.args.n) c.args.activation.now
