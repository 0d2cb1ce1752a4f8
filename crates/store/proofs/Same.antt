-- What one part of a command leaves of a plan, several do.
use mathlib.Core.Path.{◌≡◌, refl, fun_ext, ◌∙◌}
use Rattle.numbers.specs.Lists.{at}
use Rattle.words.specs.Contents.{Contents}
use Rattle.store.specs.Rows.{terms_in}
use Rattle.store.specs.Kept.{SamePlan}

pub same_refl : (c : Contents) → SamePlan c c
same_refl c =
    record {
      phase = refl;
      size = refl;
      processors = refl;
      given = refl;
      ranked = refl;
      placed = refl;
      parents = refl;
      ranks = refl;
      places = refl;
      activation = refl;
      execution = refl;
      bound = λ _. refl;
      works = λ _. refl;
      outs = λ _. refl;
      needs = λ _. refl;
    }

pub same-trans : {c c' c'' : Contents} → SamePlan c c' → SamePlan c' c'' → SamePlan c c''
same-trans a b =
    record {
      phase = b.phase ∙ a.phase;
      size = b.size ∙ a.size;
      processors = b.processors ∙ a.processors;
      given = b.given ∙ a.given;
      ranked = b.ranked ∙ a.ranked;
      placed = b.placed ∙ a.placed;
      parents = b.parents ∙ a.parents;
      ranks = b.ranks ∙ a.ranks;
      places = b.places ∙ a.places;
      activation = b.activation ∙ a.activation;
      execution = b.execution ∙ a.execution;
      bound = λ k. b.bound k ∙ a.bound k;
      works = λ k. b.works k ∙ a.works k;
      outs = λ k. b.outs k ∙ a.outs k;
      needs = λ k. b.needs k ∙ a.needs k;
    }

-- what booking finds of the stores is the same
pub terms-same : {c c' : Contents} → SamePlan c c' → terms_in c' ≡ terms_in c
terms-same s = fun_ext (λ k z. record { bound = s.bound k z; need = at (s.needs k z); out = at (s.outs k z) })
