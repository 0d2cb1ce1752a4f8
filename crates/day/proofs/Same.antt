-- What the parts of a command leave of what is given of a plan.
use mathlib.Core.Path.{ap, ◌∙◌}
use Rattle.books.specs.Kind.{chilled}
use Rattle.words.specs.Contents.{Contents}
use Rattle.store.specs.Kept.{SamePlan}
use Rattle.survey.specs.Prepare.{with_needs, with_figures, Prepared}
use Rattle.day.specs.Day.{SameTasks}

pub same-tasks : {c c' : Contents} → SamePlan c c' → SameTasks c c'
same-tasks s =
    record {
      size = s.size;
      processors = s.processors;
      given = s.given;
      ranked = s.ranked;
      placed = s.placed;
      parents = s.parents;
      ranks = s.ranks;
      places = s.places;
      activation = s.activation;
      execution = s.execution;
      bound = s.bound chilled;
      works = s.works chilled;
      outs = s.outs chilled;
    }

pub then_same : {c d e : Contents} → SameTasks c d → SameTasks d e → SameTasks c e
then_same s t =
    record {
      size = t.size ∙ s.size;
      processors = t.processors ∙ s.processors;
      given = t.given ∙ s.given;
      ranked = t.ranked ∙ s.ranked;
      placed = t.placed ∙ s.placed;
      parents = t.parents ∙ s.parents;
      ranks = t.ranks ∙ s.ranks;
      places = t.places ∙ s.places;
      activation = t.activation ∙ s.activation;
      execution = t.execution ∙ s.execution;
      bound = t.bound ∙ s.bound;
      works = t.works ∙ s.works;
      outs = t.outs ∙ s.outs;
    }

-- the figures of a day are no part of what is given
pub prepared-same : {c c' : Contents} → Prepared c c' → SameTasks c c'
unfolding with_figures with_needs
prepared-same {c} {c'} p =
    record {
      size = ap (λ (d : Contents). d.size) p.same;
      processors = ap (λ (d : Contents). d.processors) p.same;
      given = ap (λ (d : Contents). d.given) p.same;
      ranked = ap (λ (d : Contents). d.ranked) p.same;
      placed = ap (λ (d : Contents). d.placed) p.same;
      parents = ap (λ (d : Contents). d.parents) p.same;
      ranks = ap (λ (d : Contents). d.ranks) p.same;
      places = ap (λ (d : Contents). d.places) p.same;
      activation = ap (λ (d : Contents). d.activation) p.same;
      execution = ap (λ (d : Contents). d.execution) p.same;
      bound = ap (λ (d : Contents). d.stores.chilled.bound) p.same;
      works = ap (λ (d : Contents). d.stores.chilled.works) p.same;
      outs = ap (λ (d : Contents). d.stores.chilled.outs) p.same;
    }
