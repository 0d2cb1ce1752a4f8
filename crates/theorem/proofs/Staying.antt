-- In a day the plan stays as BEGIN found and completed it, but for its phase, its books and the bound in force.
use mathlib.Core.Path.{◌≡◌, refl, sym, ap, ◌∙◌}
use mathlib.Core.List.{List, [], ◌++◌}
use Prim.Native.Nat.{ℕ}
use Rattle.books.specs.Kind.{Kind, chilled, Each, of}
use Rattle.rules.specs.State.{Store, State, store_of}
use Rattle.rules.specs.Obey.{with_orders, completed, with_booked, with_books, with_bound}
use Rattle.rules.specs.Day.{Event, in_force}
use Rattle.theorem.specs.Theorem.{SamePlan}
use Rattle.books.proofs.EachStore.{of-each}
use Rattle.rules.proofs.InForce.{in-force-append}
use Rattle.rules.proofs.InDay.{InDay}

-- the plan is the one that BEGIN found, completed, and the places of the cold room are those in force
pub record Stays (found s : State) (happened : List Event) : Type 0 where
  pub plan : SamePlan (completed found) s
  pub places : s.stores.chilled.bound ≡ in_force found.stores.chilled.bound happened

-- a day of the plan that BEGIN found
pub record DayOf (found s : State) (happened : List Event) : Type 0 where
  pub day : InDay s happened
  pub stays : Stays found s happened

pub completes : (s : State) → Stays s (completed s) []
unfolding completed with_orders in_force
completes s =
    record {
      plan =
          record {
            size = refl;
            processors = refl;
            parents = refl;
            works = λ _. refl;
            outs = λ _. refl;
            activation = refl;
            execution = refl;
          };
      places = refl;
    }

-- other places of the cold room change no counts
bound-counts :
    (s : State) (bound : ℕ) (k : Kind)
    → ((store_of (with_bound s bound) k).works ≡ (store_of s k).works) × ((store_of (with_bound s bound) k).outs ≡ (store_of s k).outs)
unfolding with_bound
bound-counts s bound chilled = (refl, refl)

-- another phase, other books, and the bound that the events give
pub books-stay :
    (found s : State) (bound phase : ℕ) (st : List ℕ) (b : Each (List ℕ)) (happened new : List Event)
    → in_force s.stores.chilled.bound new ≡ bound
    → Stays found s happened
    → Stays found (with_books (with_bound s bound) phase st b) (happened ++ new)
unfolding with_books with_bound
books-stay found s bound phase st b happened new given h =
    record {
      plan =
          record {
            size = h.plan.size;
            processors = h.plan.processors;
            parents = h.plan.parents;
            works =
                λ k.
                ap (λ (e : Store). e.works) (of-each (λ d. with_booked (store_of (with_bound s bound) d) (of b d)) k)
                ∙ (bound-counts s bound k).0
                ∙ h.plan.works k;
            outs =
                λ k.
                ap (λ (e : Store). e.outs) (of-each (λ d. with_booked (store_of (with_bound s bound) d) (of b d)) k)
                ∙ (bound-counts s bound k).1
                ∙ h.plan.outs k;
            activation = h.plan.activation;
            execution = h.plan.execution;
          };
      places =
          sym
          (in-force-append happened new found.stores.chilled.bound
          ∙ ap (λ (m : ℕ). in_force m new) (sym h.places)
          ∙ given);
    }
