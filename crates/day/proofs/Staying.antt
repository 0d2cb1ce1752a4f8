-- A plan in its day stays sound: what is given of it is as it was.
use mathlib.Core.Path.{◌≡◌, refl, sym, ap, ◌∙◌}
use mathlib.Core.List.{List}
use Prim.Native.Nat.{ℕ, suc, ◌≤◌, ◌<◌}
use native.Mathlib.Omega.{arith}
use Rattle.books.specs.Kind
use Rattle.numbers.specs.Lists.{at}
use Rattle.rules.specs.Phase
use Rattle.words.specs.Layout.{words, chilled}
use Rattle.words.specs.Contents.{Contents, with_head, store_with_head}
use Rattle.store.specs.Cached.{Cached}
use Rattle.store.specs.Store.{with_store, with_holdings, held_alone}
use Rattle.store.proofs.InStore.{by_kind}
use Rattle.dispatch.specs.Ended.{with_progress}
use Rattle.answer.specs.Sound.{Closed, Sound}
use Rattle.day.specs.Day.{SameTasks}

-- a plan whose two orders are whole
pub record Whole (c : Contents) : Type 0 where
  pub sound : Sound c
  pub given : Phase.orders ≤ c.phase
  pub ranked_all : c.ranked ≡ c.size
  pub placed_all : c.placed ≡ c.size

-- such a plan in its day
pub in-its-day : {c : Contents} → Sound c → Phase.running ≤ c.phase → Whole c
in-its-day sound on =
    record {
      sound = sound;
      given = omega arith;
      ranked_all = (sound.day on).ranked_all;
      placed_all = (sound.day on).placed_all;
    }

-- what is given does not hang on the phase
pub phase-same : {c d : Contents} (phase : ℕ) → SameTasks c d → SameTasks c (with_head 0 phase d)
unfolding with_head store_with_head
phase-same phase t =
    record {
      size = t.size;
      processors = t.processors;
      given = t.given;
      ranked = t.ranked;
      placed = t.placed;
      parents = t.parents;
      ranks = t.ranks;
      places = t.places;
      activation = t.activation;
      execution = t.execution;
      bound = t.bound;
      works = t.works;
      outs = t.outs;
    }

-- nor do the figures of a day hang on the phase and the bound
pub head-cached : {c : Contents} (phase bound : ℕ) → Cached c → Cached (with_head 0 phase (with_head chilled bound c))
unfolding with_head store_with_head
head-cached phase bound k =
    record {
      long = k.long;
      counted = k.counted;
      marks = record { marked = k.marks.marked; filled = k.marks.filled };
      reached = k.reached;
      runs = k.runs;
      ends = k.ends;
      placed = k.placed;
      standings_zero = k.standings_zero;
      unended_zero = k.unended_zero;
      stores =
          by_kind _
          (let s = k.stores Kind.chilled in
          record {
            needed = s.needed;
            figured = s.figured;
            totals = s.totals;
            uses = s.uses;
            booked_zero = s.booked_zero;
            figures_zero = s.figures_zero;
          });
    }

-- nor on who runs and has ended, and on what one task holds alone
pub alone-same :
    (c : Contents) (x units : ℕ) (standings unended : List ℕ) (active ended : ℕ)
    → SameTasks c (with_store Kind.chilled (held_alone x units c.stores.chilled) (with_progress standings unended active ended c))
unfolding with_store held_alone with_holdings with_progress
alone-same c x units standings unended active ended =
    record {
      size = refl;
      processors = refl;
      given = refl;
      ranked = refl;
      placed = refl;
      parents = refl;
      ranks = refl;
      places = refl;
      activation = refl;
      execution = refl;
      bound = refl;
      works = refl;
      outs = refl;
    }

pub day-sound :
    {c d : Contents}
    → Whole c
    → SameTasks c d
    → d.extent ≡ words
    → Phase.running ≤ d.phase
    → d.phase ≤ Phase.ready
    → (d.phase ≡ Phase.running → Cached d)
    → (Phase.running < d.phase → Closed d)
    → Sound d
day-sound {c = c} {d = d} whole t long on named cached closed =
    let s = whole.sound in
    record {
      long = long;
      named = named;
      small = (let n = t.size in let m = s.small in omega arith);
      few = (let n = t.processors in let m = s.few in omega arith);
      bounded = (let n = t.bound in let m = s.bounded in omega arith);
      light =
          λ i.
          (let works : at d.stores.chilled.works i ≡ at c.stores.chilled.works i = ap (λ (l : List ℕ). at l i) t.works in
          let outs : at d.stores.chilled.outs i ≡ at c.stores.chilled.outs i = ap (λ (l : List ℕ). at l i) t.outs in
          let old = s.light i in
          (omega (arith, old.0), omega (arith, old.1)));
      parents = rw (t.given, t.parents) s.parents;
      works = rw (t.given, t.works) s.works;
      outs = rw (t.given, t.outs) s.outs;
      given =
          record {
            unopened = λ e. absurd (omega arith);
            in_steps = λ e. absurd (omega arith);
            whole = λ _. t.given ∙ s.given.whole whole.given ∙ ap suc (sym t.size);
            some = λ _. (let n = t.size in let m = s.given.some whole.given in omega arith);
          };
      activation = rw (t.size, t.ranked, t.activation, t.ranks) s.activation;
      execution = rw (t.size, t.placed, t.execution, t.places) s.execution;
      rest = λ h. absurd (omega arith);
      day =
          λ _.
          record {
            ranked_all = t.ranked ∙ whole.ranked_all ∙ sym t.size;
            placed_all = t.placed ∙ whole.placed_all ∙ sym t.size;
            cached = cached;
            closed = closed;
          };
    }
