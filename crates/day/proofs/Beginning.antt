-- BEGIN in code: what the survey answers is the ground of the rules, and what it leaves is what preparing the day asks.
use mathlib.Core.Path.{◌≡◌, sym, ap, ap₂, subst, ◌∙◌}
use mathlib.Core.Bool.{Bool, true, false, ◌&&◌, ◌||◌}
use mathlib.Core.Logic.{⊎_elim}
use mathlib.Core.List.{List}
use Prim.Native.Nat.{ℕ, ◌≤◌, ◌<◌}
use native.Mathlib.Omega.{arith}
use lib.Dec.{eqb, leb}
use lib.ListN.{length, take}
use borrow.Author.Tests.{eq-eqb, le-leb, lt-leb}
use Rattle.numbers.specs.Sums.{within}
use Rattle.books.specs.Kind.{each, all}
use Rattle.numbers.specs.Lists.{at, every, distinct}
use Rattle.numbers.specs.Limits.{least_starts}
use Rattle.tree.specs.Tree.{roots, ordered}
use Rattle.tree.specs.Peak.{Peaked}
use Rattle.rules.specs.Phase
use Rattle.rules.specs.State.{State}
use Rattle.format.specs.Command.{begin}
use Rattle.rules.specs.Grounds as grounds
use Rattle.rules.specs.Reachable.{Reachable}
use Rattle.rules.specs.Obey.{with_orders, completed, fresh, proceed, obey}
use Rattle.rules.specs.Answer.{accept}
use Rattle.numbers.proofs.Tests.{decide}
use Rattle.rules.proofs.Completing.{BeginTurn, begin-turn, begin-ground}
use Rattle.rules.proofs.Formed.{Formed}
use Rattle.rules.proofs.Reaching.{lives}
use Rattle.rules.proofs.Judging.{ground-turn}
use Rattle.words.specs.Contents.{Contents}
use Rattle.words.proofs.Contents.{Lengths}
use Rattle.store.specs.Rows.{activation_of, execution_of}
use Rattle.store.specs.Cached.{Placed}
use Rattle.survey.specs.Survey.{Ordered, order_ground, ground_of, peaked_of}
use Rattle.survey.proofs.Grounds as surveying
use Rattle.answer.specs.Meaning.{meaning}
use Rattle.answer.specs.Sound.{Unused, Sound}
use Rattle.day.specs.Day.{begins, MayBegin, Begun}
use Rattle.answer.proofs.Meant.{ranked-length, placed-length, parents-small}
use Rattle.day.proofs.Staying.{Whole}
use Rattle.day.proofs.Surveying.{noted_in, whole-order, ground-is, high-is-peaked, high-is-peak}
use Rattle.day.proofs.Proceeding.{same, sound-then}

-- the ground against BEGIN, from the ground against its activation order
module _ (s : State) where
  pub begin-refused :
      (k : ℕ)
      → order_ground s.size (at s.parents) s.activation ≡ k
      → (k ≡ 0 → ⊥)
      → grounds.own_ground s begin ≡ k
  unfolding grounds.own_ground order_ground
  begin-refused k g some =
      ⊎_elim
      (λ (r : eqb (roots s.size (at s.parents)) 1 ≡ true).
      ⊎_elim
      (λ (o : ordered (at s.parents) s.activation ≡ true). absurd (some (sym g ∙ rw (r, o))))
      (λ (o : ordered (at s.parents) s.activation ≡ false).
      (let here : grounds.own_ground s begin ≡ 8 = rw (r, o) in
      let there : order_ground s.size (at s.parents) s.activation ≡ 8 = rw (r, o) in
      here ∙ sym there ∙ g))
      (decide (ordered (at s.parents) s.activation)))
      (λ (r : eqb (roots s.size (at s.parents)) 1 ≡ false).
      (let here : grounds.own_ground s begin ≡ 7 = rw r in
      let there : order_ground s.size (at s.parents) s.activation ≡ 7 = rw r in
      here ∙ sym there ∙ g))
      (decide (eqb (roots s.size (at s.parents)) 1))

  pub begin-weighed :
      order_ground s.size (at s.parents) s.activation ≡ 0
      → grounds.own_ground s begin ≡ grounds.demand (leb (grounds.peak_of s) s.stores.chilled.bound) 9 0
  unfolding grounds.own_ground grounds.fits_in grounds.peak_of all order_ground
  begin-weighed g =
      ⊎_elim
      (λ (r : eqb (roots s.size (at s.parents)) 1 ≡ true).
      ⊎_elim
      (λ (o : ordered (at s.parents) s.activation ≡ true). rw (r, o))
      (λ (o : ordered (at s.parents) s.activation ≡ false).
      (let there : order_ground s.size (at s.parents) s.activation ≡ 8 = rw (r, o) in absurd (omega arith)))
      (decide (ordered (at s.parents) s.activation)))
      (λ (r : eqb (roots s.size (at s.parents)) 1 ≡ false).
      (let there : order_ground s.size (at s.parents) s.activation ≡ 7 = rw r in absurd (omega arith)))
      (decide (eqb (roots s.size (at s.parents)) 1))

module _ (c : Contents) (sound : Sound c) (long : Lengths c) where
  turn_is : grounds.in_turn (meaning c) begin ≡ begins c
  unfolding grounds.in_turn begins
  turn_is =
      ap₂ (λ (a b : ℕ). eqb c.phase Phase.orders && eqb a c.size && (eqb b c.size || eqb b 0)) (ranked-length c sound long)
      (placed-length c sound long)

  -- out of turn
  pub begin-late : begins c ≡ false → grounds.ground_for (meaning c) begin ≡ 3
  begin-late e = ground-turn (meaning c) begin (turn_is ∙ e)

  pub in-turn : begins c ≡ true → grounds.in_turn (meaning c) begin ≡ true
  in-turn turn = turn_is ∙ turn

  -- in turn: the activation order is whole
  module _ (reached : Reachable (meaning c)) (turn : begins c ≡ true) where
    ranked_all : c.ranked ≡ c.size
    ranked_all = sym (ranked-length c sound long) ∙ (begin-turn (meaning c) (in-turn turn)).activated

    -- what the survey asks
    pub may-survey : Ordered c
    may-survey = whole-order c sound long reached ranked_all

    own : grounds.ground_for (meaning c) begin ≡ grounds.own_ground (meaning c) begin
    own = begin-ground (meaning c) (in-turn turn)

    order-ground-is : order_ground c.size (at (meaning c).parents) (meaning c).activation ≡ ground_of c
    order-ground-is = ground-is c sound long reached ranked_all

    module _ {number : ℕ} {high : Peaked} (is_number : number ≡ ground_of c) (is-high : high ≡ peaked_of c) where
      -- 7 or 8
      pub surveyed-refused : (number ≡ 0 → ⊥) → grounds.ground_for (meaning c) begin ≡ number
      surveyed-refused some = own ∙ begin-refused (meaning c) number (order-ground-is ∙ sym is_number) some

      module _ (fine : number ≡ 0) where
        -- no ground against the activation order
        pub no-order-ground : order_ground c.size (at (meaning c).parents) (meaning c).activation ≡ 0
        no-order-ground = order-ground-is ∙ sym is_number ∙ fine

        -- the peak with its task
        pub high_is : high ≡ (grounds.peaks_of (meaning c)).chilled
        high_is = high-is-peaked c sound long reached ranked_all is-high (sym is_number ∙ fine)

        trays-are : high.trays ≡ grounds.peak_of (meaning c)
        trays-are = high-is-peak c sound long reached ranked_all is-high (sym is_number ∙ fine)

        weighed : grounds.ground_for (meaning c) begin ≡ grounds.demand (leb (grounds.peak_of (meaning c)) c.stores.chilled.bound) 9 0
        weighed = own ∙ begin-weighed (meaning c) no-order-ground

        -- 9
        pub too-high : c.stores.chilled.bound < high.trays → grounds.ground_for (meaning c) begin ≡ 9
        too-high h =
            weighed
            ∙ ap (λ (b : Bool). grounds.demand b 9 0)
            (lt-leb (grounds.peak_of (meaning c)) c.stores.chilled.bound (let e = trays-are in omega arith))

        -- none
        pub low-enough : high.trays ≤ c.stores.chilled.bound → grounds.ground_for (meaning c) begin ≡ 0
        low-enough h =
            weighed
            ∙ ap (λ (b : Bool). grounds.demand b 9 0)
            (le-leb (grounds.peak_of (meaning c)) c.stores.chilled.bound (let e = trays-are in omega arith))

-- the plan that BEGIN goes on with: c as it was found, and d completed
module _ (c : Contents) {d : Contents} (sound : Sound d) (long : Lengths d) (reached : Reachable (meaning d))
    (means : meaning d ≡ completed (meaning c)) (turn : grounds.in_turn (meaning c) begin ≡ true) where
  begun : BeginTurn (meaning c)
  begun = begin-turn (meaning c) turn

  waits : d.phase ≡ Phase.orders
  unfolding completed with_orders
  waits = ap (λ (t : State). t.phase) means ∙ begun.now

  whole : Whole d
  unfolding completed with_orders
  whole =
      let now = waits in
      let size : c.size ≡ d.size = sym (ap (λ (t : State). t.size) means) in
      record {
        sound = sound;
        given = omega arith;
        ranked_all = sym (ranked-length d sound long) ∙ ap (λ (t : State). length t.activation) means ∙ begun.activated ∙ size;
        placed_all = sym (placed-length d sound long) ∙ ap (λ (t : State). length t.execution) means ∙ begun.executed ∙ size;
      }

  in-turn-then : begins d ≡ true
  unfolding begins
  in-turn-then =
      rw (
        eq-eqb d.phase Phase.orders waits,
        eq-eqb d.ranked d.size whole.ranked_all,
        eq-eqb d.placed d.size whole.placed_all,
      )

  formed-then : Formed (meaning d)
  formed-then = (lives reached).formed

  execution-is : (meaning d).execution ≡ execution_of d
  execution-is = ap (λ (k : ℕ). take k d.execution) whole.placed_all

  is-placed : Placed d.size (execution_of d) (at d.places)
  is-placed =
      record {
        inside = subst (λ (l : List ℕ). every (λ i. within i d.size) l ≡ true) execution-is formed-then.execution-inside;
        once = subst (λ (l : List ℕ). distinct l ≡ true) execution-is formed-then.execution-once;
        whole = ap length (sym execution-is) ∙ placed-length d sound long ∙ whole.placed_all;
        placed = noted_in d.size d.placed d.execution d.places whole.placed_all sound.execution;
      }

  given-past : (l : List ℕ) → Unused d.given l → (a : ℕ) → d.size < a → at l a ≡ 0
  given-past l unused a h = unused.later a (let g = sound.given.whole whole.given in omega arith)

  module _ (fine : order_ground c.size (at (meaning c).parents) (meaning c).activation ≡ 0) where
    -- no ground has come with the execution order
    fine-then : ground_of d ≡ 0
    unfolding completed with_orders
    fine-then =
        sym (order-ground-is d sound long reached in-turn-then)
        ∙ ap (λ (t : State). order_ground t.size (at t.parents) t.activation) means
        ∙ fine

    -- what the day asks
    pub may-begin : (list : List ℕ) → least_starts ≤ length list → MayBegin d list
    may-begin list room =
        let surveyed = may-survey d sound long reached in-turn-then in
        record {
          may =
              record {
                long = sound.long;
                small = sound.small;
                bounded = sound.bounded;
                parents = parents-small d sound reached;
                works =
                    record {
                      light = λ i. (sound.light i).0;
                      nobody = sound.works.nobody;
                      past = given-past d.stores.chilled.works sound.works;
                    };
                outs =
                    record {
                      light = λ i. (sound.light i).1;
                      nobody = sound.outs.nobody;
                      past = given-past d.stores.chilled.outs sound.outs;
                    };
                valid =
                    (surveying.no-ground d.size (at d.parents) (at d.ranks) (activation_of d) surveyed.parented
                    surveyed.ranked fine-then).1;
                placed = is-placed;
                rest = sound.rest (let e = waits in omega arith);
              };
          few = sound.few;
          room = room;
        }

  -- all that the caller of BEGIN receives
  module _ {c' : Contents} {list list' : List ℕ} {count : ℕ} (b : Begun d c' list list' count) where
    pub begin-answers :
        {high : Peaked}
        → high ≡ (grounds.peaks_of (meaning c)).chilled
        → (used : ℕ)
        → record {
          answer = record { number = 0; used = used; starts = count; peaks = each (λ _. high); offers = 0 };
          state = meaning c';
          list = list';
        }
        ≡ accept (obey (meaning c) begin) used list
    unfolding obey completed with_orders
    begin-answers {high} high_is used =
        same whole b used high 0
        ∙ ap₂ (λ (t : State) (v : Peaked). accept (proceed t Phase.running (fresh t.size) (each (λ _. v)) 0) used list) means high_is

    pub begin-sound : Sound c'
    begin-sound = sound-then whole b
