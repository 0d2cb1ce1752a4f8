-- 08 in code: the ground against a new bound, and what an accepted one leaves.
use mathlib.Core.Path.{◌≡◌, refl, sym, ap, ap₂, ◌∙◌}
use mathlib.Core.Bool.{Bool}
use mathlib.Core.List.{List}
use Prim.Native.Nat.{ℕ, ◌^◌, ◌≤◌, ◌<◌}
use native.Mathlib.Omega.{arith}
use lib.Dec.{leb}
use lib.ListN.{length}
use borrow.Author.Tests.{eqb-true, eq-eqb, ne_eqb, le-leb, lt-leb}
use Rattle.books.specs.Kind.{chilled}
use Rattle.numbers.specs.Lists.{at}
use Rattle.numbers.specs.Limits.{max_bound, least_starts}
use Rattle.tree.specs.Peak.{Peaked, no_peak}
use Rattle.tree.specs.Tree.{roots}
use Rattle.rules.specs.Phase
use Rattle.format.specs.Command.{places}
use Rattle.rules.specs.Reachable.{Reachable}
use Rattle.rules.specs.Grounds.{demand, in_turn, in_limits, no_peaks, own_ground, ground_for}
use Rattle.books.specs.Booking.{total}
use Rattle.rules.specs.Obey as obeying
use Rattle.rules.specs.Obey.{proceed, obey}
use Rattle.rules.specs.Answer.{accept}
use Rattle.rules.proofs.Formed.{no-ground}
use Rattle.rules.proofs.InDay.{Planned}
use Rattle.rules.proofs.Placing.{grounds-fit}
use Rattle.rules.proofs.Judging.{ground-turn, ground-own}
use Rattle.rules.proofs.Reaching.{lives}
use Rattle.words.specs.Contents.{Contents, with_head, store_with_head}
use Rattle.words.proofs.Contents.{Lengths}
use Rattle.survey.specs.Survey.{Ordered, order_ground, ground_of, peaked_of}
use Rattle.answer.specs.Meaning.{meaning}
use Rattle.answer.specs.Sound.{Sound}
use Rattle.answer.proofs.Meant.{in-running, booked-rows, books-rows, cached-now, still_kept, staffed}
use Rattle.day.specs.Day.{with_bound, MayResize, Resized}
use Rattle.day.proofs.Staying.{Whole, in-its-day, head-cached}
use Rattle.day.proofs.Surveying.{whole-order, ground-is, high-is-peak}
use Rattle.day.proofs.Proceeding.{same, sound-then}

-- out of turn outside a running day
pub resize-late : (c : Contents) (bound : ℕ) → (c.phase ≡ Phase.running → ⊥) → ground_for (meaning c) (places bound) ≡ 3
unfolding in_turn
resize-late c bound d = ground-turn (meaning c) (places bound) (ne_eqb c.phase Phase.running d)

-- B is the total that is kept
booked_is :
    (c : Contents) (sound : Sound c)
    → c.phase ≡ Phase.running
    → total c.size (at (meaning c).stores.chilled.booked) ≡ c.stores.chilled.total
booked_is c sound now =
    ap (λ (l : List ℕ). total c.size (at l)) (booked-rows c sound (in-running c sound now))
    ∙ sym ((cached-now c sound now).stores chilled).totals

module _ (c : Contents) (long : Lengths c) (reached : Reachable (meaning c)) (sound : Sound c) (now : c.phase ≡ Phase.running) where
  on : Phase.running ≤ c.phase
  on = in-running c sound now

  planned : Planned (meaning c)
  planned = ((lives reached).day on).1.planned

  -- what the survey asks
  pub may-survey : Ordered c
  may-survey = whole-order c sound long reached (sound.day on).ranked_all

  -- it finds no ground against the activation order of a day
  pub fine : ground_of c ≡ 0
  unfolding order_ground
  fine =
      sym (ground-is c sound long reached (sound.day on).ranked_all)
      ∙ rw (eq-eqb (roots c.size (at (meaning c).parents)) 1 planned.rooted, planned.valid.upward) refl

  module _ (bound : ℕ) (small : bound < 2 ^ 32) {high : Peaked} (is-high : high ≡ peaked_of c) where
    -- what is checked is the peak and B
    own :
        ground_for (meaning c) (places bound)
        ≡ demand (leb high.trays bound) 9 (demand (leb c.stores.chilled.total bound) 13 0)
    unfolding in_turn in_limits own_ground
    own =
        ground-own (meaning c) (places bound) (eq-eqb c.phase Phase.running now) (le-leb bound max_bound (omega arith))
        ∙ ap₂ (λ (p b : ℕ). demand (leb p bound) 9 (demand (leb b bound) 13 0))
        (sym (high-is-peak c sound long reached (sound.day on).ranked_all is-high fine)) (booked_is c sound now)

    -- 9
    pub resize-high : bound < high.trays → ground_for (meaning c) (places bound) ≡ 9
    resize-high h =
        own ∙ ap (λ (b : Bool). demand b 9 (demand (leb c.stores.chilled.total bound) 13 0)) (lt-leb high.trays bound h)

    -- 13
    module _ (above : high.trays ≤ bound) where
      weighed : ground_for (meaning c) (places bound) ≡ demand (leb c.stores.chilled.total bound) 13 0
      weighed =
          own ∙ ap (λ (b : Bool). demand b 9 (demand (leb c.stores.chilled.total bound) 13 0)) (le-leb high.trays bound above)

      pub resize-booked : bound < c.stores.chilled.total → ground_for (meaning c) (places bound) ≡ 13
      resize-booked h = weighed ∙ ap (λ (b : Bool). demand b 13 0) (lt-leb c.stores.chilled.total bound h)

      -- none
      pub resize-free : c.stores.chilled.total ≤ bound → ground_for (meaning c) (places bound) ≡ 0
      resize-free h = weighed ∙ ap (λ (b : Bool). demand b 13 0) (le-leb c.stores.chilled.total bound h)

-- where there is none
module _ (c : Contents) (reached : Reachable (meaning c)) (sound : Sound c) (bound : ℕ) (small : bound < 2 ^ 32)
    (none : ground_for (meaning c) (places bound) ≡ 0) where
  runs : c.phase ≡ Phase.running
  unfolding in_turn
  runs = eqb-true c.phase Phase.running (no-ground (meaning c) (places bound) none).turn

  in-day : Phase.running ≤ c.phase
  in-day = in-running c sound runs

  -- what its parts ask
  pub may-resize : (list : List ℕ) → least_starts ≤ length list → MayResize c bound list
  may-resize list room =
      let booked = booked_is c sound runs in
      let fits = (grounds-fit (meaning c) bound (no-ground (meaning c) (places bound) none).own).booked in
      record {
        now = runs;
        kept = still_kept c reached sound runs;
        bounded = small;
        within = omega arith;
        busy = staffed c reached sound runs;
        few = sound.few;
        room = room;
      }

  -- the plan with the new bound is sound
  whole : Whole (with_bound bound c)
  unfolding with_bound with_head store_with_head
  whole =
      let given = sound.given in
      let day = sound.day in-day in
      let now = runs in
      in-its-day
      (record {
        long = sound.long;
        named = sound.named;
        small = sound.small;
        few = sound.few;
        bounded = small;
        light = sound.light;
        parents = sound.parents;
        works = sound.works;
        outs = sound.outs;
        given =
            record { unopened = given.unopened; in_steps = given.in_steps; whole = given.whole; some = given.some };
        activation = sound.activation;
        execution = sound.execution;
        rest = λ early. absurd (omega arith);
        day =
            λ _.
            record {
              ranked_all = day.ranked_all;
              placed_all = day.placed_all;
              cached = λ e. head-cached c.phase bound (day.cached e);
              closed = λ late. absurd (omega arith);
            };
      })
      in-day

  means : meaning (with_bound bound c) ≡ obeying.with_bound (meaning c) bound
  unfolding with_bound with_head store_with_head obeying.with_bound
  means = refl

  module _ {c' : Contents} {list list' : List ℕ} {count : ℕ} (r : Resized c bound c' list list' count) where
    pub resize-sound : Sound c'
    resize-sound = sound-then whole r

    -- all that the caller receives
    pub resize-answers :
        (used : ℕ)
        → record {
          answer = record { number = 0; used = used; starts = count; peaks = no_peaks; offers = 0 };
          state = meaning c';
          list = list';
        }
        ≡ accept (obey (meaning c) (places bound)) used list
    unfolding obey
    resize-answers used =
        same whole r used no_peak 0
        ∙ (λ z. accept (proceed (means z) Phase.running (sym (books-rows c sound in-day) z) no_peaks 0) used list)
