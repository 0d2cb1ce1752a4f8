-- Laws of 03 and 04: one task more in an order keeps a plan sound, and is the next in that order of the rules.
use mathlib.Core.Path.{◌≡◌, refl, sym, ap, ◌∙◌}
use mathlib.Core.Bool.{not, ◌&&◌}
use mathlib.Core.List.{List}
use Prim.Native.Nat.{ℕ, ◌+◌, ◌*◌, ◌≤◌, ◌<◌}
use native.Mathlib.Omega.{arith}
use lib.Dec.{eqb, ltb}
use lib.ListN.{length, take, set, length-set}
use lib.Seq.{length-take-le}
use Rattle.books.specs.Kind.{chilled}
use Rattle.numbers.specs.Lists.{mem}
use Rattle.numbers.specs.Limits.{max_tasks}
use Rattle.rules.specs.Phase
use Rattle.format.specs.Command as rules
use Rattle.rules.specs.Grounds.{in_turn, in_limits, demand, own_ground, ground_for}
use Rattle.numbers.specs.Sums.{within}
use Rattle.rules.specs.Obey.{plain, with_orders, obey}
use Rattle.words.specs.Layout.{row, rows, words, head_base, entries, activation_base, execution_base}
use Rattle.words.specs.Contents as held
use Rattle.words.specs.Contents.{Contents, contents, with_cell, store_with_cell, with_head, store_with_head}
use Rattle.words.proofs.Contents.{Lengths, lengths, contents-activation, contents-execution, wrote-cell, wrote-head}
use Rattle.store.proofs.InStore.{by_kind}
use Rattle.std.specs.Prelude.{Ok, Err}
use Rattle.refusal.specs.declared.Refusal.{Refusal}
use Rattle.refusal.specs.Number.{number_of}
use Rattle.words.specs.declared.order.Order.{Order}
use Rattle.words.specs.declared.order.Order.TheVariants.{Activation, Execution}
use Rattle.words.specs.Kept.{counted_word, order_base, place_column, next_in}
use Rattle.answer.specs.declared.accepted.Accepted.{Accepted}
use Rattle.answer.specs.Told.{told}
use Rattle.answer.specs.Meaning.{meaning}
use Rattle.answer.specs.Sound.{Noted, Sound}
use Rattle.answer.specs.ValidPlan.{Obeyed}
use Rattle.ordering.specs.Order.{next_ground, OrderAt, ground_at, appended_to}
use Rattle.answer.proofs.Meant.{given-more}
use Rattle.ordering.proofs.Placing.{append-noted}
use Rattle.ordering.proofs.Ordering.{Allowed, allowed}
use Rattle.answer.proofs.Obeying.{accepted, refusal, acceptance}

-- the grounds of the rules are those that the code looks for, since the order is as long as its count
count-ground :
    (phase size count i : ℕ) (order : List ℕ)
    → count ≤ length order
    → demand (eqb phase Phase.orders && ltb (length (take count order)) size) 3
    (demand (within i size) 4 (demand (not (mem i (take count order))) 5 0))
    ≡ next_ground phase size order count i
unfolding next_ground
count-ground phase size count i order h =
    ap
    (λ (k : ℕ).
    demand (eqb phase Phase.orders && ltb k size) 3
    (demand (within i size) 4 (demand (not (mem i (take count order))) 5 0)))
    (length-take-le count order h)

-- one task more in an order, with its place
order-more :
    (phase size count i : ℕ) (order places : List ℕ)
    → size ≤ max_tasks
    → length order ≡ entries
    → length places ≡ rows
    → Noted size count order places
    → Allowed phase size order count i
    → Noted size (count + 1) (set order count i) (set places i count)
order-more phase size count i order places small long wide noted allow =
    let room = allow.room in
    let high = allow.high in
    record {
      few = omega arith;
      noted = append-noted order places count i (omega arith) (omega arith) allow.new noted.noted;
    }

-- a plan with one task more in its activation order, and in its execution order
abbrev pub ranking : Contents → ℕ → Contents
ranking c i =
    with_head 4 (c.ranked + 1) (with_cell 1 i c.ranked (held.with_orders (set c.activation c.ranked i) c.execution c))

abbrev pub placing : Contents → ℕ → Contents
placing c i =
    with_head 8 (c.placed + 1) (with_cell 2 i c.placed (held.with_orders c.activation (set c.execution c.placed i) c))

module _ (c : Contents) (sound : Sound c) (long : Lengths c) (i : ℕ) where
  pub activation-ground : ground_for (meaning c) (rules.activation i) ≡ next_ground c.phase c.size c.activation c.ranked i
  unfolding ground_for in_turn in_limits own_ground
  activation-ground =
      let few = sound.activation.few in
      let small = sound.small in
      let l = long.activation in
      count-ground c.phase c.size c.ranked i c.activation (omega arith)

  pub execution-ground : ground_for (meaning c) (rules.execution i) ≡ next_ground c.phase c.size c.execution c.placed i
  unfolding ground_for in_turn in_limits own_ground
  execution-ground =
      let few = sound.execution.few in
      let small = sound.small in
      let l = long.execution in
      count-ground c.phase c.size c.placed i c.execution (omega arith)

  pub ranking-sound : Allowed c.phase c.size c.activation c.ranked i → Sound (ranking c i)
  unfolding held.with_orders with_cell store_with_cell with_head store_with_head
  ranking-sound allow =
      let turn = allow.turn in
      let given = sound.given in
      record {
        long = sound.long;
        named = sound.named;
        small = sound.small;
        few = sound.few;
        bounded = sound.bounded;
        light = sound.light;
        parents = sound.parents;
        works = sound.works;
        outs = sound.outs;
        given = record { unopened = given.unopened; in_steps = given.in_steps; whole = given.whole; some = given.some };
        activation =
            order-more c.phase c.size c.ranked i c.activation c.ranks sound.small long.activation long.ranks
            sound.activation allow;
        execution = sound.execution;
        rest =
            λ h.
            (let z = sound.rest h in
            record {
              unended = z.unended;
              standings = z.standings;
              needs = by_kind _ (z.needs chilled);
              booked = by_kind _ (z.booked chilled);
              figures = by_kind _ (z.figures chilled);
              ready = z.ready;
              filled = z.filled;
              next = z.next;
              active = z.active;
              ended = z.ended;
              total = by_kind _ (z.total chilled);
              used = by_kind _ (z.used chilled);
            });
        day = λ h. absurd (omega arith);
      }

  pub placing-sound : Allowed c.phase c.size c.execution c.placed i → Sound (placing c i)
  unfolding held.with_orders with_cell store_with_cell with_head store_with_head
  placing-sound allow =
      let turn = allow.turn in
      let given = sound.given in
      record {
        long = sound.long;
        named = sound.named;
        small = sound.small;
        few = sound.few;
        bounded = sound.bounded;
        light = sound.light;
        parents = sound.parents;
        works = sound.works;
        outs = sound.outs;
        given = record { unopened = given.unopened; in_steps = given.in_steps; whole = given.whole; some = given.some };
        activation = sound.activation;
        execution =
            order-more c.phase c.size c.placed i c.execution c.places sound.small long.execution long.places
            sound.execution allow;
        rest =
            λ h.
            (let z = sound.rest h in
            record {
              unended = z.unended;
              standings = z.standings;
              needs = by_kind _ (z.needs chilled);
              booked = by_kind _ (z.booked chilled);
              figures = by_kind _ (z.figures chilled);
              ready = z.ready;
              filled = z.filled;
              next = z.next;
              active = z.active;
              ended = z.ended;
              total = by_kind _ (z.total chilled);
              used = by_kind _ (z.used chilled);
            });
        day = λ h. absurd (omega arith);
      }

  -- it is the plan of the rules with that order
  pub ranking-means :
      Allowed c.phase c.size c.activation c.ranked i
      → obey (meaning c) (rules.activation i) ≡ plain (meaning (ranking c i))
  unfolding obey with_orders held.with_orders with_cell store_with_cell with_head store_with_head
  ranking-means allow =
      let room = allow.room in
      let small = sound.small in
      let l = long.activation in
      ap (λ (o : List ℕ). plain (with_orders (meaning c) o (take c.placed c.execution)))
      (sym (given-more c.activation c.ranked i (omega arith)))

  pub placing-means :
      Allowed c.phase c.size c.execution c.placed i
      → obey (meaning c) (rules.execution i) ≡ plain (meaning (placing c i))
  unfolding obey with_orders held.with_orders with_cell store_with_cell with_head store_with_head
  placing-means allow =
      let room = allow.room in
      let small = sound.small in
      let l = long.execution in
      ap (λ (o : List ℕ). plain (with_orders (meaning c) (take c.ranked c.activation) o))
      (sym (given-more c.execution c.placed i (omega arith)))

-- the words that are written
module _ (w : List ℕ) (sound : Sound (contents w)) (i : ℕ) where
  activation-at : OrderAt 4 activation_base 1 w
  unfolding contents
  activation-at =
      record { counted_in = omega arith; base_in = omega arith; k_in = omega arith; small = sound.small; noted = sound.activation }

  execution-at : OrderAt 8 execution_base 2 w
  unfolding contents
  execution-at =
      record { counted_in = omega arith; base_in = omega arith; k_in = omega arith; small = sound.small; noted = sound.execution }

  -- the cell and the head behind an entry
  behind :
      (v : List ℕ) (k counted count : ℕ)
      → length v ≡ words
      → k < row
      → counted < row
      → i < rows
      → contents (set (set v (row * i + k) count) (head_base + counted) (count + 1))
      ≡ with_head counted (count + 1) (with_cell k i count (contents v))
  behind v k counted count long h l t =
      let one = wrote-cell v k i count long h t refl in
      (wrote-head (set v (row * i + k) count) counted (count + 1) one.1 l refl).0 ∙ ap (with_head counted (count + 1)) one.0

  ranking-contents :
      Allowed (contents w).phase (contents w).size (contents w).activation (contents w).ranked i
      → contents (appended_to 4 activation_base 1 w i) ≡ ranking (contents w) i
  unfolding contents
  ranking-contents allow =
      let small = sound.small in
      let room = allow.room in
      let high = allow.high in
      let count : ℕ = (contents w).ranked in
      behind (set w (activation_base + count) i) 1 4 count (length-set w (activation_base + count) i ∙ sound.long) (omega arith)
      (omega arith) (omega arith)
      ∙ ap (λ (d : Contents). with_head 4 (count + 1) (with_cell 1 i count d))
      (contents-activation w sound.long count i (omega arith))

  pub placing-contents :
      Allowed (contents w).phase (contents w).size (contents w).execution (contents w).placed i
      → contents (appended_to 8 execution_base 2 w i) ≡ placing (contents w) i
  unfolding contents
  placing-contents allow =
      let small = sound.small in
      let room = allow.room in
      let high = allow.high in
      let count : ℕ = (contents w).placed in
      behind (set w (execution_base + count) i) 2 8 count (length-set w (execution_base + count) i ∙ sound.long) (omega arith)
      (omega arith) (omega arith)
      ∙ ap (λ (d : Contents). with_head 8 (count + 1) (with_cell 2 i count d))
      (contents-execution w sound.long count i (omega arith))

  pub order-at : (o : Order) → OrderAt (counted_word o) (order_base o) (place_column o) w
  order-at Activation = activation-at
  order-at Execution = execution-at

  -- refused by its ground, or the next in the order of the rules
  pub refuses-next :
      (o : Order) {used : ℕ} (r : Refusal)
      → number_of r ≡ ground_at (counted_word o) (order_base o) w i
      → Obeyed w (next_in o i) used (told (Err r)) w
  unfolding contents
  refuses-next Activation r is = refusal r sound (activation-ground (contents w) sound (lengths w) i ∙ sym is)
  refuses-next Execution r is = refusal r sound (execution-ground (contents w) sound (lengths w) i ∙ sym is)

  pub takes-next :
      (o : Order) {used : ℕ} {a : Accepted} {w' : List ℕ}
      → ground_at (counted_word o) (order_base o) w i ≡ 0
      → w' ≡ appended_to (counted_word o) (order_base o) (place_column o) w i
      → a ≡ accepted used
      → Obeyed w (next_in o i) used (told (Ok a)) w'
  unfolding contents
  takes-next Activation none wrote said =
      let c : Contents = contents w in
      let allow = allowed c.phase c.size c.activation c.ranked i none in
      acceptance (activation-ground c sound (lengths w) i ∙ none) said (ap contents wrote ∙ ranking-contents allow)
      (ranking-means c sound (lengths w) i allow) (ranking-sound c sound (lengths w) i allow)
  takes-next Execution none wrote said =
      let c : Contents = contents w in
      let allow = allowed c.phase c.size c.execution c.placed i none in
      acceptance (execution-ground c sound (lengths w) i ∙ none) said (ap contents wrote ∙ placing-contents allow)
      (placing-means c sound (lengths w) i allow) (placing-sound c sound (lengths w) i allow)
