-- Laws of 03 and 04: the ground against one task more in an order.
use mathlib.Core.Path.{◌≡◌, sym, ap, ◌∙◌}
use mathlib.Core.Bool.{true, false, not, ◌&&◌}
use mathlib.Core.List.{List}
use Prim.Native.Nat.{ℕ, ◌+◌, ◌*◌, ◌≤◌, ◌<◌}
use native.Mathlib.Omega.{arith}
use lib.Dec.{eqb, leb, ltb}
use lib.ListN.{take, set}
use borrow.Author.Tests.{eqb-true, leb-true, ltb-true, not-true, eq-eqb, ne_eqb, lt-ltb, le-ltb}
use Rattle.numbers.specs.Lists.{at, mem}
use Rattle.rules.specs.Phase
use Rattle.numbers.specs.Sums.{within}
use Rattle.rules.specs.Grounds.{demand}
use Rattle.numbers.proofs.Tests.{and-true}
use Rattle.rules.proofs.Formed.{demand-none}
use Rattle.words.specs.Layout.{row, head_base, entries}
use Rattle.words.specs.Views.{column, part}
use Rattle.words.proofs.Views.{column-at, part_at}
use Rattle.words.specs.Contents.{head_word}
use Rattle.ordering.specs.Order.{next_ground, ground_at, Sought, OrderAt, MayAppend, appended_to}
use Rattle.ordering.proofs.Placing.{Listed, seen, unseen}

module _ {base k count task : ℕ} {w : List ℕ} (s : Sought base k count task w) where
  listed : Listed (part base entries w) (column k w) count task
  listed = record { within = s.within; noted = s.noted }

  noted-is : at w (row * task + k) ≡ at (column k w) task
  noted-is = column-at k w task (let h = s.within.high in omega arith)

  pub contains-not :
      (place : ℕ) → place ≡ at w (row * task + k) → count ≤ place → false ≡ mem task (take count (part base entries w))
  contains-not place e past =
      let n = noted-is in
      sym (unseen (part base entries w) (column k w) count task listed (omega arith))

  pub place_in : (place : ℕ) → place ≡ at w (row * task + k) → (count ≤ place → ⊥) → base + place < 18497
  place_in place e h = let b = s.base_in in let f = s.few in omega arith

  pub contains-there :
      (place found : ℕ)
      → place ≡ at w (row * task + k)
      → (count ≤ place → ⊥)
      → found ≡ at w (base + place)
      → eqb found task ≡ mem task (take count (part base entries w))
  contains-there place found e h f =
      let n = noted-is in
      let few = s.few in
      let same : place ≡ at (column k w) task = e ∙ noted-is in
      ap (λ (v : ℕ). eqb v task)
      (f ∙ part_at base entries w place (omega arith) ∙ ap (at (part base entries w)) same)
      ∙ seen (part base entries w) (column k w) count task listed (omega arith)

pub sought :
    {counted base k size count task : ℕ} {w : List ℕ}
    → OrderAt counted base k w
    → size ≡ at w (16400 + 1)
    → count ≡ at w (16400 + counted)
    → within task size ≡ true
    → Sought base k count task w
sought {counted} {base} {k} {size} {count} {task} o e f limits =
    let ends = and-true (leb 1 task) (leb task size) limits in
    let few = o.noted.few in
    let small = o.small in
    let high = leb-true task size ends.1 in
    record {
      base_in = o.base_in;
      k_in = o.k_in;
      few = omega arith;
      within = record { low = leb-true 1 task ends.0; high = omega arith };
      noted = λ p h. o.noted.noted p (omega arith);
    }

-- each way out of the tests, by what was read
module _ (counted base task : ℕ) (w : List ℕ) where
  pub other-phase : (head_word 0 w ≡ Phase.orders → ⊥) → 3 ≡ ground_at counted base w task
  unfolding next_ground
  other-phase d = rw (ne_eqb (head_word 0 w) Phase.orders d)

  module _ {size count : ℕ} (turn : head_word 0 w ≡ Phase.orders) (is-size : size ≡ head_word 1 w) (is-count : count ≡ head_word counted w) where
    pub whole-order : size ≤ count → 3 ≡ ground_at counted base w task
    unfolding next_ground
    whole-order h =
        rw (
          eq-eqb (head_word 0 w) Phase.orders turn,
          le-ltb (head_word counted w) (head_word 1 w) (omega arith),
        )

    module _ (room : (size ≤ count) → ⊥) where
      pub outside : within task size ≡ false → 4 ≡ ground_at counted base w task
      unfolding next_ground
      outside limits =
          rw (
            eq-eqb (head_word 0 w) Phase.orders turn,
            lt-ltb (head_word counted w) (head_word 1 w) (omega arith),
            ap (within task) (sym is-size) ∙ limits,
          )

      module _ (limits : within task size ≡ true) where
        pub again : true ≡ mem task (take count (part base entries w)) → 5 ≡ ground_at counted base w task
        unfolding next_ground
        again stands =
            rw (
              eq-eqb (head_word 0 w) Phase.orders turn,
              lt-ltb (head_word counted w) (head_word 1 w) (omega arith),
              ap (within task) (sym is-size) ∙ limits,
              ap (λ (c : ℕ). mem task (take c (part base entries w))) (sym is-count) ∙ sym stands,
            )

        pub no-ground : false ≡ mem task (take count (part base entries w)) → 0 ≡ ground_at counted base w task
        unfolding next_ground
        no-ground stands =
            rw (
              eq-eqb (head_word 0 w) Phase.orders turn,
              lt-ltb (head_word counted w) (head_word 1 w) (omega arith),
              ap (within task) (sym is-size) ∙ limits,
              ap (λ (c : ℕ). mem task (take c (part base entries w))) (sym is-count) ∙ sym stands,
            )

-- the words are written where there is no ground
pub record Allowed (phase size : ℕ) (order : List ℕ) (count task : ℕ) : Type 0 where
  pub turn : phase ≡ Phase.orders
  pub room : count < size
  pub low : 1 ≤ task
  pub high : task ≤ size
  pub new : mem task (take count order) ≡ false

pub allowed :
    (phase size : ℕ) (order : List ℕ) (count task : ℕ)
    → next_ground phase size order count task ≡ 0
    → Allowed phase size order count task
unfolding next_ground
allowed phase size order count task none =
    let turn =
    demand-none (eqb phase Phase.orders && ltb count size) 3
    (demand (within task size) 4 (demand (not (mem task (take count order))) 5 0)) (λ q. omega arith) none
    in
    let both = and-true (eqb phase Phase.orders) (ltb count size) turn.0 in
    let limits =
    demand-none (within task size) 4 (demand (not (mem task (take count order))) 5 0) (λ q. omega arith) turn.1
    in
    let ends = and-true (leb 1 task) (leb task size) limits.0 in
    let own = demand-none (not (mem task (take count order))) 5 0 (λ q. omega arith) limits.1 in
    record {
      turn = eqb-true phase Phase.orders both.0;
      room = ltb-true count size both.1;
      low = leb-true 1 task ends.0;
      high = leb-true task size ends.1;
      new = not-true (mem task (take count order)) own.0;
    }

-- so that there is room for one task more
pub append-may :
    {counted base k task : ℕ} {w : List ℕ} → OrderAt counted base k w → ground_at counted base w task ≡ 0 → MayAppend counted base k task w
append-may {counted} {base} {k} {task} {w} o z =
    let allow = allowed (head_word 0 w) (head_word 1 w) (part base entries w) (head_word counted w) task z in
    let room = allow.room in
    let high = allow.high in
    let small = o.small in
    record { counted_in = o.counted_in; base_in = o.base_in; k_in = o.k_in; room = omega arith; within = omega arith }

-- the three words of one task more
pub next-written :
    (counted base k task : ℕ) {count : ℕ} (w : List ℕ) {w₁ w₂ w₃ : List ℕ}
    → count ≡ head_word counted w
    → w₁ ≡ set w (base + count) task
    → w₂ ≡ set w₁ (row * task + k) count
    → w₃ ≡ set w₂ (head_base + counted) (count + 1)
    → w₃ ≡ appended_to counted base k w task
next-written counted base k task {count} w is-count one two three =
    three
    ∙ ap (λ (v : List ℕ). set v (head_base + counted) (count + 1)) (two ∙ ap (λ (v : List ℕ). set v (row * task + k) count) one)
    ∙ ap (λ (c : ℕ). set (set (set w (base + c) task) (row * task + k) c) (head_base + counted) (c + 1)) is-count
