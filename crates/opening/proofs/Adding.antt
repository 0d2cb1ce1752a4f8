-- Laws of STEP: one task more keeps a plan sound, and is the next task of the rules.
use mathlib.Core.Path.{◌≡◌, sym, ap, ◌∙◌}
use mathlib.Core.Bool.{Bool, cond}
use mathlib.Core.Logic.{⊎_elim}
use mathlib.Core.List.{List}
use Prim.Native.Nat.{ℕ, suc, ◌+◌, ◌*◌, ◌≤◌, ◌<◌}
use native.Mathlib.Omega.{arith}
use lib.Dec.{eqb, leb}
use lib.ListN.{length, take, set}
use lib.Seq.{get_or-set_same, get_or-set_other, length-take-le}
use borrow.Author.Tests.{eq-eqb, ne_eqb, le-leb, lt-leb}
use Rattle.numbers.specs.Limits.{max_tasks, max_count}
use Rattle.numbers.specs.Sums.{only}
use Rattle.books.specs.Kind.{chilled, each}
use Rattle.numbers.specs.Lists.{at}
use Rattle.rules.specs.Phase
use Rattle.format.specs.Command as rules
use Rattle.rules.specs.Grounds.{in_turn, in_limits, own_ground, ground_for}
use Rattle.rules.specs.Obey.{plain, with_task, obey}
use Rattle.numbers.proofs.Tests.{same_or_not}
use Rattle.rules.proofs.Judging.{ground-turn, ground-limits, ground-own}
use Rattle.words.specs.Layout.{row, rows, words, head_base}
use Rattle.words.specs.Contents.{Contents, contents, with_cell, store_with_cell, with_head, store_with_head}
use Rattle.words.proofs.Contents.{Lengths, wrote-cell, wrote-head}
use Rattle.answer.specs.Meaning.{meaning}
use Rattle.store.proofs.InStore.{by_kind}
use Rattle.answer.specs.Sound.{Unused, Sound}
use Rattle.answer.proofs.Meant.{given-more}

-- a plan with one task more, in the phase that this leads to
abbrev pub filled : Contents → (phase parent work out : ℕ) → Contents
filled c phase parent work out =
    with_head 0 phase
    (with_head 3 (c.given + 1) (with_cell 6 c.given out (with_cell 5 c.given work (with_cell 0 c.given parent c))))

-- the phase once the task at this row is given
abbrev pub phase_of : Contents → ℕ
phase_of c = cond (eqb c.given c.size) Phase.orders Phase.steps

-- there is room for one task more
pub in-columns : (c : Contents) → Sound c → c.phase ≡ Phase.steps → c.given ≤ max_tasks
in-columns c sound e = let r = (sound.given.in_steps e).1 in let s = sound.small in omega arith

-- one entry more in a column
column-more :
    (given x : ℕ) (l : List ℕ) → 1 ≤ given → Unused given l → Unused (given + 1) (set l given x)
column-more given x l low unused =
    record {
      nobody = get_or-set_other l given 0 x 0 (λ e. omega arith) ∙ unused.nobody;
      later = λ a h. get_or-set_other l given a x 0 (λ e. omega arith) ∙ unused.later a (omega arith);
    }

light-more :
    (limit given x : ℕ) (l : List ℕ) (i : ℕ)
    → given < length l
    → x ≤ limit
    → at l i ≤ limit
    → at (set l given x) i ≤ limit
light-more limit given x l i inside light before =
    ⊎_elim
    (λ (e : i ≡ given). let s = ap (at (set l given x)) e ∙ get_or-set_same l given x 0 inside in omega arith)
    (λ (d : i ≡ given → ⊥). let s = get_or-set_other l given i x 0 d in omega arith)
    (same_or_not i given)

-- the phase after a task, where it is the last and where it is not
pub phase-last : (c : Contents) → c.given ≡ c.size → phase_of c ≡ Phase.orders
phase-last c e = ap (λ (b : Bool). cond b Phase.orders Phase.steps) (eq-eqb c.given c.size e)

pub phase-more : (c : Contents) → (c.given ≡ c.size → ⊥) → phase_of c ≡ Phase.steps
phase-more c d = ap (λ (b : Bool). cond b Phase.orders Phase.steps) (ne_eqb c.given c.size d)

-- so it is one of two, and which says whether the columns are whole
record Follows (c : Contents) (phase : ℕ) : Type 0 where
  pub named : (Phase.steps ≤ phase) × (phase ≤ Phase.orders)
  pub more : phase ≡ Phase.steps → c.given ≡ c.size → ⊥
  pub last : Phase.orders ≤ phase → c.given ≡ c.size

follows : (c : Contents) → Follows c (phase_of c)
follows c =
    ⊎_elim
    (λ e.
    let q = phase-last c e in
    record { named = (omega arith, omega arith); more = λ s. absurd (omega arith); last = λ _. e })
    (λ d.
    let q = phase-more c d in
    record { named = (omega arith, omega arith); more = λ _. d; last = λ s. absurd (omega arith) })
    (same_or_not c.given c.size)

pub filled-sound :
    (c : Contents) (parent work out : ℕ)
    → Sound c
    → Lengths c
    → c.phase ≡ Phase.steps
    → work ≤ max_count
    → out ≤ max_count
    → Sound (filled c (phase_of c) parent work out)
unfolding with_cell store_with_cell with_head store_with_head
filled-sound c parent work out sound long steps w o =
    let row = sound.given.in_steps steps in
    let rows_in = in-columns c sound steps in
    let phase = follows c in
    let lw = long.works chilled in
    let lo = long.outs chilled in
    record {
      long = sound.long;
      named = omega (arith, phase.named);
      small = sound.small;
      few = sound.few;
      bounded = sound.bounded;
      light = λ i. (
        light-more max_count c.given work c.stores.chilled.works i (omega arith) w (sound.light i).0,
        light-more max_count c.given out c.stores.chilled.outs i (omega arith) o (sound.light i).1,
      );
      parents = column-more c.given parent c.parents row.0 sound.parents;
      works = column-more c.given work c.stores.chilled.works row.0 sound.works;
      outs = column-more c.given out c.stores.chilled.outs row.0 sound.outs;
      given =
          record {
            unopened = λ e. absurd (omega (arith, phase.named));
            in_steps = λ e. (omega arith, let d = phase.more e in below c.given c.size row.1 d);
            whole = λ h. let e = phase.last h in omega arith;
            some = λ h. omega (arith, row.0, row.1);
          };
      activation = sound.activation;
      execution = sound.execution;
      rest =
          λ _.
          (let z = sound.rest (omega arith) in
          record {
            unended = z.unended;
            standings = z.standings;
            needs = by_kind _ (z.needs chilled);
            booked = by_kind _ (z.booked chilled);
            figures = by_kind _ (z.figures chilled);
            ready = z.ready;
            filled = z.filled;
            next = z.next;
            active = z.active;
            ended = z.ended;
            total = by_kind _ (z.total chilled);
            used = by_kind _ (z.used chilled);
          });
      day = λ h. absurd (omega (arith, phase.named));
    }
  where
    below : (a b : ℕ) → a ≤ b → (a ≡ b → ⊥) → a + 1 ≤ b
    below a b h d = omega arith

-- no day yet
no-day : (phase size : ℕ) → phase < Phase.running → only (leb Phase.running phase) (suc size) ≡ 0
no-day phase size early = ap (λ (b : Bool). only b (suc size)) (lt-leb Phase.running phase early)

-- it is the plan of the rules with that task
pub filled-means :
    (c : Contents) (parent work out : ℕ)
    → Sound c
    → Lengths c
    → c.phase ≡ Phase.steps
    → obey (meaning c) (rules.task parent work out) ≡ plain (meaning (filled c (phase_of c) parent work out))
unfolding obey with_task with_cell store_with_cell with_head store_with_head
filled-means c parent work out sound long steps =
    let room = in-columns c sound steps in
    let phase = (follows c).named in
    let lp = long.parents in
    let lw = long.works chilled in
    let lo = long.outs chilled in
    let g = length-take-le c.given c.parents (omega arith) in
    let rows = no-day c.phase c.size (omega arith) ∙ sym (no-day (phase_of c) c.size (omega (arith, phase))) in
    λ z.
    plain
    (record {
      phase = cond (eqb (g z) c.size) Phase.orders Phase.steps;
      size = c.size;
      processors = c.processors;
      parents = sym (given-more c.parents c.given parent (omega arith)) z;
      activation = take c.ranked c.activation;
      execution = take c.placed c.execution;
      standings = take (rows z) c.standings;
      stores =
          each
          (λ _.
          record {
            bound = c.stores.chilled.bound;
            works = sym (given-more c.stores.chilled.works c.given work (omega arith)) z;
            outs = sym (given-more c.stores.chilled.outs c.given out (omega arith)) z;
            booked = take (rows z) c.stores.chilled.booked;
          });
    })

module _ (c : Contents) (parent work out : ℕ) where
  -- out of turn in another phase
  pub add-late : (c.phase ≡ Phase.steps → ⊥) → ground_for (meaning c) (rules.task parent work out) ≡ 3
  unfolding in_turn
  add-late d = ground-turn (meaning c) (rules.task parent work out) (ne_eqb c.phase Phase.steps d)

  -- the parent is no task of the plan
  pub add-parent :
      c.phase ≡ Phase.steps → c.size < parent → ground_for (meaning c) (rules.task parent work out) ≡ 4
  unfolding in_turn in_limits
  add-parent e h =
      ground-limits (meaning c) (rules.task parent work out) (eq-eqb c.phase Phase.steps e)
      (rw (lt-leb parent c.size h))

  -- and no ground is left
  pub add_free :
      c.phase ≡ Phase.steps
      → parent ≤ c.size
      → work ≤ max_count
      → out ≤ max_count
      → ground_for (meaning c) (rules.task parent work out) ≡ 0
  unfolding in_turn in_limits own_ground
  add_free e h w o =
      ground-own (meaning c) (rules.task parent work out) (eq-eqb c.phase Phase.steps e)
      (rw (le-leb parent c.size h, le-leb work max_count w, le-leb out max_count o))

-- the words that are written
pub filled-contents :
    (w w₁ w₂ w₃ w₄ : List ℕ) {w₅ : List ℕ} (task parent work out phase : ℕ)
    → length w ≡ words
    → task < rows
    → task ≡ (contents w).given
    → w₁ ≡ set w (row * task + 0) parent
    → w₂ ≡ set w₁ (row * task + 5) work
    → w₃ ≡ set w₂ (row * task + 6) out
    → w₄ ≡ set w₃ (head_base + 3) (task + 1)
    → w₅ ≡ set w₄ (head_base + 0) phase
    → contents w₅ ≡ filled (contents w) phase parent work out
filled-contents w w₁ w₂ w₃ w₄ task parent work out phase long small is e₁ e₂ e₃ e₄ e₅ =
    let one = wrote-cell w 0 task parent long (omega arith) small e₁ in
    let two = wrote-cell w₁ 5 task work one.1 (omega arith) small e₂ in
    let three = wrote-cell w₂ 6 task out two.1 (omega arith) small e₃ in
    let four = wrote-head w₃ 3 (task + 1) three.1 (omega arith) e₄ in
    let five = wrote-head w₄ 0 phase four.1 (omega arith) e₅ in
    five.0
    ∙ ap (with_head 0 phase)
    (four.0
    ∙ ap (with_head 3 (task + 1))
    (three.0 ∙ ap (with_cell 6 task out) (two.0 ∙ ap (with_cell 5 task work) one.0)))
    ∙ ap
    (λ (t : ℕ).
    with_head 0 phase
    (with_head 3 (t + 1) (with_cell 6 t out (with_cell 5 t work (with_cell 0 t parent (contents w))))))
    is
