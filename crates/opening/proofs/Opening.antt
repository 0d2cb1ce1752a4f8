-- Laws of PLAN: the plan that is opened is sound, and is the new plan of the rules.
use mathlib.Core.Path.{◌≡◌, sym, ap, ◌∙◌}
use mathlib.Core.Bool.{Bool, true, false, not, ◌&&◌}
use mathlib.Core.Logic.{⊎_elim}
use mathlib.Core.List.{List, [], ◌∷◌}
use Prim.Native.Nat.{ℕ, suc, ◌+◌, ◌*◌, ◌^◌, ◌≤◌, ◌<◌}
use native.Mathlib.Omega.{arith}
use lib.Dec.{leb}
use lib.ListN.{length, take, set, get_or-eq_default}
use borrow.Author.Tests.{leb-true, le-leb}
use Rattle.numbers.specs.Limits.{max_tasks, max_processors, max_bound}
use Rattle.books.specs.Kind.{chilled, each}
use Rattle.numbers.specs.Lists.{at}
use Rattle.rules.specs.Phase
use Rattle.format.specs.Command as rules
use Rattle.rules.specs.Grounds.{in_turn, in_limits, own_ground, ground_for}
use Rattle.numbers.specs.Sums.{within}
use Rattle.rules.specs.Obey.{plain, opened, obey}
use Rattle.numbers.proofs.Tests.{and-true, and_both, and_none, le-or-lt}
use Rattle.rules.proofs.Judging.{ground-turn, ground-limits, ground-own}
use Rattle.words.specs.Layout.{row, rows, words, head_base, ready_base, blocks, filled_word}
use Rattle.words.specs.Views.{column, part}
use Rattle.words.specs.Contents.{Contents, store_contents, contents, with_head, store_with_head}
use Rattle.words.proofs.Views.{column-length, column-at, part_length, part_at}
use Rattle.words.proofs.Contents.{wrote-head}
use Rattle.store.specs.Rows.{ZeroPast}
use Rattle.store.specs.AtRest.{AtRest}
use Rattle.answer.specs.Meaning.{meaning}
use Rattle.store.proofs.InStore.{by_kind}
use Rattle.answer.specs.Sound.{Unused, DayPast, Sound}
use Rattle.opening.specs.Cleared.{Emptied}

-- contents in which nothing is written, but for old orders
pub record Blank (c : Contents) : Type 0 where
  pub long : c.extent ≡ words
  pub parents : (a : ℕ) → at c.parents a ≡ 0
  pub works : (a : ℕ) → at c.stores.chilled.works a ≡ 0
  pub outs : (a : ℕ) → at c.stores.chilled.outs a ≡ 0
  pub some-parents : length c.parents ≡ rows
  pub some-works : length c.stores.chilled.works ≡ rows
  pub some-outs : length c.stores.chilled.outs ≡ rows
  pub ranked : c.ranked ≡ 0
  pub placed : c.placed ≡ 0
  pub rest : AtRest c

-- what the words of a plan hold past its tasks: nothing
pub record NothingPast (n : ℕ) (c : Contents) : Type 0 where
  pub parents : ZeroPast n c.parents
  pub works : ZeroPast n c.stores.chilled.works
  pub outs : ZeroPast n c.stores.chilled.outs
  pub day : DayPast n c

module _ {n : ℕ} {w w' : List ℕ} (small : n ≤ max_tasks) (long : length w ≡ words) (e : Emptied n w w') where
  -- a column that has nothing past the tasks
  column-zero : (k : ℕ) → k < row → ZeroPast n (column k w) → (a : ℕ) → at (column k w') a ≡ 0
  column-zero k h past a =
      ⊎_elim
      (λ (o : rows ≤ a). get_or-eq_default (column k w') 0 (let l = column-length k w' in omega arith))
      (λ (o : a < rows).
      sym (column-at k w' a o)
      ∙ ⊎_elim
      (λ (t : suc n ≤ a). e.later_rows (row * a + k) (omega arith) (omega arith) ∙ column-at k w a o ∙ past a t)
      (λ (t : a < suc n). e.rows (row * a + k) (omega arith))
      (le-or-lt (suc n) a))
      (le-or-lt rows a)

  head-zero : (k : ℕ) → k < row → at w' (head_base + k) ≡ 0
  head-zero k h = e.head (head_base + k) (omega arith) (omega arith)

  ready-zero : (q : ℕ) → at (part ready_base blocks w') q ≡ 0
  ready-zero q =
      ⊎_elim
      (λ (o : blocks ≤ q). get_or-eq_default (part ready_base blocks w') 0 (let l = part_length ready_base blocks w' in omega arith))
      (λ (o : q < blocks). sym (part_at ready_base blocks w' q o) ∙ e.ready (ready_base + q) (omega arith) (omega arith))
      (le-or-lt blocks q)

  pub blank : NothingPast n (contents w) → Blank (contents w')
  unfolding contents store_contents
  blank past =
      record {
        long = e.size ∙ long;
        parents = column-zero 0 (omega arith) past.parents;
        works = column-zero 5 (omega arith) past.works;
        outs = column-zero 6 (omega arith) past.outs;
        some-parents = column-length 0 w';
        some-works = column-length 5 w';
        some-outs = column-length 6 w';
        ranked = head-zero 4 (omega arith);
        placed = head-zero 8 (omega arith);
        rest =
            record {
              unended = column-zero 3 (omega arith) past.day.unended;
              standings = column-zero 4 (omega arith) past.day.standings;
              needs = by_kind _ (column-zero 7 (omega arith) past.day.needs);
              booked = by_kind _ (column-zero 8 (omega arith) past.day.booked);
              figures = by_kind _ (column-zero 9 (omega arith) past.day.figures);
              ready = ready-zero;
              filled = e.ready filled_word (omega arith) (omega arith);
              next = head-zero 9 (omega arith);
              active = head-zero 13 (omega arith);
              ended = head-zero 14 (omega arith);
              total = by_kind _ (head-zero 6 (omega arith));
              used = by_kind _ (head-zero 7 (omega arith));
            };
      }

-- the plan that is opened in blank words
abbrev pub opening : Contents → (n processors bound : ℕ) → Contents
opening c n processors bound =
    with_head 5 bound (with_head 3 1 (with_head 2 processors (with_head 1 n (with_head 0 Phase.steps c))))

module _ (c : Contents) (blank : Blank c) (n processors bound : ℕ) where
  unused : (l : List ℕ) (given : ℕ) → ((a : ℕ) → at l a ≡ 0) → Unused given l
  unused l given z = record { nobody = z 0; later = λ a _. z a }

  pub opening-sound :
      within n max_tasks ≡ true
      → within processors max_processors ≡ true
      → bound < 2 ^ 32
      → Sound (opening c n processors bound)
  unfolding with_head store_with_head
  opening-sound tasks staff fits =
      let t = and-true (leb 1 n) (leb n max_tasks) tasks in
      let s = and-true (leb 1 processors) (leb processors max_processors) staff in
      let low = leb-true 1 n t.0 in
      let r = blank.ranked in
      let p = blank.placed in
      record {
        long = blank.long;
        named = omega arith;
        small = leb-true n max_tasks t.1;
        few = leb-true processors max_processors s.1;
        bounded = fits;
        light = λ i. let a = blank.works i in let b = blank.outs i in (omega arith, omega arith);
        parents = unused c.parents 1 blank.parents;
        works = unused c.stores.chilled.works 1 blank.works;
        outs = unused c.stores.chilled.outs 1 blank.outs;
        given =
            record {
              unopened = λ e. absurd (omega arith);
              in_steps = λ _. (omega arith, low);
              whole = λ h. absurd (omega arith);
              some = λ h. absurd (omega arith);
            };
        activation = record { few = omega arith; noted = λ e h. absurd (omega arith) };
        execution = record { few = omega arith; noted = λ e h. absurd (omega arith) };
        rest =
            λ _.
            (let z = blank.rest in
            record {
              unended = z.unended;
              standings = z.standings;
              needs = by_kind _ (z.needs chilled);
              booked = by_kind _ (z.booked chilled);
              figures = by_kind _ (z.figures chilled);
              ready = z.ready;
              filled = z.filled;
              next = z.next;
              active = z.active;
              ended = z.ended;
              total = by_kind _ (z.total chilled);
              used = by_kind _ (z.used chilled);
            });
        day = λ h. absurd (omega arith);
      }

  -- the entry of nobody is all that is given
  first-zero : (l : List ℕ) → length l ≡ rows → ((a : ℕ) → at l a ≡ 0) → take 1 l ≡ 0 ∷ []
  first-zero [] h z = absurd (omega arith)
  first-zero (x ∷ l) h z = ap (λ (v : ℕ). v ∷ []) (z 0)

  -- it is the new plan of the rules
  pub opening-means :
      (before : Contents)
      → obey (meaning before) (rules.plan n processors bound) ≡ plain (meaning (opening c n processors bound))
  unfolding obey opened with_head store_with_head
  opening-means before =
      λ z.
      plain
      (record {
        phase = Phase.steps;
        size = n;
        processors = processors;
        parents = sym (first-zero c.parents blank.some-parents blank.parents) z;
        activation = ap (λ (k : ℕ). take k c.activation) (sym blank.ranked) z;
        execution = ap (λ (k : ℕ). take k c.execution) (sym blank.placed) z;
        standings = [];
        stores =
            each
            (λ _.
            record {
              bound = bound;
              works = sym (first-zero c.stores.chilled.works blank.some-works blank.works) z;
              outs = sym (first-zero c.stores.chilled.outs blank.some-outs blank.outs) z;
              booked = [];
            });
      })

module _ (c : Contents) (n processors bound : ℕ) where
  -- out of turn while trays of a plan lie in the cold room, and in turn otherwise
  pub open-late : Phase.holds_trays c.phase ≡ true → ground_for (meaning c) (rules.plan n processors bound) ≡ 3
  unfolding in_turn
  open-late e = ground-turn (meaning c) (rules.plan n processors bound) (ap not e)

  open_turn : Phase.holds_trays c.phase ≡ false → in_turn (meaning c) (rules.plan n processors bound) ≡ true
  unfolding in_turn
  open_turn e = ap not e

  -- the number of tasks is outside its limits
  pub open-tasks :
      Phase.holds_trays c.phase ≡ false
      → within n max_tasks ≡ false
      → ground_for (meaning c) (rules.plan n processors bound) ≡ 4
  unfolding in_limits
  open-tasks d e =
      ground-limits (meaning c) (rules.plan n processors bound) (open_turn d)
      (ap (λ (b : Bool). b && within processors max_processors && leb bound max_bound) e)

  -- the number of processors is outside its limits
  pub open-processors :
      Phase.holds_trays c.phase ≡ false
      → within processors max_processors ≡ false
      → ground_for (meaning c) (rules.plan n processors bound) ≡ 4
  unfolding in_limits
  open-processors d e =
      ground-limits (meaning c) (rules.plan n processors bound) (open_turn d)
      (ap (λ (b : Bool). within n max_tasks && b && leb bound max_bound) e
      ∙ ap (λ (b : Bool). b && leb bound max_bound) (and_none (within n max_tasks)))

  -- and no ground is left
  pub open_free :
      Phase.holds_trays c.phase ≡ false
      → within n max_tasks ≡ true
      → within processors max_processors ≡ true
      → bound < 2 ^ 32
      → ground_for (meaning c) (rules.plan n processors bound) ≡ 0
  unfolding in_limits own_ground
  open_free d t s fits =
      ground-own (meaning c) (rules.plan n processors bound) (open_turn d)
      (and_both (within n max_tasks && within processors max_processors) (leb bound max_bound)
      (and_both (within n max_tasks) (within processors max_processors) t s) (le-leb bound max_bound (omega arith)))

-- the words that are written
pub opening-contents :
    (w w₁ w₂ w₃ w₄ : List ℕ) {w₅ : List ℕ} (n processors bound : ℕ)
    → length w ≡ words
    → w₁ ≡ set w (head_base + 0) Phase.steps
    → w₂ ≡ set w₁ (head_base + 1) n
    → w₃ ≡ set w₂ (head_base + 2) processors
    → w₄ ≡ set w₃ (head_base + 3) 1
    → w₅ ≡ set w₄ (head_base + 5) bound
    → contents w₅ ≡ opening (contents w) n processors bound
opening-contents w w₁ w₂ w₃ w₄ n processors bound long e₁ e₂ e₃ e₄ e₅ =
    let one = wrote-head w 0 Phase.steps long (omega arith) e₁ in
    let two = wrote-head w₁ 1 n one.1 (omega arith) e₂ in
    let three = wrote-head w₂ 2 processors two.1 (omega arith) e₃ in
    let four = wrote-head w₃ 3 1 three.1 (omega arith) e₄ in
    let five = wrote-head w₄ 5 bound four.1 (omega arith) e₅ in
    five.0
    ∙ ap (with_head 5 bound)
    (four.0
    ∙ ap (with_head 3 1) (three.0 ∙ ap (with_head 2 processors) (two.0 ∙ ap (with_head 1 n) one.0)))
