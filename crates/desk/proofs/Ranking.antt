-- A loop that writes an order with the ranks of its tasks, and one that reads from the ranks whether a task stands twice.
use mathlib.Core.Path.{◌≡◌, refl, sym, ap, ◌∙◌}
use mathlib.Core.Bool.{true, false}
use mathlib.Core.Logic.{⊎_elim}
use mathlib.Core.List.{List, [], ◌∷◌, ◌++◌}
use Prim.Native.Nat.{ℕ, suc, ◌+◌, ◌*◌, ◌≤◌, ◌<◌}
use native.Mathlib.Omega.{arith}
use native.Mathlib.Numerals.{add-one}
use lib.ListN.{length, take, set, length-set}
use lib.Seq.{take_all, take-suc-set, get_or-set_same, get_or-set_other}
use Rattle.numbers.specs.Lists.{at, mem, distinct, place}
use Rattle.numbers.specs.Limits.{max_tasks}
use Rattle.numbers.proofs.Sums.{Task}
use Rattle.numbers.proofs.Tests.{fails, same_or_not}
use Rattle.tree.proofs.Orders.{place-lt, place_at, place_of}
use Rattle.words.specs.Layout.{row, words, activation_base}
use Rattle.words.specs.Contents.{Contents, contents, with_cell, with_orders, store_with_cell}
use Rattle.words.proofs.Contents.{contents-activation, lengths, wrote-cell}
use Rattle.desk.specs.Room.{MayWriteOrder, Ranked, OrderWritten}
use Rattle.desk.proofs.Listing.{take_more, entry-task}

-- where the ranks of the entries are their places, counted from s, none stands twice
places-distinct :
    (rank : ℕ → ℕ) (s : ℕ) (l : List ℕ) → ((e : ℕ) → e < length l → rank (at l e) ≡ s + e) → distinct l ≡ true
unfolding distinct
places-distinct rank s [] noted = refl
places-distinct rank s (x ∷ l) noted =
    let new : mem x l ≡ false
    = fails (mem x l)
    (λ stands.
    let later = noted (suc (place x l)) (omega (arith, place-lt x l stands)) in
    let here = ap rank (place_at x l stands) in
    omega (arith, noted 0 (omega arith))) in
    rw new (places-distinct rank (suc s) l (λ e h. let q = noted (suc e) (omega arith) in omega arith))

-- two entries at different places differ, where none stands twice
apart : (l : List ℕ) (e k : ℕ) → distinct l ≡ true → e < length l → k < length l → (e ≡ k → ⊥) → at l e ≡ at l k → ⊥
apart l e k once h g d same = d (sym (place_of l e once h) ∙ ap (λ x. place x l) same ∙ place_of l k once g)

-- the first k entries are written into w, and w₀ was there before
pub record Writing (order : List ℕ) (w₀ w : List ℕ) (k : ℕ) : Type 0 where
  pub may : MayWriteOrder order (contents w₀)
  pub passed : k ≤ length order
  pub long : length w ≡ words
  pub size : (contents w).size ≡ (contents w₀).size
  pub parents : (contents w).parents ≡ (contents w₀).parents
  pub works : (contents w).stores.chilled.works ≡ (contents w₀).stores.chilled.works
  pub outs : (contents w).stores.chilled.outs ≡ (contents w₀).stores.chilled.outs
  pub first : take k (contents w).activation ≡ take k order
  pub noted : distinct order ≡ true → (e : ℕ) → e < k → at (contents w).ranks (at order e) ≡ e

pub writing-none : {order w : List ℕ} → MayWriteOrder order (contents w) → Writing order w w 0
unfolding contents
writing-none may =
    record {
      may = may;
      passed = omega arith;
      long = may.long;
      size = refl;
      parents = refl;
      works = refl;
      outs = refl;
      first = refl;
      noted = λ once e h. absurd (omega arith);
    }

-- the entry of a turn is a task
pub writing-task : {order w₀ w : List ℕ} {k : ℕ} → Writing order w₀ w k → k < length order → Task max_tasks (at order k)
writing-task t h =
    let task = entry-task _ _ t.may.listed h in
    let few = t.may.listed.few in
    record { low = task.low; high = omega arith }

-- what one entry more leaves: the order and the rank of its task are written
abbrev noting : (k x : ℕ) → Contents → Contents
noting k x c = with_cell 1 x k (with_orders (set c.activation k x) c.execution c)

module _ {order w₀ w w₁ w₂ : List ℕ} {k x : ℕ} (t : Writing order w₀ w k) (h : k < length order) (is : x ≡ at order k)
    (entered : w₁ ≡ set w (activation_base + k) x) (ranked : w₂ ≡ set w₁ (row * x + 1) k) where
  few : Task max_tasks x × (k < max_tasks)
  few =
      let task = writing-task t h in
      let all = t.may.listed.few in
      (record { low = omega arith; high = omega arith }, omega arith)

  noted-is : (contents w₂ ≡ noting k x (contents w)) × (length w₂ ≡ words)
  noted-is =
      let long : length w₁ ≡ words = ap length entered ∙ length-set w (activation_base + k) x ∙ t.long in
      let two = wrote-cell w₁ 1 x k long (omega arith) (omega (arith, few)) ranked in (
        two.0 ∙ ap (with_cell 1 x k) (ap contents entered ∙ contents-activation w t.long k x few.1),
        two.1,
      )

  pub writing-next : Writing order w₀ w₂ (k + 1)
  unfolding with_cell with_orders store_with_cell
  writing-next =
      let entries = (lengths w).activation in
      let ranks = (lengths w).ranks in
      record {
        may = t.may;
        passed = omega arith;
        long = noted-is.1;
        size = ap (λ (c : Contents). c.size) noted-is.0 ∙ t.size;
        parents = ap (λ (c : Contents). c.parents) noted-is.0 ∙ t.parents;
        works = ap (λ (c : Contents). c.stores.chilled.works) noted-is.0 ∙ t.works;
        outs = ap (λ (c : Contents). c.stores.chilled.outs) noted-is.0 ∙ t.outs;
        first =
            ap (λ (c : Contents). take (k + 1) c.activation) noted-is.0
            ∙ rw (add-one k) (take-suc-set (contents w).activation k x (omega (arith, few)))
            ∙ ap (λ (l : List ℕ). l ++ x ∷ []) t.first
            ∙ ap (λ (v : ℕ). take k order ++ v ∷ []) is
            ∙ sym (take_more order k h);
        noted =
            λ once e under.
            ap (λ (c : Contents). at c.ranks (at order e)) noted-is.0
            ∙ ⊎_elim
            (λ (q : e ≡ k).
            ap (at (set (contents w).ranks x k)) (ap (at order) q ∙ sym is)
            ∙ get_or-set_same (contents w).ranks x k 0 (omega (arith, few))
            ∙ sym q)
            (λ d.
            get_or-set_other (contents w).ranks x (at order e) k 0 (λ same. apart order e k once (omega arith) h d (same ∙ is))
            ∙ t.noted once e (omega arith))
            (same_or_not e k);
      }

-- the whole order
pub writing-all : {order w₀ w : List ℕ} {k : ℕ} → Writing order w₀ w k → length order ≤ k → OrderWritten order (contents w₀) (contents w)
writing-all {order} {w₀} {w} {k} t h =
    let end : length order ≡ k = let passed = t.passed in omega arith in
    record {
      size = t.size;
      parents = t.parents;
      works = t.works;
      outs = t.outs;
      first =
          ap (λ (i : ℕ). take i (contents w).activation) end ∙ t.first ∙ take_all k order h;
      ranked = record { listed = t.may.listed; noted = λ once e under. t.noted once e (omega arith) };
    }

-- the first k entries stand at the ranks of their tasks
pub record Seen (order ranks : List ℕ) (k : ℕ) : Type 0 where
  pub passed : k ≤ length order
  pub noted : (e : ℕ) → e < k → at ranks (at order e) ≡ e

pub seen_none : (order ranks : List ℕ) → Seen order ranks 0
seen_none order ranks = record { passed = omega arith; noted = λ e h. absurd (omega arith) }

pub seen_next :
    {order ranks : List ℕ} {k : ℕ} → Seen order ranks k → k < length order → at ranks (at order k) ≡ k → Seen order ranks (k + 1)
seen_next {order} {ranks} {k} s h is =
    record {
      passed = omega arith;
      noted =
          λ e under.
          ⊎_elim (λ (q : e ≡ k). ap (λ (i : ℕ). at ranks (at order i)) q ∙ is ∙ sym q) (λ d. s.noted e (omega arith)) (same_or_not e k);
    }

-- one that does not stand there is overwritten by another of the same task
pub seen_twice :
    {order ranks : List ℕ} {k : ℕ}
    → Ranked order ranks
    → k < length order
    → (at ranks (at order k) ≡ k → ⊥)
    → false ≡ distinct order
seen_twice {order} {ranks} {k} r h other = sym (fails (distinct order) (λ once. other (r.noted once k h)))

pub seen_all : {order ranks : List ℕ} {k : ℕ} → Seen order ranks k → length order ≤ k → true ≡ distinct order
seen_all {order} {ranks} s h = sym (places-distinct (at ranks) 0 order (λ e under. let at-e = s.noted e (omega arith) in omega arith))
