-- A task is an ended one, and its parent waits for one child fewer.
use mathlib.Core.Path.{◌≡◌, refl, sym, ap, ap₂, subst, fun_ext, ◌∙◌}
use mathlib.Core.Bool.{Bool, true, false, cond, ◌&&◌}
use mathlib.Core.Logic.{⊎_elim}
use mathlib.Core.List.{List}
use Prim.Native.Nat.{ℕ, ◌+◌, ◌-◌, ◌*◌}
use native.Mathlib.Omega.{arith}
use lib.Dec.{eqb}
use lib.ListN.{set}
use borrow.Author.Tests.{eq-eqb, ne_eqb}
use Rattle.numbers.specs.Lists.{at}
use Rattle.books.specs.Standing.{activated, finished}
use Rattle.numbers.proofs.Tests.{same_or_not, and_none}
use Rattle.words.specs.Layout.{row, rows, standing}
use Rattle.words.specs.Contents.{Contents, contents, store_with_cell, with_cell, store_with_head, with_head, with_ready}
use Rattle.words.specs.Marks.{Marks, changed, MayChange, Changed}
use Rattle.store.specs.Store.{fewer}
use Rattle.dispatch.specs.Ended.{with_progress, MayEnd, ended, becomes_ready, MayFeed, Fed}
use Rattle.dispatch.proofs.Cells.{unended_column, active_word, ended_word, head_read, cell-written, head-written}

-- the three words that are written as a task ends
pub end-written :
    (w w₁ w₂ : List ℕ) {w₃ : List ℕ} {j active done : ℕ}
    → MayEnd j (contents w)
    → active ≡ at w (row * rows + active_word)
    → done ≡ at w (row * rows + ended_word)
    → w₁ ≡ set w (row * j + standing) finished
    → w₂ ≡ set w₁ (row * rows + active_word) (active - 1)
    → w₃ ≡ set w₂ (row * rows + ended_word) (done + 1)
    → contents w₃ ≡ ended j (contents w)
unfolding with_cell store_with_cell with_head store_with_head ended with_progress
end-written w w₁ w₂ may a d e₁ e₂ e₃ =
    let one = cell-written w refl may.long standing (omega arith) refl _ may.task_in e₁ in
    let two = head-written w₁ one may.long active_word (omega arith) (ap (λ (v : ℕ). v - 1) (a ∙ (head_read w).active)) e₂ in
    head-written w₂ two may.long ended_word (omega arith) (ap (λ (v : ℕ). v + 1) (d ∙ (head_read w).ended)) e₃

-- the plan in which the parent waits for one child fewer
abbrev pub waits_for_fewer : ℕ → Contents → Contents
waits_for_fewer parent c = with_progress c.standings (fewer c.unended parent) c.active c.ended c

pub fewer-written :
    (w : List ℕ) (parent : ℕ) {w₁ : List ℕ} {unended : ℕ}
    → MayFeed parent (contents w)
    → unended ≡ at (contents w).unended parent
    → w₁ ≡ set w (row * parent + unended_column) (unended - 1)
    → contents w₁ ≡ waits_for_fewer parent (contents w)
unfolding with_cell store_with_cell with_progress
fewer-written w parent may read e =
    cell-written w refl may.long unended_column (omega arith) (ap (λ (v : ℕ). v - 1) read) parent may.parent_in e

-- whether the parent becomes ready, by the two tests
module _ (parent : ℕ) (c : Contents) where
  pub waits-still : (at c.unended parent - 1 ≡ 0 → ⊥) → becomes_ready parent c ≡ false
  unfolding becomes_ready
  waits-still d =
      ap (λ (b : Bool). eqb (at c.standings parent) activated && b) (ne_eqb (at c.unended parent - 1) 0 d)
      ∙ and_none (eqb (at c.standings parent) activated)

  pub is-not-booked : (at c.standings parent ≡ activated → ⊥) → becomes_ready parent c ≡ false
  unfolding becomes_ready
  is-not-booked d =
      ap (λ (b : Bool). b && eqb (at c.unended parent - 1) 0) (ne_eqb (at c.standings parent) activated d)

  pub is-ready : at c.unended parent - 1 ≡ 0 → at c.standings parent ≡ activated → becomes_ready parent c ≡ true
  unfolding becomes_ready
  is-ready z a =
      ap₂ (λ (p q : Bool). p && q) (eq-eqb (at c.standings parent) activated a) (eq-eqb (at c.unended parent - 1) 0 z)

-- a place that is not in the set, and stays out
pub unchanged : (test : ℕ → Bool) (place : ℕ) → test place ≡ false → changed test place false ≡ test
unchanged test place off =
    fun_ext
    (λ e.
    ⊎_elim
    (λ (q : e ≡ place). ap (λ (b : Bool). cond b false (test e)) (eq-eqb e place q) ∙ sym (ap test q ∙ off))
    (λ d. ap (λ (b : Bool). cond b false (test e)) (ne_eqb e place d)) (same_or_not e place))

module _ {parent : ℕ} {c : Contents} (may : MayFeed parent c) where
  module _ {c₁ : Contents} (waits : c₁ ≡ waits_for_fewer parent c) where
    -- its ready set is that of c
    same_set : (test : ℕ → Bool) → Marks test c → Marks test c₁
    unfolding with_progress
    same_set test m =
        subst (Marks test) (sym waits) (record { marked = m.marked; filled = m.filled })

    place_is : at c₁.places parent ≡ at c.places parent
    unfolding with_progress
    place_is = ap (λ (d : Contents). at d.places parent) waits

    pub standing_is : at c₁.standings parent ≡ at c.standings parent
    unfolding with_progress
    standing_is = ap (λ (d : Contents). at d.standings parent) waits

    pub may-insert : {place : ℕ} → place ≡ at c₁.places parent → MayChange place false c₁
    unfolding with_progress
    may-insert e =
        let u = may.unfed in
        let p = u.place_in in
        let q = e ∙ place_is in
        record {
          long = ap (λ (d : Contents). d.extent) waits ∙ may.long;
          inside = omega arith;
          test = u.test;
          marks = same_set u.test u.marks;
          there = ap u.test q ∙ u.not_ready;
        }

    -- the parent waits, or for another child still
    pub fed-still : becomes_ready parent c ≡ false → Fed parent c c₁
    unfolding with_ready with_progress
    fed-still not_yet =
        record {
          same =
              subst (λ (d : Contents). d ≡ with_ready d.ready d.filled (waits_for_fewer parent c)) (sym waits)
              (λ _. waits_for_fewer parent c);
          marks =
              λ test m off.
              subst (λ (t : ℕ → Bool). Marks t c₁) (sym (ap (changed test (at c.places parent)) not_yet ∙ unchanged test (at c.places parent) off))
              (same_set test m);
        }

    -- it is ready now
    module _ {c₂ : Contents} {place : ℕ} (did : Changed place true c₁ c₂) (read : place ≡ at c₁.places parent)
        (ready-now : becomes_ready parent c ≡ true) where
      pub fed-ready : Fed parent c c₂
      fed-ready =
          let here = read ∙ place_is in
          record {
            same = did.same ∙ ap (with_ready c₂.ready c₂.filled) waits;
            marks =
                λ test m off.
                subst (λ (b : Bool). Marks (changed test (at c.places parent) b) c₂) (sym ready-now)
                (subst (λ (q : ℕ). Marks (changed test q true) c₂) here
                (did.marks test (same_set test m) (ap test here ∙ off)));
          }
