-- A task becomes booked: its standing is written, and its place is added to the ready set where nothing is waited for.
use mathlib.Core.Path.{◌≡◌, sym, ap, subst, ◌∙◌}
use mathlib.Core.Bool.{Bool, true, false, cond}
use mathlib.Core.Logic.{⊎_elim}
use mathlib.Core.List.{List}
use Prim.Native.Nat.{ℕ, ◌+◌, ◌*◌}
use native.Mathlib.Omega.{arith}
use lib.ListN.{set}
use lib.Seq.{get_or-set_other}
use borrow.Author.Tests.{eq-eqb, ne_eqb}
use Rattle.numbers.specs.Lists.{at}
use Rattle.books.specs.Standing.{activated}
use Rattle.numbers.proofs.Tests.{same_or_not}
use Rattle.words.specs.Layout.{row, place, unended, standing}
use Rattle.words.specs.Contents.{Contents, contents, with_cell, with_ready}
use Rattle.words.specs.Marks.{Marks, changed, MayChange, Changed}
use Rattle.words.proofs.Views.{column-at}
use Rattle.words.proofs.Contents.{contents-cell}
use Rattle.ready.proofs.Marks.{marks-same}
use Rattle.booking.specs.Booked.{MayActivate, DidActivate}

module _ (w : List ℕ) {w' : List ℕ} {x : ℕ} (may : MayActivate x (contents w)) (written : w' ≡ set w (row * x + standing) activated) where
  pub stood : contents w' ≡ with_cell standing x activated (contents w)
  unfolding contents
  stood = ap contents written ∙ contents-cell w may.absent.long standing x activated (omega arith) may.task_in

  pub unended-read : at w' (row * x + unended) ≡ at (contents w).unended x
  unfolding contents
  unended-read =
      ap (λ (l : List ℕ). at l (row * x + unended)) written
      ∙ get_or-set_other w (row * x + standing) (row * x + unended) activated 0 (λ e. omega arith)
      ∙ column-at unended w x may.task_in

  pub place_read : at w' (row * x + place) ≡ at (contents w).places x
  unfolding contents
  place_read =
      ap (λ (l : List ℕ). at l (row * x + place)) written
      ∙ get_or-set_other w (row * x + standing) (row * x + place) activated 0 (λ e. omega arith)
      ∙ column-at place w x may.task_in

  marks-still : (test : ℕ → Bool) → Marks test (contents w) → Marks test (contents w')
  unfolding with_cell
  marks-still test m = subst (Marks test) (sym stood) (record { marked = m.marked; filled = m.filled })

  pub may-insert : MayChange (at (contents w).places x) false (contents w')
  unfolding with_cell
  may-insert =
      record {
        long = ap (λ (c : Contents). c.extent) stood ∙ may.absent.long;
        inside = may.absent.inside;
        test = may.absent.test;
        marks = marks-still may.absent.test may.absent.marks;
        there = may.absent.there;
      }

  -- all its children have ended
  pub fed :
      (c : Contents)
      → at (contents w).unended x ≡ 0
      → Changed (at (contents w).places x) true (contents w') c
      → DidActivate x (contents w) c
  fed c none inserted =
      record {
        same = inserted.same ∙ ap (with_ready c.ready c.filled) stood;
        marks =
            λ test m there.
            subst (λ (b : Bool). Marks (changed test (at (contents w).places x) b) c)
            (sym (eq-eqb (at (contents w).unended x) 0 none))
            (inserted.marks test (marks-still test m) there);
      }

  -- some have not
  pub unfed : (at (contents w).unended x ≡ 0 → ⊥) → DidActivate x (contents w) (contents w')
  unfolding with_ready
  unfed some =
      record {
        same = ap (with_ready (contents w').ready (contents w').filled) stood;
        marks =
            λ test m there.
            marks-same
            (λ e _.
            ap (λ (b : Bool). changed test (at (contents w).places x) b e) (ne_eqb (at (contents w).unended x) 0 some)
            ∙ ⊎_elim
            (λ (here : e ≡ at (contents w).places x).
            ap (λ (b : Bool). cond b false (test e)) (eq-eqb e (at (contents w).places x) here) ∙ sym (ap test here ∙ there))
            (λ d. ap (λ (b : Bool). cond b false (test e)) (ne_eqb e (at (contents w).places x) d))
            (same_or_not e (at (contents w).places x)))
            (marks-still test m);
      }
