-- Laws of the entries of tasks in a column, and a loop that writes the rows of the tasks one after the other.
use mathlib.Core.Path.{◌≡◌, sym, ap, ◌∙◌}
use mathlib.Core.Bool.{true, false}
use mathlib.Core.Logic.{⊎_elim}
use mathlib.Core.List.{List}
use Prim.Native.Nat.{ℕ, ◌+◌, ◌*◌, ◌≤◌, ◌<◌}
use native.Mathlib.Omega.{arith}
use lib.Dec.{leb}
use lib.ListN.{length, set, replicate, length-replicate, get_or-replicate, get_or-eq_default}
use lib.Seq.{get_or-set_same, get_or-set_other}
use Rattle.books.specs.Kind.{chilled}
use Rattle.numbers.specs.Sums.{only, every_to, within}
use Rattle.numbers.specs.Lists.{at}
use Rattle.numbers.specs.Limits.{max_tasks}
use Rattle.numbers.proofs.Tests.{decide, clash, fails, same_or_not, le-or-lt}
use Rattle.numbers.proofs.Sums.{Task, only-true, only-false, every-to, every_one}
use Rattle.tree.proofs.Orders.{within-task, task-within}
use Rattle.tree.specs.Tasks.{Tasks}
use Rattle.words.specs.Layout.{row, rows, words}
use Rattle.words.specs.Views.{column}
use Rattle.words.specs.Contents.{Contents, contents, store_contents, with_cell, store_with_cell}
use Rattle.words.proofs.Views.{column-length, column-at}
use Rattle.words.proofs.Contents.{lengths, wrote-cell}
use Rattle.desk.specs.Room.{AtRow, with_row, RowsWritten}

-- what f says of i where it is one of n tasks, and else 0
unfoldable pub of_task : ℕ → (ℕ → ℕ) → ℕ → ℕ
of_task n f i = only (within i n) (f i)

of-task : (n : ℕ) (f : ℕ → ℕ) (i : ℕ) → Task n i → of_task n f i ≡ f i
unfolding of_task
of-task n f i t = only-true (within i n) (f i) (task-within n i t)

of_other : (n : ℕ) (f : ℕ → ℕ) (i : ℕ) → (Task n i → ⊥) → of_task n f i ≡ 0
unfolding of_task
of_other n f i other = only-false (within i n) (f i) (fails (within i n) (λ e. other (within-task n i e)))

-- the first i tasks
abbrev pub first_of : ℕ → Tasks → Tasks
first_of i t = record { size = i; parent = of_task i t.parent; work = of_task i t.work; out = of_task i t.out }

-- nobody has numbers
pub record NoOthers (t : Tasks) : Type 0 where
  pub parents : (i : ℕ) → (Task t.size i → ⊥) → t.parent i ≡ 0
  pub works : (i : ℕ) → (Task t.size i → ⊥) → t.work i ≡ 0
  pub outs : (i : ℕ) → (Task t.size i → ⊥) → t.out i ≡ 0

of-all : (n : ℕ) (f : ℕ → ℕ) → ((i : ℕ) → (Task n i → ⊥) → f i ≡ 0) → (i : ℕ) → of_task n f i ≡ f i
of-all n f none i =
    ⊎_elim (λ e. of-task n f i (within-task n i e))
    (λ e. of_other n f i (λ t. clash (task-within n i t) e) ∙ sym (none i (λ t. clash (task-within n i t) e)))
    (decide (within i n))

-- one row is written
pub row_written :
    (w w₁ w₂ w₃ : List ℕ) (task parent work out : ℕ)
    → AtRow task (contents w)
    → w₁ ≡ set w (row * task + 0) parent
    → w₂ ≡ set w₁ (row * task + 5) work
    → w₃ ≡ set w₂ (row * task + 6) out
    → contents w₃ ≡ with_row task parent work out (contents w)
unfolding with_row contents
row_written w w₁ w₂ w₃ task parent work out may one two three =
    let first = wrote-cell w 0 task parent may.long (omega arith) may.here one in
    let second = wrote-cell w₁ 5 task work first.1 (omega arith) may.here two in
    let third = wrote-cell w₂ 6 task out second.1 (omega arith) may.here three in
    third.0 ∙ ap (with_cell 6 task out) (second.0 ∙ ap (with_cell 5 task work) first.0)

-- a column of which the entries of i tasks are written gets one more
column-next :
    (f : ℕ → ℕ) (old : List ℕ) (i : ℕ)
    → length old ≡ rows
    → i + 1 < rows
    → ((j : ℕ) → at old j ≡ of_task i f j)
    → (j : ℕ)
    → at (set old (i + 1) (f (i + 1))) j ≡ of_task (i + 1) f j
column-next f old i long fits are j =
    ⊎_elim
    (λ (e : j ≡ i + 1).
    ap (at (set old (i + 1) (f (i + 1)))) e
    ∙ get_or-set_same old (i + 1) (f (i + 1)) 0 (omega arith)
    ∙ sym (ap (of_task (i + 1) f) e ∙ of-task (i + 1) f (i + 1) (record { low = omega arith; high = omega arith })))
    (λ d.
    get_or-set_other old (i + 1) j (f (i + 1)) 0 d
    ∙ are j
    ∙ ⊎_elim
    (λ e.
    let t = within-task i j e in
    of-task i f j t ∙ sym (of-task (i + 1) f j (record { low = t.low; high = let high = t.high in omega arith })))
    (λ e.
    of_other i f j (λ t. clash (task-within i j t) e)
    ∙ sym
    (of_other (i + 1) f j
    (λ t.
    let high = t.high in
    clash (task-within i j (record { low = t.low; high = omega arith })) e)))
    (decide (within j i)))
    (same_or_not j (i + 1))

-- an empty room, and a column of it
nothing-at : (m : ℕ) (w : List ℕ) → w ≡ replicate m 0 → (q : ℕ) → at w q ≡ 0
nothing-at m w empty q =
    ap (λ (l : List ℕ). at l q) empty
    ∙ ⊎_elim (λ (past : m ≤ q). get_or-eq_default (replicate m 0) 0 (let long = length-replicate {A = ℕ} m 0 in omega arith))
    (λ (under : q < m). get_or-replicate m q 0 0 under) (le-or-lt m q)

column-empty : (w : List ℕ) → ((q : ℕ) → at w q ≡ 0) → (k i : ℕ) → at (column k w) i ≡ 0
column-empty w nothing k i =
    ⊎_elim (λ (past : rows ≤ i). get_or-eq_default (column k w) 0 (let long = column-length k w in omega arith))
    (λ (under : i < rows). sym (column-at k w i under) ∙ nothing (row * i + k)) (le-or-lt rows i)

-- no task has a row there
rowed-none : (t : Tasks) (w : List ℕ) → length w ≡ words → ((q : ℕ) → at w q ≡ 0) → RowsWritten (first_of 0 t) (contents w)
unfolding contents store_contents
rowed-none t w long nothing =
    let none : (f : ℕ → ℕ) (i : ℕ) → 0 ≡ of_task 0 f i = λ f i. sym (of_other 0 f i (λ t. omega (arith, t.low, t.high))) in
    record {
      long = long;
      parent_is = λ i. column-empty w nothing 0 i ∙ none t.parent i;
      work_is = λ i. column-empty w nothing 5 i ∙ none t.work i;
      out_is = λ i. column-empty w nothing 6 i ∙ none t.out i;
    }

-- the rows of the first i tasks are written, and their parents are tasks or nobody
pub record Rowing (t : Tasks) (w : List ℕ) (i : ℕ) : Type 0 where
  pub small : t.size ≤ max_tasks
  pub passed : i ≤ t.size
  pub inside : (j : ℕ) → Task i j → leb (t.parent j) t.size ≡ true
  pub rowed : RowsWritten (first_of i t) (contents w)

pub rowing-none : {t : Tasks} {w : List ℕ} → t.size ≤ max_tasks → w ≡ replicate words 0 → Rowing t w 0
rowing-none {t} {w} small empty =
    record {
      small = small;
      passed = omega arith;
      inside = λ j u. absurd (omega (arith, u.low, u.high));
      rowed = rowed-none t w (ap length empty ∙ length-replicate {A = ℕ} words 0) (nothing-at words w empty);
    }

module _ {t : Tasks} {w : List ℕ} {i : ℕ} (r : Rowing t w i) (h : i < t.size) where
  pub rowing-at : AtRow (i + 1) (contents w)
  rowing-at = let small = r.small in record { long = r.rowed.long; here = omega arith }

  -- one row more, whose parent is a task or nobody
  pub rowing-next :
      (w' : List ℕ)
      → contents w' ≡ with_row (i + 1) (t.parent (i + 1)) (t.work (i + 1)) (t.out (i + 1)) (contents w)
      → leb (t.parent (i + 1)) t.size ≡ true
      → Rowing t w' (i + 1)
  unfolding with_row with_cell store_with_cell
  rowing-next w' is within-n =
      let small = r.small in
      let fits : i + 1 < rows = omega arith in
      record {
        small = small;
        passed = omega arith;
        inside =
            λ j u.
            ⊎_elim (λ (e : j ≡ i + 1). ap (λ (k : ℕ). leb (t.parent k) t.size) e ∙ within-n)
            (λ d. r.inside j (record { low = u.low; high = let high = u.high in omega arith })) (same_or_not j (i + 1));
        rowed =
            record {
              long = ap (λ (c : Contents). c.extent) is ∙ r.rowed.long;
              parent_is =
                  λ j.
                  ap (λ (c : Contents). at c.parents j) is
                  ∙ column-next t.parent (contents w).parents i (lengths w).parents fits r.rowed.parent_is j;
              work_is =
                  λ j.
                  ap (λ (c : Contents). at c.stores.chilled.works j) is
                  ∙ column-next t.work (contents w).stores.chilled.works i ((lengths w).works chilled) fits r.rowed.work_is j;
              out_is =
                  λ j.
                  ap (λ (c : Contents). at c.stores.chilled.outs j) is
                  ∙ column-next t.out (contents w).stores.chilled.outs i ((lengths w).outs chilled) fits r.rowed.out_is j;
            };
      }

  -- a parent above n
  pub rowing-stray : leb (t.parent (i + 1)) t.size ≡ false → false ≡ every_to (λ j. leb (t.parent j) t.size) t.size
  rowing-stray above =
      sym
      (fails (every_to (λ j. leb (t.parent j) t.size) t.size)
      (λ all.
      clash (every_one (λ j. leb (t.parent j) t.size) t.size (i + 1) all (record { low = omega arith; high = omega arith })) above))

-- every row
pub rowing-all :
    {t : Tasks} {w : List ℕ} {i : ℕ}
    → NoOthers t
    → Rowing t w i
    → t.size ≤ i
    → (true ≡ every_to (λ j. leb (t.parent j) t.size) t.size) × RowsWritten t (contents w)
rowing-all {t} {w} {i} none r h =
    let end : i ≡ t.size = let passed = r.passed in omega arith in
    let rowed : RowsWritten (first_of t.size t) (contents w) = rw end at r.rowed in (
      sym (every-to (λ j. leb (t.parent j) t.size) t.size (λ j u. r.inside j (record { low = u.low; high = let high = u.high in omega arith }))),
      record {
        long = rowed.long;
        parent_is = λ j. rowed.parent_is j ∙ of-all t.size t.parent none.parents j;
        work_is = λ j. rowed.work_is j ∙ of-all t.size t.work none.works j;
        out_is = λ j. rowed.out_is j ∙ of-all t.size t.out none.outs j;
      },
    )
