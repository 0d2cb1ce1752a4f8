-- A task ends: what is asked of the climb, and what the columns hold after it.
use mathlib.Core.Path.{◌≡◌, refl, sym, ap, ap₂, subst, fun_ext, ◌∙◌}
use mathlib.Core.Bool.{Bool, true, false, cond, ◌&&◌}
use mathlib.Core.Logic.{⊎_elim}
use mathlib.Core.List.{List, []}
use Prim.Native.Nat.{ℕ, ◌+◌, ◌-◌, ◌^◌, ◌≤◌, ◌<◌}
use native.Mathlib.Omega.{arith}
use lib.Dec.{eqb}
use lib.ListN.{length, set, length-set}
use lib.Seq.{get_or-set_same, get_or-set_other}
use borrow.Author.Tests.{eq-eqb, ne_eqb}
use Rattle.books.specs.Kind.{Kind, Each, of, each}
use Rattle.numbers.specs.Sums.{Task, only, sum_to}
use Rattle.numbers.specs.Lists.{at}
use Rattle.tree.specs.Need.{need}
use Rattle.books.specs.Standing.{activated, running, finished, count}
use Rattle.books.specs.Booking.{Books, Share, Climbed, total, release, climb, dispatch, ready, fed}
use Rattle.tree.specs.Tree.{chain, figure, Tree, up, rank_in}
use Rattle.books.specs.Invariant.{Shape, Balance, Balanced, Good}
use Rattle.numbers.proofs.Tests.{clash, same_or_not, le-or-lt, and_none}
use Rattle.numbers.proofs.Sums.{count-le, term-le, only-true, only-false}
use Rattle.tree.proofs.Tree.{not-above-itself}
use Rattle.tree.proofs.Ranks.{tree_of}
use Rattle.books.proofs.Shape.{Moved, not-begun-above}
use Rattle.books.proofs.Balance.{finished-figure}
use Rattle.books.proofs.Usage.{in-process-within}
use Rattle.books.proofs.Finishing.{Taken, finishing-shape, finishing-balance, finishing-total, figure-taken, figure-kept, out_within}
use Rattle.books.proofs.Branches.{release-child}
use Rattle.books.proofs.Sharing.{Owing, climbs, sharing-good}
use Rattle.books.proofs.Entries.{at_other, moved-by-set}
use Rattle.rules.proofs.Reporting.{one_fewer, one-more-ended}
use Rattle.words.specs.Layout.{rows}
use Rattle.words.specs.Contents.{Contents}
use Rattle.words.specs.Marks.{Marks, changed}
use Rattle.words.proofs.Contents.{Lengths}
use Rattle.store.specs.Rows.{rows_of, ZeroPast, books_in, books, terms_in, activation_of, execution_of}
use Rattle.store.specs.Cached.{partial_figure, partial_figure_with, unended_children, is_ready_at, Reached, in_process_by}
use Rattle.store.specs.Kept.{DayInvariant, Kept}
use Rattle.store.specs.Store.{grown, fewer}
use Rattle.store.proofs.Rows.{at_rows, rows-set, rows-length, rows_is, zero-set}
use Rattle.store.proofs.Entries.{grown-at, grown-length, fewer-at, grown-zero}
use Rattle.store.proofs.Unended.{fed-is, unended-one}
use Rattle.store.proofs.Figures.{partial-taken, partial-taken-there}
use Rattle.store.proofs.Using.{used-holds, used-ended}
use Rattle.store.proofs.Ready.{place_in, ready_at, ready-changed}
use Rattle.dispatch.specs.Climb.{Carrying, share_of, Carried}
use Rattle.dispatch.specs.Ended.{with_progress, MayEnd, ended, becomes_ready, MayFeed, Fed}
use Rattle.dispatch.specs.Finished.{MayFinish, dispatched_from}

-- the booked trays once those of j are taken and its parent keeps its out, and what goes up then
abbrev pub shared_with : List ℕ → ℕ → ℕ → ℕ → List ℕ
shared_with booked j parent out = grown (set booked j 0) parent out

abbrev pub rest_of : List ℕ → ℕ → ℕ → ℕ
rest_of booked j out = at booked j - out

-- what is asked of the end of a running task
pub may-end : {c : Contents} {j : ℕ} → Kept c → Task c.size j → at c.standings j ≡ running → MayEnd j c
unfolding count
may-end {c = c} {j = j} kept task runs =
    let day = kept.invariant in
    let high = task.high in
    let small = day.small in
    record {
      long = kept.cached.long;
      task_in = omega arith;
      some_run =
          (let one =
          one_fewer c.size (rows_of c.size c.standings) j day.good.sized task (at_rows c.size c.standings j high ∙ runs)
          in
          let r = kept.cached.runs in
          omega arith);
      ended_fits =
          (let k = count-le (λ i. eqb (at (rows_of c.size c.standings) i) finished) c.size in
          let e = kept.cached.ends in
          omega arith);
    }

module _ {c : Contents} {j : ℕ} (may : MayFinish c j) (long : Lengths c) where
  abbrev n : ℕ
  n = c.size

  abbrev par : ℕ → ℕ
  par = at c.parents

  abbrev needs : ℕ → ℕ
  needs = at c.stores.chilled.needs

  abbrev outs : ℕ → ℕ
  outs = at c.stores.chilled.outs

  abbrev booked : List ℕ
  booked = c.stores.chilled.booked

  abbrev figures : List ℕ
  figures = c.stores.chilled.figures

  abbrev standings : List ℕ
  standings = c.standings

  abbrev then : List ℕ
  then = set c.standings j finished

  abbrev rank : ℕ → ℕ
  rank = rank_in (activation_of c)

  -- what its parent keeps, what is booked then, and what goes up
  abbrev given : ℕ
  given = at c.stores.chilled.outs j

  abbrev taken : List ℕ
  taken = set c.stores.chilled.booked j 0

  abbrev shared : List ℕ
  shared = shared_with c.stores.chilled.booked j (at c.parents j) (at c.stores.chilled.outs j)

  abbrev rest : ℕ
  rest = rest_of c.stores.chilled.booked j (at c.stores.chilled.outs j)

  day : DayInvariant c.size (at c.parents) (terms_in c) (activation_of c) (books c)
  day = may.kept.invariant

  tree : Tree n par rank
  tree = tree_of n par (activation_of c) day.valid (λ i _. day.parents i)

  pub task_in : j < rows
  task_in = let h = may.task.high in let s = day.small in omega arith

  pub parent_in : at c.parents j < rows
  parent_in = let p = day.parents j in let s = day.small in omega arith

  parent-task : Task n (par j)
  parent-task = let p = day.parents j in let d = may.higher in omega arith

  -- the standings and the books, as functions of the whole columns
  standings-rows : at (rows_of n standings) ≡ at standings
  standings-rows = rows_is n standings may.kept.cached.standings_zero

  booked-rows : at (rows_of n booked) ≡ at booked
  booked-rows = rows_is n booked (may.kept.cached.stores Kind.chilled).booked_zero

  runs-there : at (rows_of n standings) j ≡ running
  runs-there = at_rows n standings j may.task.high ∙ may.runs

  shape : Shape n par rank (at standings)
  shape = subst (λ (st : ℕ → ℕ). Shape n par rank st) standings-rows day.good.shape

  balanced : Balanced n par needs outs (at standings) (at booked)
  balanced =
      subst (λ (st : ℕ → ℕ). Balanced n par needs outs st (at booked)) standings-rows
      (subst (λ (b : ℕ → ℕ). Balanced n par needs outs (at (rows_of n standings)) b) booked-rows (day.good.stock Kind.chilled).books)

  moved : Moved n (at standings) (at then) j finished
  moved =
      record {
        there = get_or-set_same standings j finished 0 (let z = long.standings in let i = task_in in omega arith);
        elsewhere = λ i _ d. get_or-set_other standings j i finished 0 d;
      }

  -- what is taken, and what the parent keeps
  taken-there : at taken j ≡ 0
  taken-there = get_or-set_same booked j 0 0 (let z = long.booked Kind.chilled in let i = task_in in omega arith)

  taken-others : (i : ℕ) → Task n i → (i ≡ j → ⊥) → at taken i ≡ at booked i
  taken-others i _ d = get_or-set_other booked j i 0 0 d

  shared-size : length shared ≡ rows
  shared-size = grown-length taken (par j) given ∙ length-set booked j 0 ∙ long.booked Kind.chilled

  gave : (i : ℕ) → Task n i → at shared i ≡ at taken i + only (eqb (par j) i) given
  gave i t =
      grown-at taken (par j) given i (let z = length-set booked j 0 ∙ long.booked Kind.chilled in let p = parent_in in omega arith) t.low

  ends : Taken n par outs (at booked) (at taken) (at shared) j rest
  ends =
      record { taken = record { there = taken-there; elsewhere = taken-others }; gave = gave; rest = refl }

  pub out_held : at c.stores.chilled.outs j ≤ at c.stores.chilled.booked j
  out_held =
      out_within n par rank tree (at standings) (at then) shape j may.task may.runs moved may.higher needs outs (at booked) (at taken)
      (at shared) rest (day.roomy Kind.chilled) balanced ends

  total-shared : sum_to (at shared) n + rest ≡ sum_to (at booked) n
  total-shared =
      finishing-total n par rank tree (at standings) (at then) shape j may.task may.runs moved may.higher needs outs (at booked)
      (at taken) (at shared) rest (day.roomy Kind.chilled) balanced ends

  within-bound : total n (at shared) + rest ≤ c.stores.chilled.bound
  unfolding total
  within-bound =
      let t = total-shared in
      let w = (day.good.stock Kind.chilled).within in
      let f : total n (at (rows_of n booked)) ≡ total n (at booked) = ap (total n) booked-rows in
      omega arith

  -- the parent's trays stay within 32 bits
  pub parent_fits : at (set c.stores.chilled.booked j 0) (at c.parents j) + at c.stores.chilled.outs j < 2 ^ 32
  unfolding total
  parent_fits =
      let u = parent-task in
      let g = gave (par j) u in
      let o = only-true (eqb (par j) (par j)) given (eq-eqb (par j) (par j) refl) in
      let one = term-le (at shared) n (par j) u in
      let w = within-bound in
      let b = day.bounded Kind.chilled in
      omega arith

  -- nobody above j has begun
  idle : (a : ℕ) → up n par a (par j) ≡ true → at then a ≤ activated
  idle a m =
      let r = may.runs in
      let low = not-begun-above n par rank tree (at standings) shape a j may.task m (λ e. omega arith) in
      let other : a ≡ j → ⊥ =
      λ q.
      clash (subst (λ (v : ℕ). up n par v (par j) ≡ true) q m) (not-above-itself n par rank tree j may.task)
      in
      let same = get_or-set_other standings j a finished 0 other in
      omega arith

  -- the figures, as they are while the rest is in the air
  figures-in-air : (a : ℕ) → Task n a → at (set figures j 0) a ≡ partial_figure_with n par (at then) (at shared) j rest a
  figures-in-air a t =
      let parts : rest + given ≡ at booked j = (let k = out_held in omega arith) in
      let before =
      figure-taken n par rank tree (at standings) (at then) shape j may.task may.runs moved may.higher needs outs (at booked)
      (at taken) (at shared) rest (day.roomy Kind.chilled) balanced ends
      in
      let later =
      figure-kept n par rank tree (at standings) (at then) shape j may.task may.runs moved may.higher needs outs (at booked)
      (at taken) (at shared) rest (day.roomy Kind.chilled) balanced ends
      in
      let below : (k : ℕ) → Task n k → par k ≡ j → figure n par (at booked) k ≡ 0 =
      λ k u e.
      finished-figure n par rank tree needs outs (at standings) (at booked) shape [] 0 balanced k u
      (shape.fed j k may.task u e (let r = may.runs in omega arith))
      in
      let was : at figures a ≡ partial_figure n par (at standings) (at booked) a =
      (may.kept.cached.stores Kind.chilled).figured a t
      ∙ ap₂ (λ (st b : ℕ → ℕ). partial_figure n par st b a) standings-rows booked-rows
      in
      ⊎_elim
      (λ e.
      ap (at (set figures j 0)) e
      ∙ get_or-set_same figures j 0 0 (let z = long.figures Kind.chilled in let i = task_in in omega arith)
      ∙ sym
      (ap (partial_figure_with n par (at then) (at shared) j rest) e
      ∙ partial-taken-there n par rank tree (at standings) (at then) (at booked) (at taken) (at shared) j rest given shape
      may.task may.runs moved taken-there taken-others gave parts before later below))
      (λ d.
      get_or-set_other figures j a 0 0 d
      ∙ was
      ∙ sym
      (partial-taken n par rank tree (at standings) (at then) (at booked) (at taken) (at shared) j rest given shape may.task
      may.runs moved taken-there taken-others gave parts before later below a t d))
      (same_or_not a j)

  -- what is asked of the climb
  pub carrying :
      Carrying c.size (at c.parents) (at c.stores.chilled.needs) (at (set c.standings j finished))
      (at (shared_with c.stores.chilled.booked j (at c.parents j) (at c.stores.chilled.outs j))) (at (set c.stores.chilled.figures j 0)) j
      (rest_of c.stores.chilled.booked j (at c.stores.chilled.outs j))
  carrying =
      record {
        small = day.small;
        task = may.task;
        busy = λ w. let e = moved.there in omega arith;
        rank = rank;
        tree = tree;
        shape = finishing-shape n par rank tree (at standings) (at then) shape j may.task may.runs moved;
        out = outs;
        roomy = day.roomy Kind.chilled;
        owed =
            finishing-balance n par rank tree (at standings) (at then) shape j may.task may.runs moved may.higher needs outs (at booked)
            (at taken) (at shared) rest (day.roomy Kind.chilled) balanced ends;
        idle = idle;
        figured = figures-in-air;
        bound = c.stores.chilled.bound;
        bounded = day.bounded Kind.chilled;
        within = within-bound;
      }

  -- j is a child that its parent waited for
  counted-there : (i : ℕ) → Task n i → at c.unended i ≡ unended_children n par (at standings) i
  counted-there i t =
      may.kept.cached.counted i t ∙ ap (λ (st : ℕ → ℕ). unended_children n par st i) standings-rows

  one-child :
      (i : ℕ) → unended_children n par (at standings) i ≡ unended_children n par (at then) i + only (eqb (par j) i) 1
  one-child i =
      unended-one n par (at standings) (at then) j i may.task (λ e. let r = may.runs in omega arith) moved

  some-unended : (i : ℕ) → Task n i → par j ≡ i → 1 ≤ at c.unended i
  some-unended i t e =
      let k = counted-there i t in
      let f = one-child i in
      let o = only-true (eqb (par j) i) 1 (eq-eqb (par j) i e) in
      omega arith

  -- the standings afterwards say nothing past the tasks
  pub then-zero : ZeroPast c.size (set c.standings j finished)
  then-zero = zero-set n standings j finished may.task.high may.kept.cached.standings_zero

  then-rows : at (rows_of n then) ≡ at then
  then-rows = rows_is n then then-zero

  pub counted-then :
      (i : ℕ)
      → Task c.size i
      → at (fewer c.unended (at c.parents j)) i
      ≡ unended_children c.size (at c.parents) (at (rows_of c.size (set c.standings j finished))) i
  counted-then i t =
      (let f = fewer-at c.unended (par j) i (let z = long.unended in let p = parent_in in omega arith) (some-unended i t) in
      let k = counted-there i t in
      let o = one-child i in
      let e : at (fewer c.unended (par j)) i ≡ unended_children n par (at then) i = omega arith in
      e)
      ∙ ap (λ (st : ℕ → ℕ). unended_children n par st i) (sym then-rows)

  -- who is ready looks at the rows of the standings, or at all of them
  ready-rows : (l : List ℕ) (i : ℕ) → at (rows_of n l) ≡ at l → ready n par (rows_of n l) i ≡ ready n par l i
  unfolding ready
  ready-rows l i e = ap (λ (f : ℕ → ℕ). eqb (f i) activated && fed n par f i) e

  -- who is not booked is not ready
  not_ready : (l : List ℕ) (i : ℕ) → (at l i ≡ activated → ⊥) → ready n par l i ≡ false
  unfolding ready
  not_ready l i d = ap (λ (b : Bool). b && fed n par (at l) i) (ne_eqb (at l i) activated d)

  was-not-ready : ready n par (rows_of n standings) j ≡ false
  was-not-ready =
      ready-rows standings j standings-rows ∙ not_ready standings j (λ q. let r = may.runs in omega arith)

  is-not-ready : ready n par (rows_of n then) j ≡ false
  is-not-ready = ready-rows then j then-rows ∙ not_ready then j (λ q. let m = moved.there in omega arith)

  -- who is ready afterwards: nobody else than before, but the parent perhaps
  ready-others :
      (i : ℕ) → Task n i → (i ≡ par j → ⊥) → ready n par (rows_of n then) i ≡ ready n par (rows_of n standings) i
  unfolding ready
  ready-others i t d =
      ⊎_elim
      (λ e. ap (ready n par (rows_of n then)) e ∙ is-not-ready ∙ sym (ap (ready n par (rows_of n standings)) e ∙ was-not-ready))
      (λ v.
      let same : unended_children n par (at then) i ≡ unended_children n par (at standings) i =
      (let o = one-child i in
      let none = only-false (eqb (par j) i) 1 (ne_eqb (par j) i (λ e. d (sym e))) in
      omega arith)
      in
      ready-rows then i then-rows
      ∙ ap₂ (λ (a b : Bool). a && b) (ap (λ (w : ℕ). eqb w activated) (moved.elsewhere i t v))
      (fed-is n par (at then) i ∙ ap (λ (w : ℕ). eqb w 0) same ∙ sym (fed-is n par (at standings) i))
      ∙ sym (ready-rows standings i standings-rows))
      (same_or_not i j)

  -- the parent was not ready
  parent-not-ready : ready n par (rows_of n standings) (par j) ≡ false
  unfolding ready
  parent-not-ready =
      let u = parent-task in
      let some = some-unended (par j) u refl in
      let k = counted-there (par j) u in
      ready-rows standings (par j) standings-rows
      ∙ ap (λ (b : Bool). eqb (at standings (par j)) activated && b)
      (fed-is n par (at standings) (par j)
      ∙ ne_eqb (unended_children n par (at standings) (par j)) 0 (λ z. omega arith))
      ∙ and_none (eqb (at standings (par j)) activated)

  -- and is ready where it is booked and waits for none
  parent-ready-then : becomes_ready (par j) (ended j c) ≡ ready n par (rows_of n then) (par j)
  unfolding ready becomes_ready ended with_progress
  parent-ready-then =
      let u = parent-task in
      let fewer-left : at c.unended (par j) - 1 ≡ unended_children n par (at then) (par j) =
      (let k = counted-there (par j) u in
      let f = one-child (par j) in
      let o = only-true (eqb (par j) (par j)) 1 (eq-eqb (par j) (par j) refl) in
      omega arith)
      in
      ap (λ (v : ℕ). eqb (at then (par j)) activated && eqb v 0) fewer-left
      ∙ ap (λ (b : Bool). eqb (at then (par j)) activated && b) (sym (fed-is n par (at then) (par j)))
      ∙ sym (ready-rows then (par j) then-rows)

  -- the ready set before, by the test for ready tasks
  abbrev was : ℕ → Bool
  was = is_ready_at c.size (at c.parents) (execution_of c) (books c).standings

  abbrev place : ℕ → ℕ
  place = at c.places

  still_marked : Marks was (ended j c)
  unfolding ended with_progress
  still_marked = let m = may.kept.cached.marks in record { marked = m.marked; filled = m.filled }

  -- what is asked of the parent's count
  pub may-feed : MayFeed (at c.parents j) (ended j c)
  unfolding ended with_progress
  may-feed =
      record {
        long = may.kept.cached.long;
        parent_in = parent_in;
        unfed =
            record {
              waited = some-unended (par j) parent-task refl;
              place_in =
                  (let p = place_in may.kept.cached.placed (par j) parent-task in let s = day.small in omega arith);
              test = was;
              marks = still_marked;
              not_ready =
                  ready_at may.kept.cached.placed par (rows_of n standings) (par j) parent-task ∙ parent-not-ready;
            };
      }

  -- the ready set then
  pub marks_then :
      {c₂ : Contents}
      → Fed (at c.parents j) (ended j c) c₂
      → Marks (is_ready_at c.size (at c.parents) (execution_of c) (rows_of c.size (set c.standings j finished))) c₂
  unfolding ended with_progress
  marks_then {c₂} fed-parent =
      subst (λ (t : ℕ → Bool). Marks t c₂)
      (ap (changed was (place (par j))) parent-ready-then
      ∙ ready-changed may.kept.cached.placed par (rows_of n standings) (rows_of n then) (par j) parent-task ready-others)
      (fed-parent.marks was still_marked
      (ready_at may.kept.cached.placed par (rows_of n standings) (par j) parent-task ∙ parent-not-ready))

  -- the rows of the standings then
  rows_then : rows_of n then ≡ set (rows_of n standings) j finished
  rows_then = rows-set n standings j finished may.task.high

  moved-rows : Moved n (at (rows_of n standings)) (at (set (rows_of n standings) j finished)) j finished
  moved-rows = moved-by-set n (rows_of n standings) j finished day.good.sized may.task

  -- the parent of a running task has not begun
  parent-idle : (i : ℕ) → Task n i → par j ≡ i → at (rows_of n standings) i ≤ activated
  parent-idle i t e =
      ⊎_elim (λ (h : at (rows_of n standings) i ≤ activated). h)
      (λ (h : activated < at (rows_of n standings) i).
      let f = day.good.shape.fed i j t may.task e (omega arith) in let r = runs-there in absurd (omega arith))
      (le-or-lt (at (rows_of n standings) i) activated)

  abbrev works : ℕ → ℕ
  works = at c.stores.chilled.works

  same-need : needs ≡ need n par works outs
  same-need = fun_ext (may.kept.cached.stores Kind.chilled).needed

  -- its need is in use
  pub used_has : at c.stores.chilled.needs j ≤ c.stores.chilled.used
  used_has =
      let h = used-holds n par works outs (λ i _. day.parents i) (at (rows_of n standings)) j may.task runs-there in
      let u = (may.kept.cached.stores Kind.chilled).uses in
      let e = (may.kept.cached.stores Kind.chilled).needed j in
      omega arith

  -- what is in use is booked, and within the bound
  used-within : c.stores.chilled.used ≤ c.stores.chilled.bound
  used-within =
      let w =
      in-process-within n par rank tree works outs (at (rows_of n standings)) (at (rows_of n booked)) day.good.shape
      (subst (λ (f : ℕ → ℕ). Balanced n par f outs (at (rows_of n standings)) (at (rows_of n booked))) same-need (day.good.stock Kind.chilled).books)
      in
      let u = (may.kept.cached.stores Kind.chilled).uses in
      let g = (day.good.stock Kind.chilled).within in
      omega arith

  pub used_fits :
      c.stores.chilled.used - at c.stores.chilled.needs j + at c.stores.chilled.outs j < 2 ^ 32
  used_fits =
      let o = day.roomy Kind.chilled j may.task in
      let u = used-within in
      let f = day.bounded Kind.chilled in
      let e = used_has in
      omega arith

  -- what is in use then
  pub used-then :
      c.stores.chilled.used - at c.stores.chilled.needs j + at c.stores.chilled.outs j
      ≡ in_process_by c.size (at c.parents) (at c.stores.chilled.works) (at c.stores.chilled.outs)
      (at (rows_of c.size (set c.standings j finished)))
  used-then =
      let e =
      used-ended n par works outs (λ i _. day.parents i) (at (rows_of n standings)) (at (set (rows_of n standings) j finished)) j
      may.task runs-there may.higher parent-idle moved-rows
      in
      let u = (may.kept.cached.stores Kind.chilled).uses in
      let m = (may.kept.cached.stores Kind.chilled).needed j in
      let h = used_has in
      let there : c.stores.chilled.used - needs j + given ≡ in_process_by n par works outs (at (set (rows_of n standings) j finished)) = omega arith in
      there ∙ ap (λ (l : List ℕ). in_process_by n par works outs (at l)) (sym rows_then)

  -- one fewer runs, and one more has ended
  pub runs_then :
      c.active - 1 ≡ count c.size (at (rows_of c.size (set c.standings j finished))) running
  runs_then =
      (let one = one_fewer n (rows_of n standings) j day.good.sized may.task runs-there in
      let r = may.kept.cached.runs in
      let e : c.active - 1 ≡ count n (at (set (rows_of n standings) j finished)) running = omega arith in
      e)
      ∙ ap (λ (l : List ℕ). count n (at l) running) (sym rows_then)

  pub ends-then :
      c.ended + 1 ≡ count c.size (at (rows_of c.size (set c.standings j finished))) finished
  ends-then =
      (let one = one-more-ended n (rows_of n standings) j day.good.sized may.task runs-there in
      let r = may.kept.cached.ends in
      let e : c.ended + 1 ≡ count n (at (set (rows_of n standings) j finished)) finished = omega arith in
      e)
      ∙ ap (λ (l : List ℕ). count n (at l) finished) (sym rows_then)

  -- booking ahead has come as far as before
  pub reached_then :
      (booked' : List ℕ)
      → Reached c.size (activation_of c) (books_in c.size (set c.standings j finished) (λ _. booked')) c.next
  reached_then booked' =
      record {
        within = may.kept.cached.reached.within;
        before_next =
            λ e l w.
            ⊎_elim (λ (q : at (activation_of c) e ≡ j). let f = ap (at (rows_of n then)) q ∙ there in omega arith)
            (λ d. may.kept.cached.reached.before_next e l (sym (other (at (activation_of c) e) d) ∙ w))
            (same_or_not (at (activation_of c) e) j);
        from_next =
            λ e l s.
            let waits = may.kept.cached.reached.from_next e l s in
            ⊎_elim (λ (q : at (activation_of c) e ≡ j). let r = ap (at (rows_of n standings)) q ∙ runs-there in absurd (omega arith))
            (λ d. other (at (activation_of c) e) d ∙ waits) (same_or_not (at (activation_of c) e) j);
      }
    where
      other : (i : ℕ) → (i ≡ j → ⊥) → at (rows_of n then) i ≡ at (rows_of n standings) i
      other i d = ap (λ (l : List ℕ). at l i) rows_then ∙ at_other (rows_of n standings) j finished i d

      there : at (rows_of n then) j ≡ finished
      there = ap (λ (l : List ℕ). at l j) rows_then ∙ moved-rows.there

  -- what the columns share out is what the rules do
  released : (share_of n rest shared).chilled ≡ release par outs (rows_of n booked) j
  released =
      let high = may.task.high in
      let own : at (rows_of n booked) j ≡ at booked j = at_rows n booked j high in
      let p = day.parents j in
      let b₂ :
      rows_of n shared ≡ set (set (rows_of n booked) j 0) (par j) (at (set (rows_of n booked) j 0) (par j) + outs j) =
      ap (rows_of n)
      (ap (λ (t : Bool). cond t taken (set taken (par j) (at taken (par j) + given))) (ne_eqb (par j) 0 may.higher))
      ∙ rows-set n taken (par j) (at taken (par j) + given) p
      ∙ ap₂ (λ (l : List ℕ) (v : ℕ). set l (par j) v) (rows-set n booked j 0 high)
      (ap (λ (a : ℕ). a + given)
      (sym (at_rows n taken (par j) p) ∙ ap (λ (l : List ℕ). at l (par j)) (rows-set n booked j 0 high)))
      in
      ap₂ (λ (v : ℕ) (b : List ℕ). record { left = v; booked = b })
      (let e : rest ≡ at (rows_of n booked) j - outs j = omega arith in e) b₂
      ∙ sym (release-child par outs (rows_of n booked) j (ne_eqb (par j) 0 may.higher))

  -- and so the climb is that of the rules
  same-goal : climb n par (terms_in c) (at then) (chain n par (par j)) (share_of n rest shared) ≡ dispatched_from c j
  unfolding dispatch
  same-goal =
      ap (climb n par (terms_in c) (at then) (chain n par (par j))) (λ i. record { chilled = released i })
      ∙ ap (λ (f : ℕ → ℕ). dispatch n par (terms_in c) f (books c).booked j) (sym (ap at (sym rows_then) ∙ then-rows))

  shared-zero : ZeroPast n shared
  shared-zero =
      grown-zero n taken (par j) given (day.parents j)
      (zero-set n booked j 0 may.task.high (may.kept.cached.stores Kind.chilled).booked_zero)

  -- after the climb
  module _ {offers left : ℕ} {booked' figures' : List ℕ}
      (climbed :
      Carried c.size (at c.parents) (at (set c.standings j finished))
      (climb c.size (at c.parents) (terms_in c) (at (set c.standings j finished))
      (chain c.size (at c.parents) (at c.parents j))
      (share_of c.size (rest_of c.stores.chilled.booked j (at c.stores.chilled.outs j))
      (shared_with c.stores.chilled.booked j (at c.parents j) (at c.stores.chilled.outs j))))
      (shared_with c.stores.chilled.booked j (at c.parents j) (at c.stores.chilled.outs j)) booked' figures' offers left) where
    pub booked_zero : ZeroPast c.size booked'
    booked_zero a h = climbed.past a h ∙ shared-zero a h

    -- what goes up is owed to those above
    owing :
        (d : Kind)
        → Owing n par (terms_in c d).need (terms_in c d).out (at then) (chain n par (par j)) (of (share_of n rest shared) d)
    unfolding carrying
    owing Kind.chilled =
        let z = shared-size in
        let s = day.small in
        record {
          sized = rows-length n shared (omega arith);
          books =
              subst (λ (b : ℕ → ℕ). Balance n par needs outs (at then) b (chain n par (par j)) rest)
              (sym (rows_is n shared shared-zero)) carrying.owed;
        }

    -- what is left is free
    total-then : total n (at (rows_of n booked')) + left ≡ c.stores.chilled.total
    unfolding total carrying
    total-then =
        let shared-rows = rows_is n shared shared-zero in
        let all =
        (climbs n par rank tree (terms_in c) day.roomy (at then) carrying.shape (chain n par (par j)) (par j) (share_of n rest shared)
        refl (day.parents j) idle owing Kind.chilled
        ).all
        in
        let new = ap (λ (s : Each Share). total n (at s.chilled.booked) + s.chilled.left) climbed.share in
        let old : total n (at (rows_of n shared)) ≡ total n (at shared) = ap (total n) shared-rows in
        let before : total n (at (rows_of n booked)) ≡ total n (at booked) = ap (total n) booked-rows in
        let t = total-shared in
        let m = (may.kept.cached.stores Kind.chilled).totals in
        omega arith

    pub left-fits : left ≤ c.stores.chilled.total
    left-fits = let t = total-then in omega arith

    pub totals-then : c.stores.chilled.total - left ≡ total c.size (at (rows_of c.size booked'))
    totals-then = let t = total-then in omega arith

    pub figured-then :
        (i : ℕ)
        → Task c.size i
        → at figures' i
        ≡ partial_figure c.size (at c.parents) (at (rows_of c.size (set c.standings j finished))) (at (rows_of c.size booked')) i
    figured-then i t =
        climbed.figured i t
        ∙ ap₂ (λ (st b : ℕ → ℕ). partial_figure n par st b i) (sym then-rows) (sym (rows_is n booked' booked_zero))

    pub books-then :
        books_in c.size (set c.standings j finished) (λ _. booked')
        ≡ record {
          standings = set (books c).standings j finished;
          booked = each (λ k. (of (dispatched_from c j).share k).booked);
        }
    books-then =
        ap₂ (λ (s : List ℕ) (b : Each (List ℕ)). record { standings = s; booked = b }) rows_then
        (ap (λ (s : Each Share). each (λ k. (of s k).booked)) climbed.share
        ∙ ap (λ (goal : Climbed). each (λ k. (of goal.share k).booked)) same-goal)

    pub offers-then : offers ≡ length (dispatched_from c j).offered
    offers-then = climbed.offered ∙ ap (λ (k : Climbed). length k.offered) same-goal

    pub good-then :
        DayInvariant c.size (at c.parents) (terms_in c) (activation_of c)
        (books_in c.size (set c.standings j finished) (λ _. booked'))
    good-then =
        record {
          small = day.small;
          bounded = day.bounded;
          valid = day.valid;
          parents = day.parents;
          roomy = day.roomy;
          good =
              subst (λ (b : Books). Good n par rank (terms_in c) b) (sym books-then)
              (sharing-good n par rank tree (terms_in c) day.roomy (books c) day.good j may.task runs-there may.higher);
        }
