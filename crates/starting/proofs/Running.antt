-- A ready task runs: what is kept of the day is kept.
use mathlib.Core.Path.{◌≡◌, refl, sym, ap, subst, fun_ext, ◌∙◌}
use mathlib.Core.Bool.{Bool, true, false, ◌&&◌}
use mathlib.Core.Logic.{⊎_elim}
use mathlib.Core.List.{List, [], ◌∷◌}
use Prim.Native.Nat.{ℕ, suc, ◌+◌, ◌*◌, ◌^◌, ◌≤◌, ◌<◌}
use native.Mathlib.Omega.{arith}
use lib.Dec.{eqb}
use lib.ListN.{length, set, length-set}
use borrow.Author.Tests.{eqb-true, eq-eqb, ne_eqb}
use Rattle.books.specs.Kind.{Kind, of, each}
use Rattle.numbers.specs.Sums.{Task}
use Rattle.numbers.specs.Lists.{at}
use Rattle.numbers.specs.Limits.{max_tasks}
use Rattle.tree.specs.Need.{need}
use Rattle.books.specs.Standing.{waiting, activated, running, finished, count}
use Rattle.books.specs.Booking.{Terms, booked_in, ready, fed, start}
use Rattle.books.specs.Invariant.{Balanced, Good}
use Rattle.tree.specs.Tree.{rank_in}
use Rattle.books.proofs.EachStore.{of-each}
use Rattle.numbers.proofs.Sums.{count-le}
use Rattle.numbers.proofs.Counts.{count-cong}
use Rattle.books.proofs.Shape.{Moved}
use Rattle.tree.proofs.Ranks.{tree_of}
use Rattle.books.proofs.Entries.{at_other, moved-by-set}
use Rattle.books.proofs.Starts.{Startable, fed-children, ready-parts, start-count, start-good, start-kind}
use Rattle.books.proofs.Usage.{in-process-within}
use Rattle.words.specs.Layout.{row, rows, words, standing, chilled}
use Rattle.words.specs.Contents.{StoreContents, Contents, contents, with_cell, store_with_cell, with_head, store_with_head, with_ready}
use Rattle.words.specs.Marks.{Marks, changed, Changed}
use Rattle.words.proofs.Contents.{contents-cell, contents-head}
use Rattle.ready.proofs.Marks.{marks-kept}
use Rattle.store.specs.Rows.{rows_of, books, terms_in, activation_of, execution_of}
use Rattle.store.specs.Cached.{is_ready_at, in_process_by, StoreCached}
use Rattle.store.specs.Kept.{DayInvariant, Kept, SamePlan}
use Rattle.store.specs.Store.{AtTask, with_store, with_holdings, loaded}
use Rattle.store.proofs.Rows.{rows-set, zero-set}
use Rattle.store.proofs.Same.{terms-same}
use Rattle.store.proofs.Ready.{placed-task, ready-changed}
use Rattle.store.proofs.Unended.{unended-same, ready-same}
use Rattle.store.proofs.Figures.{partial-same}
use Rattle.store.proofs.Using.{used-started}
use Rattle.starting.specs.Started.{MayRun, OneStarted}
use Rattle.starting.proofs.Choosing.{ready-in}

-- task x runs, and the ready set is another
unfoldable pub with_running : ℕ → List ℕ → ℕ → Contents → Contents
with_running x ready filled c =
    record {
      extent = c.extent;
      phase = c.phase;
      size = c.size;
      processors = c.processors;
      given = c.given;
      ranked = c.ranked;
      placed = c.placed;
      next = c.next;
      active = c.active + 1;
      ended = c.ended;
      parents = c.parents;
      ranks = c.ranks;
      places = c.places;
      unended = c.unended;
      standings = set c.standings x running;
      stores = each (λ k. loaded x (of c.stores k));
      activation = c.activation;
      execution = c.execution;
      ready = ready;
      filled = filled;
    }

module _ {place : ℕ} {c : Contents} (may : MayRun place c) where
  -- the standings and the task
  abbrev st : List ℕ
  st = (books c).standings

  abbrev x : ℕ
  x = at (execution_of c) place

  is-ready : (place < c.size) × (ready c.size (at c.parents) st x ≡ true)
  is-ready = ready-in c.size (at c.parents) (execution_of c) st place may.ready

  pub place_in : place < c.size
  place_in = is-ready.0

  pub task : Task c.size x
  task = placed-task may.kept.cached.placed place place_in

  is-booked : at st x ≡ activated
  is-booked = (ready-parts c.size (at c.parents) st x is-ready.1).0

  is-fed : (i : ℕ) → Task c.size i → at c.parents i ≡ x → at st i ≡ finished
  is-fed =
      fed-children c.size (at c.parents) (at st) x (ready-parts c.size (at c.parents) st x is-ready.1).1

  startable : Startable c.size (at c.parents) st (x ∷ [])
  unfolding Startable
  startable = (task, is-booked, is-fed, tt)

  -- the standings then
  abbrev after : List ℕ
  after = set st x running

  sized : length st ≡ suc c.size
  sized = may.kept.invariant.good.sized

  moved : Moved c.size (at st) (at after) x running
  moved = moved-by-set c.size st x running sized task

  -- a standing that nobody leaves and nobody takes
  same-others :
      (which : ℕ)
      → (activated ≡ which → ⊥)
      → (running ≡ which → ⊥)
      → (i : ℕ)
      → eqb (at after i) which ≡ eqb (at st i) which
  unfolding start
  same-others which old new i =
      ⊎_elim (λ e. ap (λ (v : ℕ). eqb v which) e)
      (λ k.
      ne_eqb (at after i) which (λ e. new (sym k.1 ∙ e)) ∙ sym (ne_eqb (at st i) which (λ e. old (sym k.0 ∙ e))))
      (start-kind c.size (at c.parents) (x ∷ []) st sized startable i)

  was-waiting : (i : ℕ) → at after i ≡ waiting → at st i ≡ waiting
  was-waiting i w =
      eqb-true (at st i) waiting
      (sym (same-others waiting (λ e. omega arith) (λ e. omega arith) i) ∙ eq-eqb (at after i) waiting w)

  still-waiting : (i : ℕ) → at st i ≡ waiting → at after i ≡ waiting
  still-waiting i w =
      eqb-true (at after i) waiting (same-others waiting (λ e. omega arith) (λ e. omega arith) i ∙ eq-eqb (at st i) waiting w)

  same_ended : (i : ℕ) → eqb (at after i) finished ≡ eqb (at st i) finished
  same_ended = same-others finished (λ e. omega arith) (λ e. omega arith)

  -- the invariant of the day
  good-after :
      Good c.size (at c.parents) (rank_in (activation_of c)) (terms_in c) (record { standings = after; booked = (books c).booked })
  unfolding start
  good-after =
      start-good c.size (at c.parents) (rank_in (activation_of c)) (terms_in c) (x ∷ []) st (books c).booked startable
      may.kept.invariant.good

  module _ (k : Kind) where
    -- what is in use of a store
    used-after :
        in_process_by c.size (at c.parents) (at (of c.stores k).works) (at (of c.stores k).outs) (at after)
        ≡ (of c.stores k).used + (at (of c.stores k).works x + at (of c.stores k).outs x)
    used-after =
        used-started c.size (at c.parents) (at (of c.stores k).works) (at (of c.stores k).outs)
        (λ i _. may.kept.invariant.parents i) (at st) (at after) x task is-booked is-fed moved
        ∙ ap (λ (v : ℕ). v + (at (of c.stores k).works x + at (of c.stores k).outs x)) (sym (may.kept.cached.stores k).uses)

    pub used_fits : (of c.stores k).used + (at (of c.stores k).works x + at (of c.stores k).outs x) < 2 ^ 32
    used_fits =
        let inv = may.kept.invariant in
        let same-need :
        at (of c.stores k).needs ≡ need c.size (at c.parents) (at (of c.stores k).works) (at (of c.stores k).outs) =
        fun_ext (may.kept.cached.stores k).needed
        in
        let used =
        in-process-within c.size (at c.parents) (rank_in (activation_of c))
        (tree_of c.size (at c.parents) (activation_of c) inv.valid (λ i _. inv.parents i)) (at (of c.stores k).works)
        (at (of c.stores k).outs) (at after) (at (booked_in (books c) k)) good-after.shape
        (subst
        (λ (f : ℕ → ℕ).
        Balanced c.size (at c.parents) f (at (of c.stores k).outs) (at after) (at (booked_in (books c) k)))
        same-need (good-after.stock k).books)
        in
        let e = used-after in
        let w = (good-after.stock k).within in
        let b = inv.bounded k in
        omega arith

  -- the ready set: the task itself is no longer ready, and all others are ready as they were
  ready-after :
      changed (is_ready_at c.size (at c.parents) (execution_of c) st) place false
      ≡ is_ready_at c.size (at c.parents) (execution_of c) after
  unfolding ready
  ready-after =
      let p = may.kept.cached.placed in
      let not_ready : ready c.size (at c.parents) after x ≡ false =
      ap (λ (b : Bool). b && fed c.size (at c.parents) (at after) x)
      (ne_eqb (at after x) activated (λ q. let r = moved.there in omega arith))
      in
      sym
      (λ z.
      changed (is_ready_at c.size (at c.parents) (execution_of c) st) (p.placed place place_in z) (not_ready z))
      ∙ ready-changed p (at c.parents) st after x task
      (λ i _ d. ready-same c.size (at c.parents) st after i (λ k _. same_ended k) (at_other st x running i d))

  -- the whole of it, once the place is taken from the ready set
  module _ {d : Contents} (taken : Changed place false c d) where
    abbrev then : Contents
    then = with_running x d.ready d.filled c

    rows-after : rows_of c.size (set c.standings x running) ≡ after
    rows-after = rows-set c.size c.standings x running task.high

    marks-after : Marks (is_ready_at c.size (at c.parents) (execution_of c) after) then
    unfolding with_running
    marks-after =
        rw ready-after at
        (marks-kept {c' = then} refl refl
        (taken.marks (is_ready_at c.size (at c.parents) (execution_of c) st) may.kept.cached.marks may.ready))

    store_is : (k : Kind) → of then.stores k ≡ loaded x (of c.stores k)
    unfolding with_running
    store_is k = of-each (λ d. loaded x (of c.stores d)) k

    same_after : SamePlan c then
    unfolding with_running loaded with_holdings
    same_after =
        record {
          phase = refl;
          size = refl;
          processors = refl;
          given = refl;
          ranked = refl;
          placed = refl;
          parents = refl;
          ranks = refl;
          places = refl;
          activation = refl;
          execution = refl;
          bound = λ k. ap (λ (s : StoreContents). s.bound) (store_is k);
          works = λ k. ap (λ (s : StoreContents). s.works) (store_is k);
          outs = λ k. ap (λ (s : StoreContents). s.outs) (store_is k);
          needs = λ k. ap (λ (s : StoreContents). s.needs) (store_is k);
        }

    store-after :
        (k : Kind)
        → StoreCached then.size (at then.parents) (at (books then).standings) (booked_in (books then) k) (of then.stores k)
    unfolding with_running loaded with_holdings
    store-after k =
        let old = may.kept.cached.stores k in
        rw (rows-after, store_is k)
        (record {
          needed = old.needed;
          figured =
              λ i t.
              old.figured i t
              ∙ sym
              (partial-same c.size (at c.parents) (at st) (at after) (at (booked_in (books c) k)) i
              (λ j _. same-others waiting (λ e. omega arith) (λ e. omega arith) j));
          totals = old.totals;
          uses = sym (used-after k);
          booked_zero = old.booked_zero;
          figures_zero = old.figures_zero;
        })

    kept-after : Kept then
    unfolding with_running loaded with_holdings count start
    kept-after =
        let inv = may.kept.invariant in
        let old = may.kept.cached in
        record {
          invariant =
              subst (λ (e : Kind → Terms). DayInvariant c.size (at c.parents) e (activation_of c) (books then))
              (sym (terms-same same_after))
              (record {
                small = inv.small;
                bounded = inv.bounded;
                valid = inv.valid;
                parents = inv.parents;
                roomy = inv.roomy;
                good = rw rows-after good-after;
              });
          cached =
              record {
                long = old.long;
                counted =
                    rw rows-after
                    (λ i t.
                    old.counted i t
                    ∙ sym (unended-same c.size (at c.parents) (at st) (at after) i (λ k _. same_ended k)));
                marks = rw rows-after marks-after;
                reached =
                    rw rows-after
                    (record {
                      within = old.reached.within;
                      before_next = λ e h w. old.reached.before_next e h (was-waiting (at (activation_of c) e) w);
                      from_next = λ e h l. still-waiting (at (activation_of c) e) (old.reached.from_next e h l);
                    });
                runs =
                    rw rows-after
                    (ap (λ (v : ℕ). v + 1) old.runs
                    ∙ sym (start-count c.size (at c.parents) (x ∷ []) st sized startable));
                ends =
                    rw rows-after
                    (old.ends
                    ∙ count-cong (λ i. eqb (at st i) finished) (λ i. eqb (at after i) finished) c.size (λ i _. sym (same_ended i)));
                placed = old.placed;
                standings_zero = zero-set c.size c.standings x running task.high old.standings_zero;
                unended_zero = old.unended_zero;
                stores = store-after;
              };
        }

    pub ran : {t : ℕ} {c' : Contents} → t ≡ x → c' ≡ with_running t d.ready d.filled c → OneStarted place c c' t
    unfolding with_running loaded with_holdings
    ran {t} e same =
        rw (same, e)
        (record {
          kept = kept-after;
          same = same_after;
          chosen = refl;
          active = refl;
          books = ap (λ (l : List ℕ). record { standings = l; booked = (books c).booked }) rows-after;
        })

  -- as many run as there are tasks, at most
  pub active-small : c.active ≤ max_tasks
  unfolding count
  active-small =
      let e = may.kept.cached.runs in
      let l = count-le (λ i. eqb (at st i) running) c.size in
      let s = may.kept.invariant.small in
      omega arith

-- the word of the head that says how many run
abbrev active_word : ℕ
active_word = 13

-- the writes: the standing of task t, the number of those that run, and what is in use
module _ (w₁ : List ℕ) {place t a : ℕ} {c : Contents} {w₂ w₃ : List ℕ} (long : c.extent ≡ words) (in_rows : t < rows)
    (runs : a ≡ c.active) (taken : Changed place false c (contents w₁)) (first : w₂ ≡ set w₁ (row * t + standing) running)
    (second : w₃ ≡ set w₂ (row * rows + active_word) (a + 1)) where
  before-load :
      contents w₃
      ≡ with_head active_word (c.active + 1) (with_cell standing t running (with_ready (contents w₁).ready (contents w₁).filled c))
  unfolding contents with_ready
  before-load =
      let long₁ : length w₁ ≡ words = ap (λ (k : Contents). k.extent) taken.same ∙ long in
      let long₂ : length w₂ ≡ words = ap length first ∙ length-set w₁ (row * t + standing) running ∙ long₁ in
      ap contents second
      ∙ contents-head w₂ long₂ active_word (a + 1) (omega arith)
      ∙ ap (λ (v : ℕ). with_head active_word (v + 1) (contents w₂)) runs
      ∙ ap (with_head active_word (c.active + 1))
      (ap contents first
      ∙ contents-cell w₁ long₁ standing t running (omega arith) in_rows
      ∙ ap (with_cell standing t running) taken.same)

  pub may_load :
      c.stores.chilled.used + (at c.stores.chilled.works t + at c.stores.chilled.outs t) < 2 ^ 32
      → AtTask chilled t (contents w₃)
      × ((contents w₃).stores.chilled.used + (at (contents w₃).stores.chilled.works t + at (contents w₃).stores.chilled.outs t) < 2 ^ 32)
  unfolding with_head store_with_head with_cell store_with_cell with_ready
  may_load fits = rw before-load (record { long = long; offset = refl; inside = omega arith; task_in = in_rows }, fits)

  pub after-load :
      {c' : Contents}
      → c' ≡ with_store Kind.chilled (loaded t (contents w₃).stores.chilled) (contents w₃)
      → c' ≡ with_running t (contents w₁).ready (contents w₁).filled c
  unfolding with_running with_store loaded with_holdings with_head store_with_head with_cell store_with_cell with_ready
  after-load third = third ∙ ap (λ (k : Contents). with_store Kind.chilled (loaded t k.stores.chilled) k) before-load
