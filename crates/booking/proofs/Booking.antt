-- What is kept of a day once the next task is booked.
use mathlib.Core.Path.{◌≡◌, refl, sym, ap, subst, ◌∙◌}
use mathlib.Core.Bool.{Bool, true, false}
use mathlib.Core.List.{List}
use Prim.Native.Nat.{ℕ, ◌+◌, ◌-◌, ◌<◌}
use native.Mathlib.Omega.{arith}
use lib.ListN.{set}
use lib.Dec.{eqb, leb}
use lib.Seq.{get_or-take}
use Rattle.books.specs.Kind.{Kind, of, all}
use Rattle.numbers.specs.Lists.{at}
use Rattle.books.specs.Standing.{activated, running, finished, count}
use Rattle.words.specs.Layout.{words, chilled, offset, standing, next, activation_base, entries}
use Rattle.words.specs.Contents.{StoreContents, Contents, contents, with_cell, store_with_cell, with_head, store_with_head, with_ready}
use Rattle.words.specs.Marks.{Marks, changed}
use Rattle.words.proofs.Views.{part_at}
use Rattle.words.proofs.Contents.{Lengths}
use Rattle.store.specs.Rows.{rows_of, books, terms_in, activation_of, execution_of}
use Rattle.store.specs.Cached.{is_ready_at, StoreCached}
use Rattle.store.specs.Store.{with_store, with_holdings, granted, AtTask, MayGrant}
use Rattle.store.specs.Kept.{DayInvariant, Kept, SamePlan}
use Rattle.books.specs.Booking.{Terms, booked_in}
use Rattle.store.proofs.Rows.{zero-set}
use Rattle.store.proofs.Same.{terms-same}
use Rattle.store.proofs.InStore.{by_kind, cached-in}
use Rattle.store.proofs.Entries.{grown-zero}
use Rattle.store.proofs.Ready.{place_in, ready_at, ready-changed}
use Rattle.store.proofs.Idle.{count_same, used-same}
use Rattle.booking.specs.Booked.{MayActivate, DidActivate, SomeWait, allows_next, NextBooked}
use Rattle.booking.proofs.Turn.{Turn, task, task_in, parent_in, allowed-is, books-are, invariant-then, idle, counted-then, not_ready, ready-then, ready-others, totals-then, figured-then, reached_then, total_fits, booked_fits, figure_fits, parent_fits}

-- the next task, what it misses, and the plan once it got that
abbrev pub next_task : Contents → ℕ
next_task c = at (activation_of c) c.next

abbrev pub lacking : Contents → Kind → ℕ
lacking c k = at (of c.stores k).needs (next_task c) - at (of c.stores k).figures (next_task c)

-- a store that gives it what it misses there, and the plan once it has
abbrev pub granted_in : Contents → Kind → StoreContents
granted_in c k = granted (at c.parents (next_task c)) (next_task c) (lacking c k) (of c.stores k)

abbrev pub granted_next : Contents → Contents
granted_next c = with_store Kind.chilled (granted_in c Kind.chilled) c

-- there is room in a store
abbrev pub room_in : Contents → Kind → Bool
room_in c k = leb ((of c.stores k).total + lacking c k) (of c.stores k).bound

-- with the ready set and the word that says which of its words are not 0, the plan once the next task is booked
unfoldable pub booked_next : List ℕ → ℕ → Contents → Contents
booked_next set filled c =
    with_head next (c.next + 1) (with_ready set filled (with_cell standing (next_task c) activated (granted_next c)))

module _ {c : Contents} (kept : Kept c) (sizes : Lengths c) (more : c.next < c.size) where
  pub turn :
      Turn c.size (at c.parents) (terms_in c) (activation_of c) c.unended c.standings (λ k. (of c.stores k).booked)
      (λ k. (of c.stores k).figures) c.next (λ k. (of c.stores k).total)
  turn =
      record {
        invariant = kept.invariant;
        figured = λ k. (cached-in kept k).figured;
        counted = kept.cached.counted;
        reached = kept.cached.reached;
        totals = λ k. (cached-in kept k).totals;
        standings-long = sizes.standings;
        booked-long = sizes.booked;
        figures-long = sizes.figures;
        more = more;
      }

  pub next-in : (k : Kind) → AtTask (offset k) (next_task c) c
  next-in Kind.chilled = record { long = kept.cached.long; offset = refl; inside = omega arith; task_in = task_in turn }

  pub tested : all (room_in c) ≡ allows_next c
  tested = allowed-is turn

  module _ (fits : all (room_in c) ≡ true) where
    pub may-grant : MayGrant chilled (next_task c) (lacking c Kind.chilled) c
    may-grant =
        record {
          at_task = next-in Kind.chilled;
          parent_in = parent_in turn;
          total_fits = total_fits turn fits Kind.chilled;
          booked_fits = booked_fits turn fits Kind.chilled;
          figure_fits = figure_fits turn fits Kind.chilled;
          parent_fits = parent_fits turn fits Kind.chilled;
        }

    -- the ready set has not the task, and is the one of the rules once it has it
    abbrev test : ℕ → Bool
    test = is_ready_at c.size (at c.parents) (execution_of c) (books c).standings

    absent : test (at c.places (next_task c)) ≡ false
    absent = ready_at kept.cached.placed (at c.parents) (books c).standings (next_task c) (task turn) ∙ not_ready turn fits

    marks-granted : Marks test (granted_next c)
    unfolding with_store
    marks-granted = record { marked = kept.cached.marks.marked; filled = kept.cached.marks.filled }

    pub may-activate : MayActivate (next_task c) (granted_next c)
    unfolding with_store
    may-activate =
        record {
          task_in = task_in turn;
          absent =
              record {
                long = kept.cached.long;
                inside =
                    (let p = place_in kept.cached.placed (next_task c) (task turn) in
                    let s = kept.invariant.small in
                    omega arith);
                test = test;
                marks = marks-granted;
                there = absent;
              };
        }

    module _ {d : Contents} (did : DidActivate (next_task c) (granted_next c) d) where
      abbrev then : Contents
      then = booked_next d.ready d.filled c

      marks_then :
          Marks (is_ready_at then.size (at then.parents) (execution_of then) (books then).standings) then
      unfolding booked_next with_head store_with_head with_ready with_cell store_with_cell with_store with_holdings granted
      marks_then =
          let x = next_task c in
          let new :
          changed test (at c.places x) (eqb (at c.unended x) 0)
          ≡ is_ready_at c.size (at c.parents) (execution_of c) (books then).standings =
          ap (changed test (at c.places x)) (sym (ready-then turn fits))
          ∙ ready-changed kept.cached.placed (at c.parents) (books c).standings (books then).standings x (task turn)
          (ready-others turn fits)
          in
          let m = did.marks test marks-granted absent in
          subst (λ (t : ℕ → Bool). Marks t then) new (record { marked = m.marked; filled = m.filled })

      -- nobody starts, and nobody ends
      count-then : (which : ℕ) → activated < which → count c.size (at (books then).standings) which ≡ count c.size (at (books c).standings) which
      unfolding booked_next with_head store_with_head with_ready with_cell store_with_cell with_store with_holdings granted
      count-then = count_same c.size (at (books c).standings) (at (books then).standings) (idle turn fits)

      -- what is kept of each store
      store_in :
          (k : Kind)
          → StoreCached c.size (at c.parents) (at (books then).standings)
          (rows_of c.size (set (of c.stores k).booked (next_task c) (at (of c.stores k).booked (next_task c) + lacking c k))) (granted_in c k)
      unfolding booked_next with_head store_with_head with_ready with_cell store_with_cell with_store with_holdings granted
      store_in k =
          let s = kept.cached.stores k in
          let x = next_task c in
          record {
            needed = s.needed;
            figured = figured-then turn fits k;
            totals = totals-then turn fits k;
            uses =
                s.uses
                ∙ sym
                (used-same c.size (at (books c).standings) (at (books then).standings) (idle turn fits) (at c.parents)
                (at (of c.stores k).works) (at (of c.stores k).outs) (λ i _. kept.invariant.parents i));
            booked_zero =
                zero-set c.size (of c.stores k).booked x (at (of c.stores k).booked x + lacking c k) (task turn).high
                s.booked_zero;
            figures_zero =
                grown-zero c.size (set (of c.stores k).figures x (at (of c.stores k).figures x + lacking c k)) (at c.parents x)
                (at (of c.stores k).figures x + lacking c k) (kept.invariant.parents x)
                (zero-set c.size (of c.stores k).figures x (at (of c.stores k).figures x + lacking c k) (task turn).high
                s.figures_zero);
          }

      store_then :
          (k : Kind)
          → StoreCached then.size (at then.parents) (at (books then).standings) (booked_in (books then) k) (of then.stores k)
      unfolding booked_next with_head store_with_head with_ready with_cell store_with_cell with_store with_holdings granted
      store_then Kind.chilled = store_in Kind.chilled

      same_then : SamePlan c then
      unfolding booked_next with_head store_with_head with_ready with_cell store_with_cell with_store with_holdings granted
      same_then =
          record {
            phase = refl;
            size = refl;
            processors = refl;
            given = refl;
            ranked = refl;
            placed = refl;
            parents = refl;
            ranks = refl;
            places = refl;
            activation = refl;
            execution = refl;
            bound = by_kind _ refl;
            works = by_kind _ refl;
            outs = by_kind _ refl;
            needs = by_kind _ refl;
          }

      -- the same books and terms
      invariant-now : DayInvariant then.size (at then.parents) (terms_in then) (activation_of then) (books then)
      unfolding booked_next with_head store_with_head with_ready with_cell store_with_cell with_store with_holdings granted
      invariant-now =
          subst (λ (e : Kind → Terms). DayInvariant c.size (at c.parents) e (activation_of c) (books then)) (sym (terms-same same_then))
          (invariant-then turn fits)

      kept_then : Kept then
      unfolding booked_next with_head store_with_head with_ready with_cell store_with_cell with_store with_holdings granted
      kept_then =
          let k = kept.cached in
          let x = next_task c in
          record {
            invariant = invariant-now;
            cached =
                record {
                  long = k.long;
                  counted = counted-then turn fits;
                  marks = marks_then;
                  reached = reached_then turn fits;
                  runs = k.runs ∙ sym (count-then running (omega arith));
                  ends = k.ends ∙ sym (count-then finished (omega arith));
                  placed = k.placed;
                  standings_zero = zero-set c.size c.standings x activated (task turn).high k.standings_zero;
                  unended_zero = k.unended_zero;
                  stores = store_then;
                };
          }

      booked-next : NextBooked c then
      unfolding booked_next with_head store_with_head with_ready with_cell store_with_cell with_store with_holdings granted
      booked-next =
          record {
            kept = kept_then;
            same = same_then;
            onward = refl;
            books = books-are turn fits;
          }

      pub long-still : d.extent ≡ words
      unfolding with_ready with_cell with_store
      long-still = ap (λ (e : Contents). e.extent) did.same ∙ kept.cached.long

      pub next-booked : (c' : Contents) → c' ≡ with_head next (c.next + 1) d → NextBooked c c'
      unfolding booked_next
      next-booked c' written =
          subst (NextBooked c) (sym (written ∙ ap (with_head next (c.next + 1)) did.same)) booked-next

-- the word that is looked at
pub next-read :
    (w : List ℕ) (k : ℕ) → SomeWait (contents w) k → at w (activation_base + k) ≡ next_task (contents w)
unfolding contents
next-read w k wait =
    let small = wait.kept.invariant.small in
    let more = wait.more in
    part_at activation_base entries w k (omega arith)
    ∙ sym (get_or-take (contents w).size (contents w).activation k 0 more)
    ∙ ap (at (activation_of (contents w))) wait.here
