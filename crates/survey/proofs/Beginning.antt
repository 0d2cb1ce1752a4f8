-- What is kept of a day on which nothing has happened.
use mathlib.Core.Path.{◌≡◌, refl, sym, ap, ap₂, ◌∙◌}
use mathlib.Core.Bool.{Bool, not}
use mathlib.Core.List.{List}
use Prim.Native.Nat.{ℕ, suc, ◌+◌, ◌*◌, ◌≤◌, ◌<◌}
use native.Mathlib.Omega.{arith}
use lib.Dec.{eqb}
use lib.ListN.{length, replicate, length-replicate, get_or-replicate}
use lib.Seq.{ext_get_or}
use borrow.Author.Tests.{eq-eqb, ne_eqb}
use Rattle.books.specs.Kind.{Kind, chilled, Each, of}
use Rattle.numbers.specs.Lists.{at}
use Rattle.tree.specs.Need.{need}
use Rattle.books.specs.Standing.{running, finished}
use Rattle.books.specs.Booking.{booked_in}
use Rattle.rules.specs.Obey.{fresh}
use Rattle.tree.specs.Tree.{rank_in}
use Rattle.books.specs.Invariant.{Roomy}
use Rattle.books.proofs.EachStore.{each_same}
use Rattle.numbers.proofs.Sums.{count_none}
use Rattle.rules.proofs.InDay.{fresh-good}
use Rattle.words.specs.Layout.{rows, bits, blocks}
use Rattle.words.specs.Contents.{Contents}
use Rattle.store.specs.Rows.{rows_of, books, terms_in, activation_of, execution_of}
use Rattle.store.specs.Cached.{is_ready_at, StoreCached}
use Rattle.store.specs.Kept.{Kept}
use Rattle.store.proofs.Rows.{rows-length, rows_is}
use Rattle.store.proofs.InStore.{by_kind}
use Rattle.survey.specs.Prepare.{with_needs, with_figures, MayPrepare, Prepared}
use Rattle.survey.proofs.Weighing.{Partly, WeighedTo, counts-are, needs-are}
use Rattle.survey.proofs.Nothing.{digits-none, no-count, not_ready, all-unended, no-use, no-total, no-figure}

-- the rows of a column of zeros
rows-zero : (n : ℕ) (l : List ℕ) → ((a : ℕ) → at l a ≡ 0) → (a : ℕ) → at (rows_of n l) a ≡ 0
rows-zero n l none a = ap (λ (f : ℕ → ℕ). f a) (rows_is n l (λ b _. none b)) ∙ none a

rows-fresh : (n : ℕ) (l : List ℕ) → n < length l → ((a : ℕ) → at l a ≡ 0) → rows_of n l ≡ replicate (suc n) 0
rows-fresh n l long none =
    ext_get_or 0 (rows_of n l) (replicate (suc n) 0) (rows-length n l long ∙ sym (length-replicate {A = ℕ} (suc n) 0))
    (λ i h.
    let size = rows-length n l long in
    rows-zero n l none i ∙ sym (get_or-replicate (suc n) i 0 0 (omega arith)))

module _ (c : Contents) (may : MayPrepare c) (long-standings : length c.standings ≡ rows)
    (long-booked : (k : Kind) → length (of c.stores k).booked ≡ rows) where
  abbrev n : ℕ
  n = c.size

  fresh-is : books c ≡ fresh n
  unfolding fresh
  fresh-is =
      let small = may.small in
      ap₂ (λ (st : List ℕ) (b : Each (List ℕ)). record { standings = st; booked = b })
      (rows-fresh n c.standings (omega arith) may.rest.standings)
      (each_same (λ k. rows_of n (of c.stores k).booked) (λ _. replicate (suc n) 0)
      (λ k. let long = long-booked k in rows-fresh n (of c.stores k).booked (omega arith) (may.rest.booked k)))

  -- every task waits, and nothing is booked
  waits : (a : ℕ) → at (books c).standings a ≡ 0
  waits = rows-zero n c.standings may.rest.standings

  unbooked : (k : Kind) (a : ℕ) → at (rows_of n (of c.stores k).booked) a ≡ 0
  unbooked k = rows-zero n (of c.stores k).booked (may.rest.booked k)

  module _ (needs unended : List ℕ) (partly : Partly c n needs unended) where
    needed : (i : ℕ) → at needs i ≡ need n (at c.parents) (at c.stores.chilled.works) (at c.stores.chilled.outs) i
    needed = needs-are c may n needs unended partly (omega arith)

    roomy : Roomy n (at c.parents) (at needs) (at c.stores.chilled.outs)
    unfolding need
    roomy i t = let room = needed i in omega arith

    -- the cold room is the one that is weighed
    abbrev then : Contents
    then = with_figures needs unended c

    store : (k : Kind) → StoreCached n (at c.parents) (at (books c).standings) (booked_in (books then) k) (of then.stores k)
    unfolding with_figures with_needs
    store chilled =
        record {
          needed = needed;
          figured =
              λ i t.
              may.rest.figures chilled i
              ∙ sym (no-figure n (books c).standings waits (books c).booked.chilled (unbooked chilled) (at c.parents) i);
          totals = may.rest.total chilled ∙ sym (no-total n (books c).booked.chilled (unbooked chilled));
          uses =
              may.rest.used chilled
              ∙ sym
              (no-use n (books c).standings waits (at c.parents) (at c.stores.chilled.works) (at c.stores.chilled.outs));
          booked_zero = λ a _. may.rest.booked chilled a;
          figures_zero = λ a _. may.rest.figures chilled a;
        }

    kept : Kept (with_figures needs unended c)
    unfolding with_figures with_needs
    kept =
        record {
          invariant =
              record {
                small = may.small;
                bounded = by_kind _ may.bounded;
                valid = may.valid;
                parents = may.parents;
                roomy = by_kind _ roomy;
                good = rw fresh-is (fresh-good n (at c.parents) (rank_in (activation_of c)) (terms_in (with_figures needs unended c)));
              };
          cached =
              record {
                long = may.long;
                counted =
                    λ i t.
                    counts-are c may n needs unended partly (omega arith) i
                    ∙ all-unended n (books c).standings waits (at c.parents) i;
                marks =
                    record {
                      marked =
                          λ q _.
                          may.rest.ready q
                          ∙ sym
                          (digits-none (λ k. is_ready_at n (at c.parents) (execution_of c) (books c).standings (bits * q + k)) bits
                          (λ k. not_ready n (books c).standings waits (at c.parents) (execution_of c) (bits * q + k)));
                      filled =
                          may.rest.filled
                          ∙ sym
                          (digits-none (λ q. not (eqb (at c.ready q) 0)) blocks
                          (λ q. ap (λ (b : Bool). not b) (eq-eqb (at c.ready q) 0 (may.rest.ready q))));
                    };
                reached =
                    (let first = may.rest.next in
                    record {
                      within = omega arith;
                      before_next = λ e h. absurd (omega arith);
                      from_next = λ e _ _. waits (at (activation_of c) e);
                    });
                runs = may.rest.active ∙ sym (no-count n (books c).standings waits running (λ q. omega arith));
                ends = may.rest.ended ∙ sym (no-count n (books c).standings waits finished (λ q. omega arith));
                placed = may.placed;
                standings_zero = λ a _. may.rest.standings a;
                unended_zero =
                    λ a past.
                    counts-are c may n needs unended partly (omega arith) a
                    ∙ count_none (λ k. eqb (at c.parents k) a) n
                    (λ k _. let p = may.parents k in ne_eqb (at c.parents k) a (λ e. omega arith));
                stores = store;
              };
        }

  -- all tasks are weighed
  pub prepared : (k : ℕ) (c' : Contents) → WeighedTo c k c' → n ≤ k → Prepared c c'
  unfolding with_figures with_needs
  prepared k c' to end =
      let partly : Partly c n to.needs to.unended
      = let last : k ≡ n = omega (arith, to.partly.within) in rw last at to.partly in
      rw to.same
      (record {
        kept = kept to.needs to.unended partly;
        books = fresh-is;
        idle = may.rest.active;
        children = counts-are c may n to.needs to.unended partly (omega arith);
        same = refl;
      })
