-- A task ends, one part after the other: what each part asks, and what all of them leave.
use mathlib.Core.Path.{◌≡◌, refl, sym, ap, subst, fun_ext, ◌∙◌}
use Prim.Native.Nat.{ℕ, ◌+◌, ◌-◌, ◌≤◌}
use native.Mathlib.Omega.{arith}
use lib.ListN.{set}
use Rattle.books.specs.Kind.{Kind, of}
use Rattle.numbers.specs.Lists.{at}
use Rattle.books.specs.Standing.{finished}
use Rattle.books.specs.Booking.{Terms, booked_in, climb}
use Rattle.tree.specs.Tree.{chain}
use Rattle.words.specs.Layout.{words, chilled}
use Rattle.words.specs.Contents.{Contents, with_ready}
use Rattle.words.proofs.Contents.{Lengths}
use Rattle.store.specs.Rows.{books, terms_in, activation_of}
use Rattle.store.specs.Cached.{StoreCached}
use Rattle.store.specs.Kept.{DayInvariant, SamePlan}
use Rattle.store.specs.Store.{AtStore, with_store, with_holdings, released, MayRelease, freed}
use Rattle.store.proofs.Rows.{zero-set}
use Rattle.store.proofs.Same.{terms-same}
use Rattle.store.proofs.InStore.{by_kind}
use Rattle.dispatch.specs.Climb.{MayClimb, share_of, Carried, DidClimb}
use Rattle.dispatch.specs.Ended.{with_progress, ended, Fed}
use Rattle.dispatch.specs.Finished.{MayFinish, Finished}
use Rattle.dispatch.proofs.Feeding.{waits_for_fewer}
use Rattle.dispatch.proofs.Ending.{shared_with, rest_of, task_in, parent_in, out_held, parent_fits, used_has, used_fits, carrying, then-zero, counted-then, marks_then, used-then, runs_then, ends-then, reached_then, booked_zero, left-fits, totals-then, figured-then, books-then, offers-then, good-then}

module _ {c : Contents} {j : ℕ} (may : MayFinish c j) (long : Lengths c) {c₂ : Contents} (fed : Fed (at c.parents j) (ended j c) c₂) where
  -- j is an ended task, and its parent waits for one child fewer
  abbrev fed_plan : Contents
  fed_plan = with_ready c₂.ready c₂.filled (waits_for_fewer (at c.parents j) (ended j c))

  pub may-release : MayRelease chilled j c₂
  unfolding with_ready with_progress ended
  may-release =
      subst (MayRelease chilled j) (sym fed.same)
      (record {
        at_task = record { long = may.kept.cached.long; offset = refl; inside = omega arith; task_in = task_in may long };
        parent_in = parent_in may long;
        out_held = out_held may long;
        higher = may.higher;
        parent_fits = parent_fits may long;
        used_has = used_has may long;
        used_fits = used_fits may long;
      })

  -- its trays are taken
  module _ {c₃ : Contents} (releases : c₃ ≡ with_store Kind.chilled (released (at c₂.parents j) j c₂.stores.chilled) c₂) {units : ℕ}
      (takes : units ≡ at c₂.stores.chilled.booked j - at c₂.stores.chilled.outs j) where
    abbrev taken_plan : Contents
    taken_plan = with_store Kind.chilled (released (at c.parents j) j c.stores.chilled) fed_plan

    taken_is : c₃ ≡ taken_plan
    unfolding with_ready with_progress ended
    taken_is = releases ∙ ap (λ (d : Contents). with_store Kind.chilled (released (at d.parents j) j d.stores.chilled) d) fed.same

    units-are : units ≡ rest_of c.stores.chilled.booked j (at c.stores.chilled.outs j)
    unfolding with_ready with_progress ended
    units-are =
        takes
        ∙ ap (λ (d : Contents). at d.stores.chilled.booked j - at d.stores.chilled.outs j) fed.same

    pub may-climb : MayClimb chilled j units c₃
    unfolding with_ready with_progress ended with_store with_holdings released
    may-climb =
        subst (λ (v : ℕ). MayClimb chilled j v c₃) (sym units-are)
        (subst (MayClimb chilled j (rest_of c.stores.chilled.booked j (at c.stores.chilled.outs j))) (sym taken_is)
        (record { long = may.kept.cached.long; offset = refl; carrying = carrying may long }))

    -- they have gone up
    module _ {c₄ : Contents} {offers left : ℕ} (did : DidClimb j units c₃ c₄ offers left) where
      climbs :
          DidClimb j (rest_of c.stores.chilled.booked j (at c.stores.chilled.outs j)) taken_plan c₄ offers left
      climbs =
          subst (λ (v : ℕ). DidClimb j v taken_plan c₄ offers left) units-are
          (subst (λ (d : Contents). DidClimb j units d c₄ offers left) taken_is did)

      -- by what booking finds of the stores of c, which are the same
      terms-taken : terms_in taken_plan ≡ terms_in c
      unfolding with_ready with_progress ended with_store with_holdings released
      terms-taken = fun_ext (by_kind _ refl)

      went :
          Carried c.size (at c.parents) (at (set c.standings j finished))
          (climb c.size (at c.parents) (terms_in c) (at (set c.standings j finished))
          (chain c.size (at c.parents) (at c.parents j))
          (share_of c.size (rest_of c.stores.chilled.booked j (at c.stores.chilled.outs j))
          (shared_with c.stores.chilled.booked j (at c.parents j) (at c.stores.chilled.outs j))))
          (shared_with c.stores.chilled.booked j (at c.parents j) (at c.stores.chilled.outs j)) c₄.stores.chilled.booked
          c₄.stores.chilled.figures offers left
      unfolding with_ready with_progress ended with_store with_holdings released
      went =
          subst
          (λ (e : Kind → Terms).
          Carried c.size (at c.parents) (at (set c.standings j finished))
          (climb c.size (at c.parents) e (at (set c.standings j finished)) (chain c.size (at c.parents) (at c.parents j))
          (share_of c.size (rest_of c.stores.chilled.booked j (at c.stores.chilled.outs j))
          (shared_with c.stores.chilled.booked j (at c.parents j) (at c.stores.chilled.outs j))))
          (shared_with c.stores.chilled.booked j (at c.parents j) (at c.stores.chilled.outs j)) c₄.stores.chilled.booked
          c₄.stores.chilled.figures offers left)
          terms-taken climbs.carried

      pub may_free : AtStore chilled × (c₄.extent ≡ words) × (left ≤ c₄.stores.chilled.total)
      unfolding with_ready with_progress ended with_store with_holdings released
      may_free = (
        record { offset = refl; inside = omega arith },
        ap (λ (d : Contents). d.extent) climbs.same ∙ may.kept.cached.long,
        subst (λ (v : ℕ). left ≤ v) (sym (ap (λ (d : Contents). d.stores.chilled.total) climbs.same))
            (left-fits may long went),
      )

      -- and what is left is free
      module _ {c₅ : Contents} (frees : c₅ ≡ with_store Kind.chilled (freed left c₄.stores.chilled) c₄) where
        abbrev left_plan : Contents
        left_plan =
            with_store Kind.chilled
            (with_holdings (c.stores.chilled.total - left)
            (c.stores.chilled.used - at c.stores.chilled.needs j + at c.stores.chilled.outs j) c₄.stores.chilled.booked
            c₄.stores.chilled.figures c.stores.chilled)
            fed_plan

        left_is : c₅ ≡ left_plan
        unfolding with_ready with_progress ended with_store with_holdings released freed
        left_is = frees ∙ ap (λ (d : Contents). with_store Kind.chilled (freed left d.stores.chilled) d) climbs.same

        same_then : SamePlan c left_plan
        unfolding with_ready with_progress ended with_store with_holdings
        same_then =
            record {
              phase = refl;
              size = refl;
              processors = refl;
              given = refl;
              ranked = refl;
              placed = refl;
              parents = refl;
              ranks = refl;
              places = refl;
              activation = refl;
              execution = refl;
              bound = by_kind _ refl;
              works = by_kind _ refl;
              outs = by_kind _ refl;
              needs = by_kind _ refl;
            }

        store_then :
            (k : Kind)
            → StoreCached c.size (at c.parents) (at (books left_plan).standings) (booked_in (books left_plan) k) (of left_plan.stores k)
        unfolding with_ready with_progress ended with_store with_holdings released
        store_then Kind.chilled =
            record {
              needed = (may.kept.cached.stores Kind.chilled).needed;
              figured = figured-then may long went;
              totals = totals-then may long went;
              uses = used-then may long;
              booked_zero = booked_zero may long went;
              figures_zero =
                  λ a h.
                  climbs.past a h
                  ∙ zero-set c.size c.stores.chilled.figures j 0 may.task.high
                  (may.kept.cached.stores Kind.chilled).figures_zero a h;
            }

        pub finishes : Finished c j c₅ offers
        unfolding with_ready with_progress ended with_store with_holdings released freed
        finishes =
            let marks = marks_then may long fed in
            subst (λ (d : Contents). Finished c j d offers) (sym left_is)
            (record {
              kept =
                  record {
                    invariant =
                        subst (λ (e : Kind → Terms). DayInvariant c.size (at c.parents) e (activation_of c) (books left_plan))
                        (sym (terms-same same_then)) (good-then may long went);
                    cached =
                        record {
                          long = may.kept.cached.long;
                          counted = counted-then may long;
                          marks = record { marked = marks.marked; filled = marks.filled };
                          reached = reached_then may long c₄.stores.chilled.booked;
                          runs = runs_then may long;
                          ends = ends-then may long;
                          placed = may.kept.cached.placed;
                          standings_zero = then-zero may long;
                          unended_zero =
                              zero-set c.size c.unended (at c.parents j) (at c.unended (at c.parents j) - 1)
                              (may.kept.invariant.parents j) may.kept.cached.unended_zero;
                          stores = store_then;
                        };
                  };
              same = same_then;
              books = books-then may long went;
              offered = offers-then may long went;
            })
