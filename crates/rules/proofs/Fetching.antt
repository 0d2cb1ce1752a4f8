-- An accepted FETCH leads to over: the trolley is gone, and nothing is booked.
use mathlib.Core.Path.{◌≡◌, refl, ap, ◌∙◌}
use mathlib.Core.Bool.{Bool, true, false}
use mathlib.Core.Logic.{⊎_elim}
use mathlib.Core.List.{List, [], ◌∷◌, ◌++◌}
use Prim.Native.Nat.{ℕ, zero, suc, ◌-◌, ◌<◌}
use native.Mathlib.Omega.{arith}
use lib.Dec.{eqb}
use lib.ListN.{length, set}
use borrow.Author.Tests.{eqb-true, eq-eqb, ne_eqb}
use Rattle.books.specs.Kind.{Kind, of, each}
use Rattle.numbers.specs.Lists.{at, first}
use Rattle.rules.specs.Phase
use Rattle.rules.specs.State.{State, root_of, store_of}
use Rattle.format.specs.Command.{fetch}
use Rattle.numbers.specs.Sums.{within}
use Rattle.rules.specs.Grounds.{in_turn}
use Rattle.books.specs.Booking.{total}
use Rattle.rules.specs.Obey.{with_booked, with_books, obey}
use Rattle.rules.specs.Obey
use Rattle.rules.specs.Day.{Event, fetched, is_fetched}
use Rattle.tree.specs.Tree.{rank_in}
use Rattle.books.proofs.EachStore.{of-each}
use Rattle.numbers.proofs.Tests.{clash, same_or_not, or_right}
use Rattle.numbers.proofs.Sums.{Task, sum-zero, only-false}
use Rattle.tree.proofs.Roots.{root-task, root-parent, one-root}
use Rattle.tree.proofs.Orders.{within-task, mem-at, every-mem, place_of}
use Rattle.tree.proofs.Ranks.{stands}
use Rattle.tree.proofs.Tree.{parent-task}
use Rattle.books.proofs.Starts.{first_passes, first-none}
use Rattle.books.proofs.Entries.{at_other}
use Rattle.rules.proofs.Log.{fetched-append, fetched-in-order, fetched-logged, all-reported}
use Rattle.rules.proofs.Formed.{Accepted}
use Rattle.rules.proofs.InDay.{Planned, InDay, Closed, Course, goes, closed, tree, books-planned}

-- the root of a plan is a task without a parent
pub root-found : (s : State) → Planned s → Task s.size (root_of s) × (at s.parents (root_of s) ≡ 0)
root-found s p = (root-task s.size (at s.parents) p.rooted, root-parent s.size (at s.parents) p.rooted)

-- the first in the activation order without a parent is that task: there is no other
pub root-first : (s : State) → Planned s → first (λ i. eqb (at s.parents i) 0) s.activation ≡ root_of s
root-first s p = go (first is_root s.activation) refl
  where
    is_root : ℕ → Bool
    is_root i = eqb (at s.parents i) 0

    go : (r : ℕ) → first is_root s.activation ≡ r → first is_root s.activation ≡ root_of s
    go zero e =
        let r = root-found s p in
        absurd
        (clash (eq-eqb (at s.parents (root_of s)) 0 r.1)
        (first-none is_root s.size s.activation p.valid.inside e (root_of s)
        (stands s.size (at s.parents) s.activation p.valid (root_of s) r.0)))
    go (suc i) e =
        let h = first_passes is_root s.activation i e in
        let r = root-found s p in
        e
        ∙ one-root s.size (at s.parents) p.rooted (suc i) (root_of s)
        (within-task s.size (suc i) (every-mem (λ k. within k s.size) s.activation (suc i) p.valid.inside h.0))
        r.0 (eqb-true (at s.parents (suc i)) 0 h.1) r.1

-- it stands last in the activation order: its parent would stand behind it
pub last-is-root : (s : State) → Planned s → at s.activation (s.size - 1) ≡ root_of s
last-is-root s p =
    let root = root-found s p in
    let some = root.0.low in
    let high = root.0.high in
    let whole = p.valid.whole in
    let last = s.size - 1 in
    let x = at s.activation last in
    let here : last < length s.activation = omega arith in
    let task =
    within-task s.size x
    (every-mem (λ k. within k s.size) s.activation x p.valid.inside (mem-at s.activation last here))
    in
    let rank = place_of s.activation last p.valid.once here in
    let top : at s.parents x ≡ 0 =
    ⊎_elim (λ z. z)
    (λ d.
    let t = tree s p in
    let up = t.rises x task d in
    let below =
    t.below (at s.parents x) (parent-task s.size (at s.parents) (rank_in s.activation) t x task d)
    in
    absurd (omega arith))
    (same_or_not (at s.parents x) 0)
    in
    one-root s.size (at s.parents) p.rooted x (root_of s) task root.0 top root.1

-- what is set to nothing is nothing, also past the end
freed-there : (i : ℕ) (l : List ℕ) → at (set l i 0) i ≡ 0
freed-there i [] = refl
freed-there zero (x ∷ l) = refl
freed-there (suc i) (x ∷ l) = freed-there i l

module _ (s : State) (happened : List Event) (day : InDay s happened) (a : Accepted s fetch) where
  in-ready : s.phase ≡ Phase.ready
  unfolding in_turn
  in-ready = eqb-true s.phase Phase.ready a.turn

  -- all have ended
  loaded : Closed s false
  loaded = by-course day.course
    where
      by-fetch : (gone : Bool) → Closed s gone → Closed s false
      by-fetch true c = let p = c.phased in let r = in-ready in absurd (omega arith)
      by-fetch false c = c

      by-course : Course s → Closed s false
      by-course (goes g) = let p = g.phased in let r = in-ready in absurd (omega arith)
      by-course (closed gone c) = by-fetch gone c

  not_yet : is_fetched happened ≡ false
  not_yet = day.fetch ∙ ne_eqb s.phase Phase.over (λ q. let r = in-ready in omega arith)

  abbrev freed : Kind → List ℕ
  freed k = set (store_of s k).booked (root_of s) 0

  -- what remained was the root's
  pub nothing : (k : Kind) (i : ℕ) → Task s.size i → at (set (store_of s k).booked (root_of s) 0) i ≡ 0
  nothing k i t =
      let r = root-found s day.planned in
      let remained = (loaded.stock k).booked in
      ⊎_elim
      (λ (q : i ≡ root_of s).
      ap (at (freed k)) q
      ∙ freed-there (root_of s) (store_of s k).booked)
      (λ d.
      at_other (store_of s k).booked (root_of s) 0 i d
      ∙ remained i t
      ∙ only-false (eqb (at s.parents i) 0) _
      (ne_eqb (at s.parents i) 0
      (λ z. d (one-root s.size (at s.parents) day.planned.rooted i (root_of s) t r.0 z r.1))))
      (same_or_not i (root_of s))

  pub fetch-in-day : InDay (obey s fetch).state (happened ++ (fetched ∷ []))
  unfolding obey Obey.unloaded with_books total is_fetched
  fetch-in-day =
      record {
        planned = books-planned s Phase.over _ _ (omega arith) day.planned;
        course =
            closed true
            (record {
              phased = refl;
              all = loaded.all;
              stock =
                  λ k.
                  rw (of-each (λ d. with_booked (store_of s d) (of (each freed) d)) k, of-each freed k)
                  (record {
                    booked = nothing k;
                    within = (let z = sum-zero (at (freed k)) s.size (nothing k) in omega arith);
                  });
            });
        logged = fetched-logged s.size (at s.standings) happened day.logged;
        order =
            fetched-in-order s.size (at s.parents) happened day.order not_yet
            (all-reported s.size (at s.standings) happened day.logged loaded.all);
        fetch = fetched-append happened (fetched ∷ []) ∙ or_right (is_fetched happened) true refl;
      }
