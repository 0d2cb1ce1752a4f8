-- The first waiting task of an order, and that it fits where nobody runs and nobody can start.
use mathlib.Core.Path.{◌≡◌, refl, sym, ap, ◌∙◌}
use mathlib.Core.Bool.{Bool, true, false, ◌||◌}
use mathlib.Core.Logic.{◌⊎◌, inl, inr, ⊎_elim}
use mathlib.Core.List.{List, [], ◌∷◌, ◌++◌}
use Prim.Native.Nat.{ℕ, ◌+◌, ◌≤◌, ◌<◌}
use native.Mathlib.Omega.{arith}
use lib.Dec.{eqb}
use borrow.Author.Tests.{eq-eqb, ne_eqb}
use Rattle.numbers.specs.Lists.{mem}
use Rattle.tree.specs.Need.{need}
use Rattle.tree.specs.Peak.{peak}
use Rattle.books.specs.Standing.{waiting, finished}
use Rattle.books.specs.Booking.{total, missing}
use Rattle.tree.specs.Tree.{Valid, rank_in, Tree}
use Rattle.books.specs.Invariant.{Shape, FirstWaiting, Balanced, Roomy}
use Rattle.numbers.proofs.Tests.{decide, clash, same_or_not, le-or-lt}
use Rattle.numbers.proofs.Sums.{Task}
use Rattle.tree.proofs.Orders.{mem-rest, nobody}
use Rattle.tree.proofs.Peaks.{resident-cong, sum-le-peak}
use Rattle.tree.proofs.Ranks.{entry, in-front, same_rank}
use Rattle.tree.proofs.Tree.{parent-task}
use Rattle.books.proofs.Progress.{Stuck, ended, ended_or, waits-or-ended, fits}

-- where the first waiting task of a list stands
pub record Found (st : ℕ → ℕ) (l : List ℕ) : Type 0 where
  pub pre : List ℕ
  pub x : ℕ
  pub post : List ℕ
  pub whole : l ≡ pre ++ x ∷ post
  pub waits : st x ≡ waiting
  pub busy : (j : ℕ) → mem j pre ≡ true → st j ≡ waiting → ⊥

-- there is one, or nobody in the list waits
pub first-waiting : (st : ℕ → ℕ) (l : List ℕ) → Found st l ⊎ ((j : ℕ) → mem j l ≡ true → st j ≡ waiting → ⊥)
first-waiting st [] = inr (λ j m. absurd (nobody j m))
first-waiting st (y ∷ l) =
    ⊎_elim
    (λ w. inl (record { pre = []; x = y; post = l; whole = refl; waits = w; busy = λ j m. absurd (nobody j m) }))
    (λ d.
    ⊎_elim
    (λ f.
    inl
    (record {
      pre = y ∷ f.pre;
      x = f.x;
      post = f.post;
      whole = ap (λ (k : List ℕ). y ∷ k) f.whole;
      waits = f.waits;
      busy =
          λ j m.
          ⊎_elim (λ q w. d (ap st (sym q) ∙ w)) (λ v. f.busy j (mem-rest j y f.pre m v)) (same_or_not j y);
    }))
    (λ none.
    inr (λ j m. ⊎_elim (λ q w. d (ap st (sym q) ∙ w)) (λ v. none j (mem-rest j y l m v)) (same_or_not j y)))
    (first-waiting st l))
    (same_or_not (st y) waiting)

module _ (n : ℕ) (par : ℕ → ℕ) (order : List ℕ) (valid : Valid n par order) (tree : Tree n par (rank_in order))
    (st : ℕ → ℕ) (shape : Shape n par (rank_in order) st) (found : Found st order) where
  -- nobody of lower rank waits
  pub found_first : FirstWaiting n (rank_in order) st found.x
  found_first =
      record {
        task = entry n par order valid found.pre found.x found.post found.whole;
        waits = found.waits;
        first = λ j _ h. found.busy j (in-front n par order valid found.pre found.x found.post found.whole j h);
      }

  -- and whoever does not stand in front of it waits
  waits-behind : (i : ℕ) → Task n i → mem i found.pre ≡ false → st i ≡ waiting
  waits-behind i t m =
      let task = found_first.task in
      let not-before : rank_in order i < rank_in order found.x → ⊥ =
      λ h. clash (in-front n par order valid found.pre found.x found.post found.whole i h) m
      in
      ⊎_elim
      (λ (same : rank_in order i ≤ rank_in order found.x).
      ap st (same_rank n par order valid i found.x t task (omega arith)) ∙ found.waits)
      (λ (later : rank_in order found.x < rank_in order i). shape.behind found.x i task t later found.waits)
      (le-or-lt (rank_in order i) (rank_in order found.x))

  module _ (stuck : Stuck n par st) where
    -- where nobody runs and nobody can start, those that have ended are those in front
    ended-in-front : (i : ℕ) → Task n i → ended st i ≡ mem i found.pre
    ended-in-front i t =
        ⊎_elim
        (λ (m : mem i found.pre ≡ true).
        eq-eqb (st i) finished
        (waits-or-ended n par (rank_in order) tree st shape stuck i t (found.busy i m))
        ∙ sym m)
        (λ (m : mem i found.pre ≡ false).
        let w = waits-behind i t m in
        ne_eqb (st i) finished (λ q. omega arith) ∙ sym m)
        (decide (mem i found.pre))

    with-x : (i : ℕ) → Task n i → ended_or st found.x i ≡ mem i (found.x ∷ found.pre)
    unfolding mem
    with-x i t = ap (λ (b : Bool). eqb i found.x || b) (ended-in-front i t)

    -- so that what the first waiting task would make of the booked trays is a sum of the peak
    pub found-fits :
        (work out b : ℕ → ℕ)
        → Roomy n par (need n par work out) out
        → Balanced n par (need n par work out) out st b
        → total n b + missing n par (need n par work out) st b found.x ≤ peak n par work out order
    found-fits work out b roomy books =
        let room = fits n par (rank_in order) tree st shape stuck (need n par work out) out b roomy books found.x found_first.task found.waits in
        let same =
        resident-cong n par out (ended st) (λ i. mem i found.pre) (ended_or st found.x) (λ i. mem i (found.x ∷ found.pre))
        ended-in-front (λ i t d. with-x (par i) (parent-task n par (rank_in order) tree i t d))
        in
        let most = sum-le-peak n par work out order found.pre found.x found.post found.whole in
        omega arith
