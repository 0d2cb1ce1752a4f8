-- The checks of the desk in their order, and what a survey of the room's plan tells of the desk.
use mathlib.Core.Path.{◌≡◌, refl, sym, ap, ◌∙◌, subst}
use mathlib.Core.Bool.{true, false, cond, ◌&&◌, and-false}
use mathlib.Core.List.{List}
use Prim.Native.Nat.{ℕ, ◌+◌}
use native.Mathlib.Omega.{arith}
use lib.Dec.{eqb, leb}
use lib.ListN.{length, take, set}
use borrow.Author.Tests.{leb-true, eq-eqb, ne_eqb}
use Rattle.std.specs.Prelude.{Result, Ok, Err}
use Rattle.numbers.specs.Sums.{every_to, within}
use Rattle.numbers.specs.Lists.{at, every, distinct}
use Rattle.numbers.specs.Limits.{max_tasks}
use Rattle.tree.specs.Peak
use Rattle.tree.specs.Tasks.{Tasks}
use Rattle.peaks.specs.Desk.{DeskAnswer, desk_ground, desk_answer}
use Rattle.numbers.proofs.Sums.{every_one}
use Rattle.tree.proofs.Orders.{within-task}
use Rattle.words.specs.Layout.{words, head_base}
use Rattle.words.specs.Contents.{Contents, contents, with_head, store_with_head}
use Rattle.words.proofs.Contents.{wrote-head}
use Rattle.refusal.specs.declared.Refusal.{Refusal}
use Rattle.survey.specs.declared.level.Peaked.{Peaked}
use Rattle.refusal.specs.Number.{number_in}
use Rattle.survey.specs.Survey as survey
use Rattle.survey.specs.Survey.{RankedIn, order_ground, ground_of, peaked_of, peak_told}
use Rattle.desk.specs.Records as records
use Rattle.desk.specs.Records.{answer_of}
use Rattle.desk.specs.Room.{RowsWritten, MayWriteOrder, Ranked, OrderWritten}

-- n tasks with parents in their limits, and an order of n of them
pub record InLimits (n : ℕ) (par : ℕ → ℕ) (order : List ℕ) : Type 0 where
  pub whole : length order ≡ n
  pub sized : within n max_tasks ≡ true
  pub parents : every_to (λ i. leb (par i) n) n ≡ true
  pub inside : every (λ i. within i n) order ≡ true

pub in-limits :
    {n : ℕ} {par : ℕ → ℕ} {order : List ℕ}
    → length order ≡ n
    → true ≡ within n max_tasks
    → true ≡ every_to (λ i. leb (par i) n) n
    → true ≡ every (λ i. within i n) order
    → InLimits n par order
in-limits whole sized parents inside =
    record { whole = whole; sized = sym sized; parents = sym parents; inside = sym inside }

module _ (n : ℕ) (par work out : ℕ → ℕ) (order : List ℕ) where
  abbrev pub Answered : ℕ → Peak.Peaked → Type 0
  Answered number peak =
      desk_answer (record { size = n; parent = par; work = work; out = out }) order ≡ record { number = number; peak = peak }

  -- 4: each of the four tests that fails
  pub unequal : (length order ≡ n → ⊥) → Answered 4 Peak.no_peak
  unfolding desk_answer desk_ground
  unequal other = rw (ne_eqb (length order) n other)

  pub outside : within n max_tasks ≡ false → Answered 4 Peak.no_peak
  unfolding desk_answer desk_ground
  outside e = rw (e, and-false (eqb (length order) n))

  pub strayed : every_to (λ i. leb (par i) n) n ≡ false → Answered 4 Peak.no_peak
  unfolding desk_answer desk_ground
  strayed e = rw (e, and-false (eqb (length order) n && within n max_tasks))

  pub unlisted : every (λ i. within i n) order ≡ false → Answered 4 Peak.no_peak
  unfolding desk_answer desk_ground
  unlisted e =
      rw (e, and-false (eqb (length order) n && within n max_tasks && every_to (λ i. leb (par i) n) n))

  module _ (limits : InLimits n par order) where
    -- 5
    pub twice : distinct order ≡ false → Answered 5 Peak.no_peak
    unfolding desk_answer desk_ground
    twice e = rw (eq-eqb (length order) n limits.whole, limits.sized, limits.parents, limits.inside, e)

    -- 7, 8, or none: as at BEGIN
    surveyed :
        distinct order ≡ true
        → Answered (order_ground n par order)
        (cond (eqb (order_ground n par order) 0) (Peak.peaked n par work out order) Peak.no_peak)
    unfolding desk_answer desk_ground order_ground
    surveyed e =
        rw (
          eq-eqb (length order) n limits.whole,
          limits.sized,
          limits.parents,
          limits.inside,
          e,
        )

-- the plan in the room: n tasks and their order, in which none stands twice
pub record Filled (n : ℕ) (par work out : ℕ → ℕ) (order : List ℕ) (c : Contents) : Type 0 where
  pub limits : InLimits n par order
  pub once : distinct order ≡ true
  pub size : c.size ≡ n
  pub parents : at c.parents ≡ par
  pub works : at c.stores.chilled.works ≡ work
  pub outs : at c.stores.chilled.outs ≡ out
  pub first : take n c.activation ≡ order
  pub ranked : Ranked order c.ranks

module _ (n : ℕ) (par work out : ℕ → ℕ) (order : List ℕ) (c : Contents) (filled : Filled n par work out order c) where
  -- it may be surveyed
  pub may-survey : survey.Ordered c
  may-survey =
      subst (λ (m : ℕ). RankedIn m c) (sym filled.size)
      (record {
        parented =
            record {
              small = (within-task max_tasks n filled.limits.sized).high;
              inside =
                  λ i t.
                  let same : at c.parents i ≡ par i = λ z. filled.parents z i in
                  let low = leb-true (par i) n (every_one (λ j. leb (par j) n) n i filled.limits.parents t) in
                  omega arith;
            };
        ranked =
            rw filled.first
            (record {
              inside = filled.limits.inside;
              once = filled.once;
              whole = filled.limits.whole;
              placed = λ e h. filled.ranked.noted filled.once e (let whole = filled.limits.whole in omega arith);
            });
      })

  -- and what a survey answers is what the desk is answered
  pub told :
      (number : ℕ) (peak : Peak.Peaked)
      → number ≡ ground_of c
      → peak ≡ peaked_of c
      → Answered n par work out order number peak
  told number peak e f =
      surveyed n par work out order filled.limits filled.once
      ∙ sym
      (rw (e, f, filled.size, filled.parents, filled.works, filled.outs, filled.first))

-- as plain numbers
pub outcome :
    (surveyed : Result Peaked Refusal)
    → ◌≡◌ {A = DeskAnswer} (record { number = number_in surveyed; peak = peak_told surveyed }) (answer_of (records.told surveyed))
outcome (Ok peak) = refl
outcome (Err refusal) = refl

-- the rows are written, then their number, then the order
module _ (n : ℕ) (t : Tasks) (order w₁ w₂ : List ℕ) (rowed : RowsWritten t (contents w₁))
    (limits : InLimits n t.parent order) (sized : w₂ ≡ set w₁ (head_base + 1) n) where
  sized-is : (contents w₂ ≡ with_head 1 n (contents w₁)) × (length w₂ ≡ words)
  unfolding contents
  sized-is = wrote-head w₁ 1 n rowed.long (omega arith) sized

  pub may-list : MayWriteOrder order (contents w₂)
  unfolding contents
  may-list =
      let small = (within-task max_tasks n limits.sized).high in
      let whole = limits.whole in
      record {
        long = sized-is.1;
        listed = record { few = omega arith; inside = rw whole limits.inside };
      }

  pub fill :
      (w₃ : List ℕ)
      → OrderWritten order (contents w₂) (contents w₃)
      → distinct order ≡ true
      → Filled n t.parent t.work t.out order (contents w₃)
  unfolding with_head store_with_head
  fill w₃ ordered once =
      record {
        limits = limits;
        once = once;
        size = ordered.size ∙ ap (λ (c : Contents). c.size) sized-is.0;
        parents = ap at (ordered.parents ∙ ap (λ (c : Contents). c.parents) sized-is.0) ∙ (λ z i. rowed.parent_is i z);
        works =
            ap at (ordered.works ∙ ap (λ (c : Contents). c.stores.chilled.works) sized-is.0) ∙ (λ z i. rowed.work_is i z);
        outs = ap at (ordered.outs ∙ ap (λ (c : Contents). c.stores.chilled.outs) sized-is.0) ∙ (λ z i. rowed.out_is i z);
        first = ap (λ (k : ℕ). take k (contents w₃).activation) (sym limits.whole) ∙ ordered.first;
        ranked = ordered.ranked;
      }
