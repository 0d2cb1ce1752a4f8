-- A loop that runs the tasks of an order one at a time, with the level of the store and the largest sum so far, and its task.
use mathlib.Core.Path.{◌≡◌, sym, ◌∙◌}
use mathlib.Core.Bool.{cond}
use mathlib.Core.List.{List, [], ◌∷◌, ◌++◌}
use mathlib.Core.Logic.{⊎_elim}
use Prim.Native.Nat.{ℕ, suc, ◌+◌, ◌-◌, ◌*◌, ◌^◌, ◌≤◌, ◌<◌, max}
use native.Mathlib.Omega.{arith}
use native.Mathlib.Numerals.{add-one}
use lib.Dec.{ltb}
use borrow.Author.Tests.{lt-ltb, le-ltb}
use lib.ListN.{length, get_or, take, drop, drop_of_length-le}
use lib.Seq.{take-suc, take-take, split_at, drop-cons, get_or-take, length-take-le}
use Rattle.numbers.specs.Sums.{Task, within}
use Rattle.tree.specs.Tree.{children, Valid}
use Rattle.tree.specs.Peak.{Peaked, peaked, no_peak}
use Rattle.numbers.proofs.Tests.{le-or-lt}
use Rattle.tree.proofs.Orders.{within-task, mem-at, every-mem}
use Rattle.tree.proofs.Turns.{Turn, valid-turn}
use Rattle.tree.proofs.Peaks.{level, level-first, level-snoc, kept, turn_level, running, running_task, running_peak, peaked-running}
use Rattle.survey.specs.Level.{higher}

-- the two cases of the higher sum
higher-above : (earlier later : Peaked) → earlier.trays < later.trays → higher earlier later ≡ later
higher-above earlier later h = rw (lt-ltb earlier.trays later.trays h)

higher-kept : (earlier later : Peaked) → later.trays ≤ earlier.trays → higher earlier later ≡ earlier
higher-kept earlier later h = rw (le-ltb earlier.trays later.trays h)

-- the sum of a task comes into it, ahead of the rest
module _ (best : Peaked) (s x : ℕ) where
  abbrev one : Peaked
  one = record { trays = s; task = x }

  higher-later :
      (rest : Peaked)
      → higher (higher best one) rest
      ≡ higher best (record { trays = max s rest.trays; task = cond (ltb s rest.trays) rest.task x })
  higher-later rest =
      ⊎_elim
      (λ (behind : rest.trays ≤ s).
      (let most : max s rest.trays ≡ s = omega arith in
      rw (most, le-ltb s rest.trays behind)
      (⊎_elim (λ (h : s ≤ best.trays). rw (higher-kept best one h) (higher-kept best rest (omega arith)))
      (λ (h : best.trays < s). rw (higher-above best one h) (higher-kept one rest behind)) (le-or-lt s best.trays))))
      (λ (ahead : s < rest.trays).
      (let most : max s rest.trays ≡ rest.trays = omega arith in
      rw (most, lt-ltb s rest.trays ahead)
      (⊎_elim (λ (h : s ≤ best.trays). rw (higher-kept best one h))
      (λ (h : best.trays < s). rw (higher-above best one h, higher-above best rest (omega arith)) (higher-above one rest ahead))
      (le-or-lt s best.trays))))
      (le-or-lt rest.trays s)

-- k of the n tasks have run, in the order of the first n entries of l; outs are numbers of 32 bits
pub record RunSoFar (n : ℕ) (par work out : ℕ → ℕ) (l : List ℕ) (k height : ℕ) (best : Peaked) : Type 0 where
  pub passed : k ≤ n
  pub level-is : height ≡ level n par out (take k l)
  pub best-is : higher best (running_peak n par work out height (drop k (take n l))) ≡ running_peak n par work out 0 (take n l)
  pub fits : height ≤ k * 2 ^ 32

-- no sum is below 0, and where all are 0 the first is the earliest
from_first :
    (n : ℕ) (par work out : ℕ → ℕ) (x : ℕ) (later : List ℕ)
    → higher (record { trays = 0; task = x }) (running_peak n par work out 0 (x ∷ later)) ≡ running_peak n par work out 0 (x ∷ later)
unfolding running running_task
from_first n par work out x later =
    ⊎_elim
    (λ (none : running n par work out 0 (x ∷ later) ≤ 0).
    (let trays : 0 ≡ running n par work out 0 (x ∷ later) = omega arith in
    let task : x ≡ running_task n par work out 0 (x ∷ later)
    = rw (le-ltb (0 + work x + out x) (running n par work out (0 + kept par out x - children n par out x) later) (omega arith)) in
    higher-kept _ _ none ∙ (λ z. record { trays = trays z; task = task z })))
    (λ (some : 0 < running n par work out 0 (x ∷ later)). higher-above _ _ some) (le-or-lt (running n par work out 0 (x ∷ later)) 0)

-- nobody has run
pub ran-none :
    (n : ℕ) (par work out : ℕ → ℕ) (l : List ℕ) (first : ℕ)
    → 1 ≤ n
    → n ≤ length l
    → get_or l 0 0 ≡ first
    → RunSoFar n par work out l 0 0 (record { trays = 0; task = first })
ran-none n par work out l first some long at_first =
    let whole : take n l ≡ first ∷ drop 1 (take n l)
    = rw (← at_first, ← get_or-take n l 0 0 some) (drop-cons (take n l) 0 0 (omega (arith, length-take-le n l long))) in
    record {
      passed = omega arith;
      level-is = sym (level-first n par out);
      best-is = rw whole (from_first n par work out first (drop 1 (take n l)));
      fits = omega arith;
    }

module _ (n : ℕ) (par : ℕ → ℕ) (l : List ℕ) (v : Valid n par (take n l)) (long : n ≤ length l) where
  module _ (k : ℕ) (h : k < n) where
    -- the entry at k is a task
    pub ran-task : (x : ℕ) → get_or l k 0 ≡ x → Task n x
    ran-task x at-k =
        within-task n x
        (rw (get_or-take n l k 0 h, at-k) at
        (every-mem (λ i. within i n) (take n l) (get_or (take n l) k 0) v.inside
        (mem-at (take n l) k (omega (arith, length-take-le n l long)))))

    -- the order, taken apart at k
    split : take n l ≡ take k l ++ get_or l k 0 ∷ drop (suc k) (take n l)
    split =
        rw (take-take k n l (omega arith), get_or-take n l k 0 h) at
        (split_at (take n l) k 0 (omega (arith, length-take-le n l long)))

    -- its turn
    ran-turn : Turn n par (take k l) (get_or l k 0)
    ran-turn = valid-turn n par (take k l) (get_or l k 0) (drop (suc k) (take n l)) (rw split at v)

    module _ (work out : ℕ → ℕ) (height : ℕ) (best : Peaked) (r : RunSoFar n par work out l k height best) where
      -- one task more: it takes the outs of its children and leaves its own
      pub ran-next :
          (x left taken trays : ℕ) (more : Peaked)
          → get_or l k 0 ≡ x
          → left ≡ kept par out x
          → left < 2 ^ 32
          → taken ≡ children n par out x
          → trays ≡ height + work x + out x
          → more ≡ higher best (record { trays = trays; task = x })
          → RunSoFar n par work out l (k + 1) (height + left - taken) more
      unfolding running running_task
      ran-next x left taken trays more at-k leaves narrow takes held higher-of =
          let turn : Turn n par (take k l) x = rw at-k at ran-turn in
          let after : level n par out (take (k + 1) l) ≡ level n par out (x ∷ take k l)
          = rw (add-one k, take-suc l k 0 (omega arith), at-k) (level-snoc n par out (take k l) x) in
          let later : drop k (take n l) ≡ x ∷ drop (k + 1) (take n l)
          = rw (add-one k, ← at-k, ← get_or-take n l k 0 h)
          (drop-cons (take n l) k 0 (omega (arith, length-take-le n l long))) in
          let rest : higher best (running_peak n par work out height (x ∷ drop (k + 1) (take n l))) ≡ running_peak n par work out 0 (take n l)
          = rw later at r.best-is in
          let fits = r.fits in
          record {
            passed = omega arith;
            level-is = omega (arith, r.level-is, turn_level n par out (take k l) x turn);
            best-is =
                rw (leaves, takes, higher-of, held)
                (higher-later best (height + work x + out x) x
                (running_peak n par work out (height + kept par out x - children n par out x) (drop (k + 1) (take n l)))
                ∙ rest);
            fits = omega arith;
          }

      -- the outs of its children are there to be taken
      pub ran-enough : (x : ℕ) → get_or l k 0 ≡ x → children n par out x ≤ height + kept par out x
      ran-enough x at-k = omega (arith, r.level-is, turn_level n par out (take k l) x (rw at-k at ran-turn))

  -- all n tasks
  pub ran-all :
      (work out : ℕ → ℕ) (k height : ℕ) (best : Peaked)
      → RunSoFar n par work out l k height best
      → n ≤ k
      → best ≡ peaked n par work out (take n l)
  unfolding running running_task
  ran-all work out k height best r h =
      let done : drop k (take n l) ≡ [] = drop_of_length-le (take n l) {i = k} (omega (arith, v.whole)) in
      let last : higher best no_peak ≡ running_peak n par work out 0 (take n l) = rw done at r.best-is in
      sym (higher-kept best no_peak (omega arith)) ∙ last ∙ sym (peaked-running n par work out (take n l) v)
