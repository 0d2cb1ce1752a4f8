-- Laws of the peak: each sum is at most the peak, and the running level that gives the sums one after the other, and with them the peak
-- and its task.
use mathlib.Core.Path.{◌≡◌, refl, sym, ap, ap₂, ◌∙◌}
use mathlib.Core.Bool.{Bool, not, cond, ◌&&◌, ◌||◌, and-false}
use mathlib.Core.List.{List, [], ◌∷◌, ◌++◌, append-nil}
use mathlib.Core.Logic.{⊎_elim}
use Prim.Native.Nat.{ℕ, suc, ◌+◌, ◌-◌, ◌*◌, ◌^◌, ◌≤◌, ◌<◌, max}
use native.Mathlib.Omega.{arith}
use lib.Dec.{eqb, ltb}
use borrow.Author.Tests.{eq-eqb, ne_eqb, lt-ltb, le-ltb}
use Rattle.numbers.specs.Sums.{only}
use Rattle.numbers.specs.Lists.{at, mem, place, largest}
use Rattle.numbers.specs.Limits.{max_tasks, max_count}
use Rattle.tree.specs.Tree.{is_child, children, Valid}
use Rattle.tree.specs.Need.{need, resident}
use Rattle.tree.specs.Peak.{sum_at, sums, peak, peak_task, Peaked, peaked}
use Rattle.numbers.proofs.Tests.{same_or_not, le-or-lt}
use Rattle.numbers.proofs.Sums.{Task, sum-cong, sum-add, sum-zero, sum-change, sum-most, only-le}
use Rattle.tree.proofs.Orders.{mem-here, mem-later, mem-among, place_here, place-later}
use Rattle.tree.proofs.Turns.{Left, Turn, left_split, left-next, left-turn}

-- what one task has in the store
abbrev lying : (par out : ℕ → ℕ) (ended begun : ℕ → Bool) → ℕ → ℕ
lying par out ended begun i = only (ended i && not (eqb (par i) 0) && not (begun (par i))) (out i)

-- what is resident goes by which tasks have ended and which parents have begun
pub resident-cong :
    (n : ℕ) (par out : ℕ → ℕ) (ended ended' begun begun' : ℕ → Bool)
    → ((i : ℕ) → Task n i → ended i ≡ ended' i)
    → ((i : ℕ) → Task n i → (par i ≡ 0 → ⊥) → begun (par i) ≡ begun' (par i))
    → resident n par out ended begun ≡ resident n par out ended' begun'
unfolding resident
resident-cong n par out ended ended' begun begun' e b =
    sum-cong (lying par out ended begun) (lying par out ended' begun') n
    (λ i t.
    ⊎_elim (λ z. rw (e i t, eq-eqb (par i) 0 z, and-false (ended' i))) (λ d. rw (e i t, b i t d)) (same_or_not (par i) 0))

-- it does not matter when y ended
pub sum-among :
    (n : ℕ) (par work out : ℕ → ℕ) (pre : List ℕ) (y : ℕ) (ended : List ℕ) (x : ℕ)
    → sum_at n par work out (pre ++ y ∷ ended) x ≡ sum_at n par work out (y ∷ pre ++ ended) x
unfolding mem
sum-among n par work out pre y ended x =
    ap (λ (r : ℕ). need n par work out x + r)
    (resident-cong n par out (λ i. mem i (pre ++ y ∷ ended)) (λ i. mem i (y ∷ pre ++ ended))
    (λ i. mem i (x ∷ pre ++ y ∷ ended)) (λ i. mem i (x ∷ y ∷ pre ++ ended)) (λ i _. mem-among i y pre ended)
    (λ i _ _. ap (λ t. eqb (par i) x || t) (mem-among (par i) y pre ended)))

-- each sum is at most the largest
sum-le-largest :
    (n : ℕ) (par work out : ℕ → ℕ) (ended pre : List ℕ) (x : ℕ) (post : List ℕ)
    → sum_at n par work out (pre ++ ended) x ≤ largest (sums n par work out ended (pre ++ x ∷ post))
unfolding largest sums
sum-le-largest n par work out ended [] x post = omega arith
sum-le-largest n par work out ended (y ∷ pre) x post =
    let later : sum_at n par work out (pre ++ y ∷ ended) x ≤ largest (sums n par work out (y ∷ ended) (pre ++ x ∷ post))
    = sum-le-largest n par work out (y ∷ ended) pre x post in
    omega (arith, sum-among n par work out pre y ended x)

-- each sum is at most the peak
pub sum-le-peak :
    (n : ℕ) (par work out : ℕ → ℕ) (order pre : List ℕ) (x : ℕ) (post : List ℕ)
    → order ≡ pre ++ x ∷ post
    → sum_at n par work out pre x ≤ peak n par work out order
unfolding peak
sum-le-peak n par work out order pre x post e =
    rw e (rw (append-nil pre) at (sum-le-largest n par work out [] pre x post))

-- what lies in the store between two turns, where those of `ended` have run
unfoldable pub level : (n : ℕ) (par out : ℕ → ℕ) → List ℕ → ℕ
level n par out ended = resident n par out (λ i. mem i ended) (λ i. mem i ended)

-- what x leaves there when it ends: nothing where it is the root
unfoldable pub kept : (par out : ℕ → ℕ) → ℕ → ℕ
kept par out x = only (not (eqb (par x) 0)) (out x)

-- nothing at first
pub level-first : (n : ℕ) (par out : ℕ → ℕ) → level n par out [] ≡ 0
unfolding level resident mem
level-first n par out = sum-zero (lying par out (λ i. mem i []) (λ i. mem i [])) n (λ i _. refl)

-- it does not matter whether x ended first or last
pub level-snoc : (n : ℕ) (par out : ℕ → ℕ) (l : List ℕ) (x : ℕ) → level n par out (l ++ x ∷ []) ≡ level n par out (x ∷ l)
unfolding level
level-snoc n par out l x =
    let same : (i : ℕ) → mem i (l ++ x ∷ []) ≡ mem i (x ∷ l)
    = λ i. mem-among i x l [] ∙ ap (λ t. mem i (x ∷ t)) (append-nil l) in
    resident-cong n par out (λ i. mem i (l ++ x ∷ [])) (λ i. mem i (x ∷ l)) (λ i. mem i (l ++ x ∷ [])) (λ i. mem i (x ∷ l))
    (λ i _. same i) (λ i _ _. same (par i))

-- at the turn of x the outs of its children leave the level
children-leave :
    (n : ℕ) (par out : ℕ → ℕ) (ended : List ℕ) (x : ℕ)
    → Turn n par ended x
    → children n par out x + resident n par out (λ i. mem i ended) (λ i. mem i (x ∷ ended)) ≡ level n par out ended
unfolding children resident level
children-leave n par out ended x turn =
    sym (sum-add (λ c. only (eqb (par c) x) (out c)) (lying par out (λ i. mem i ended) (λ i. mem i (x ∷ ended))) n)
    ∙ sum-cong
    (λ c. only (eqb (par c) x) (out c) + lying par out (λ i. mem i ended) (λ i. mem i (x ∷ ended)) c)
    (lying par out (λ i. mem i ended) (λ i. mem i ended)) n
    (λ c t.
    ⊎_elim
    (λ q.
    rw (eq-eqb (par c) x q, turn.fed c t q, ne_eqb (par c) 0 (λ z. omega arith), mem-here (par c) x ended q, q, turn.new)
    (omega arith))
    (λ d. rw (ne_eqb (par c) x d, mem-later (par c) x ended d) (omega arith)) (same_or_not (par c) x))

-- and its own out comes
own-comes :
    (n : ℕ) (par out : ℕ → ℕ) (ended : List ℕ) (x : ℕ)
    → Turn n par ended x
    → level n par out (x ∷ ended)
    ≡ resident n par out (λ i. mem i ended) (λ i. mem i (x ∷ ended)) + kept par out x
unfolding resident level kept
own-comes n par out ended x turn =
    sum-change (lying par out (λ i. mem i ended) (λ i. mem i (x ∷ ended)))
    (lying par out (λ i. mem i (x ∷ ended)) (λ i. mem i (x ∷ ended))) n x (only (not (eqb (par x) 0)) (out x)) turn.task
    (⊎_elim (λ z. rw (mem-here x x ended refl, turn.new, eq-eqb (par x) 0 z))
    (λ d. rw (mem-here x x ended refl, turn.new, turn.upward d, ne_eqb (par x) 0 d) (omega arith)) (same_or_not (par x) 0))
    (λ i _ d. rw (mem-later i x ended d))

-- at the turn of x the store holds the level, its work and its out
pub turn-sum :
    (n : ℕ) (par work out : ℕ → ℕ) (ended : List ℕ) (x : ℕ)
    → Turn n par ended x
    → sum_at n par work out ended x ≡ level n par out ended + work x + out x
unfolding need
turn-sum n par work out ended x turn = omega (arith, children-leave n par out ended x turn)

-- after the turn of x the level has lost the outs of its children, and has what x leaves
pub turn_level :
    (n : ℕ) (par out : ℕ → ℕ) (ended : List ℕ) (x : ℕ)
    → Turn n par ended x
    → level n par out (x ∷ ended) + children n par out x ≡ level n par out ended + kept par out x
turn_level n par out ended x turn =
    omega (arith, children-leave n par out ended x turn, own-comes n par out ended x turn)

-- the largest of the sums along an order, from a level on
unfoldable pub running : (n : ℕ) (par work out : ℕ → ℕ) → ℕ → List ℕ → ℕ
running n par work out h [] = 0
running n par work out h (x ∷ later) =
    max (h + work x + out x) (running n par work out (h + kept par out x - children n par out x) later)

running-is :
    (n : ℕ) (par work out : ℕ → ℕ) (ended later : List ℕ)
    → Left n par ended later
    → largest (sums n par work out ended later) ≡ running n par work out (level n par out ended) later
unfolding largest sums running
running-is n par work out ended [] r = refl
running-is n par work out ended (x ∷ later) r =
    let turn = left-turn n par ended x later r in
    let after : level n par out (x ∷ ended) ≡ level n par out ended + kept par out x - children n par out x
    = omega (arith, turn_level n par out ended x turn) in
    ap₂ max (turn-sum n par work out ended x turn)
    (running-is n par work out (x ∷ ended) later (left-next n par ended x later r)
    ∙ ap (λ h. running n par work out h later) after)

-- the peak of an order in which each task has its children ahead of it, by the level that runs along it
pub peak-alone :
    (n : ℕ) (par work out : ℕ → ℕ) (order : List ℕ)
    → Left n par [] order
    → peak n par work out order ≡ running n par work out 0 order
unfolding peak
peak-alone n par work out order r =
    running-is n par work out [] order r ∙ ap (λ h. running n par work out h order) (level-first n par out)

-- so of a valid one
pub peak-running :
    (n : ℕ) (par work out : ℕ → ℕ) (order : List ℕ)
    → Valid n par order
    → peak n par work out order ≡ running n par work out 0 order
peak-running n par work out order v = peak-alone n par work out order (left_split n par [] order v)

-- no peak is above what all tasks of a plan can leave and need
sums-most :
    (n : ℕ) (par work out : ℕ → ℕ)
    → ((c : ℕ) → work c ≤ max_count)
    → ((c : ℕ) → out c ≤ max_count)
    → (ended l : List ℕ)
    → largest (sums n par work out ended l) ≤ 2 * max_count * n + 2 * max_count
unfolding largest sums need children resident
sums-most n par work out works outs ended [] = omega arith
sums-most n par work out works outs ended (x ∷ l) =
    let later = sums-most n par work out works outs (x ∷ ended) l in
    let w = works x in
    let o = outs x in
    let most : (t : ℕ → Bool) (c : ℕ) → only (t c) (out c) ≤ max_count
    = λ t c. let some = only-le (t c) (out c) in let light = outs c in omega arith in
    let from = sum-most (λ c. only (is_child par x c) (out c)) n max_count (λ c _. most (is_child par x) c) in
    let left : ℕ → Bool = λ c. mem c ended && not (eqb (par c) 0) && not (mem (par c) (x ∷ ended)) in
    let there = sum-most (λ c. only (left c) (out c)) n max_count (λ c _. most left c) in
    omega arith

pub peak-most :
    (n : ℕ) (par work out : ℕ → ℕ) (l : List ℕ)
    → n ≤ max_tasks
    → ((c : ℕ) → work c ≤ max_count)
    → ((c : ℕ) → out c ≤ max_count)
    → peak n par work out l < 2 ^ 32
unfolding peak
peak-most n par work out l small works outs = let most = sums-most n par work out works outs [] l in omega arith

-- the task of the largest sum, the first of equals
unfoldable pub running_task : (n : ℕ) (par work out : ℕ → ℕ) → ℕ → List ℕ → ℕ
running_task n par work out h [] = 0
running_task n par work out h (x ∷ later) =
    cond (ltb (h + work x + out x) (running n par work out (h + kept par out x - children n par out x) later))
    (running_task n par work out (h + kept par out x - children n par out x) later) x

-- the first place of the largest of some numbers: among the later ones where one of them is above the first
pub largest-later : (s : ℕ) (l : List ℕ) → s < largest l → place (largest (s ∷ l)) (s ∷ l) ≡ suc (place (largest l) l)
unfolding largest
largest-later s l h =
    let high : max s (largest l) ≡ largest l = omega arith in
    rw high (place-later (largest l) s l (λ e. omega arith))

pub largest-here : (s : ℕ) (l : List ℕ) → largest l ≤ s → place (largest (s ∷ l)) (s ∷ l) ≡ 0
unfolding largest
largest-here s l h = place_here (max s (largest l)) s l (omega arith)

running-task-is :
    (n : ℕ) (par work out : ℕ → ℕ) (ended later : List ℕ)
    → Left n par ended later
    → at later (place (largest (sums n par work out ended later)) (sums n par work out ended later))
    ≡ running_task n par work out (level n par out ended) later
unfolding sums running_task
running-task-is n par work out ended [] r = refl
running-task-is n par work out ended (x ∷ later) r =
    let turn = left-turn n par ended x later r in
    let next = left-next n par ended x later r in
    let h : ℕ = level n par out ended + kept par out x - children n par out x in
    let after : level n par out (x ∷ ended) ≡ h = omega (arith, turn_level n par out ended x turn) in
    let here = turn-sum n par work out ended x turn in
    let rest : largest (sums n par work out (x ∷ ended) later) ≡ running n par work out h later
    = running-is n par work out (x ∷ ended) later next ∙ ap (λ (v : ℕ). running n par work out v later) after in
    ⊎_elim
    (λ (low : largest (sums n par work out (x ∷ ended) later) ≤ sum_at n par work out ended x).
    rw (
      largest-here (sum_at n par work out ended x) (sums n par work out (x ∷ ended) later) low,
      le-ltb (level n par out ended + work x + out x) (running n par work out h later) (omega arith),
    ))
    (λ (above : sum_at n par work out ended x < largest (sums n par work out (x ∷ ended) later)).
    rw (
      largest-later (sum_at n par work out ended x) (sums n par work out (x ∷ ended) later) above,
      lt-ltb (level n par out ended + work x + out x) (running n par work out h later) (omega arith),
    )
    (running-task-is n par work out (x ∷ ended) later next ∙ ap (λ (v : ℕ). running_task n par work out v later) after))
    (le-or-lt (largest (sums n par work out (x ∷ ended) later)) (sum_at n par work out ended x))

-- both along an order, from a level on
abbrev pub running_peak : (n : ℕ) (par work out : ℕ → ℕ) → ℕ → List ℕ → Peaked
running_peak n par work out h l =
    record { trays = running n par work out h l; task = running_task n par work out h l }

-- the peak of a valid order with its task, by the level that runs along it
pub peaked-running :
    (n : ℕ) (par work out : ℕ → ℕ) (order : List ℕ)
    → Valid n par order
    → peaked n par work out order ≡ running_peak n par work out 0 order
unfolding peaked peak_task peak
peaked-running n par work out order v =
    let trays = peak-running n par work out order v in
    let task : peak_task n par work out order ≡ running_task n par work out 0 order
    = running-task-is n par work out [] order (left_split n par [] order v)
    ∙ ap (λ (h : ℕ). running_task n par work out h order) (level-first n par out) in
    λ z. record { trays = trays z; task = task z }
