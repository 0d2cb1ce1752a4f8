-- The four counts of a day, by how far booking ahead has come.
use mathlib.Core.Path.{◌≡◌, refl}
use mathlib.Core.List.{List, [], ◌∷◌}
use Prim.Native.Nat.{ℕ, zero, suc, ◌+◌, ◌≤◌, ◌<◌}
use native.Mathlib.Omega.{arith}
use lib.Dec.{eqb}
use lib.ListN.{length}
use borrow.Author.Tests.{eq-eqb, ne_eqb}
use Rattle.numbers.specs.Sums.{Task, only, sum_to, count_to}
use Rattle.numbers.specs.Lists.{at}
use Rattle.books.specs.Standing.{waiting, activated, running, finished, count}
use Rattle.books.specs.Booking.{Books}
use Rattle.tree.specs.Tree.{Valid}
use Rattle.numbers.proofs.Sums.{only-true, only-false}
use Rattle.tree.proofs.Orders.{sum_over, sum-along}
use Rattle.store.specs.Cached.{Reached}

-- a sum along a list whose first k entries give nothing, and whose others give one
sum-behind :
    (f : ℕ → ℕ) (l : List ℕ) (k : ℕ)
    → k ≤ length l
    → ((e : ℕ) → e < k → f (at l e) ≡ 0)
    → ((e : ℕ) → k ≤ e → e < length l → f (at l e) ≡ 1)
    → sum_over f l + k ≡ length l
unfolding sum_over
sum-behind f [] k h before from = omega arith
sum-behind f (x ∷ l) zero h before from =
    let here : f x ≡ 1 = from 0 (omega arith) (omega arith) in
    let rest : sum_over f l + 0 ≡ length l
    = sum-behind f l 0 (omega arith) (λ e low. absurd (omega arith)) (λ e low high. from (suc e) (omega arith) (omega arith)) in
    omega arith
sum-behind f (x ∷ l) (suc k) h before from =
    let here : f x ≡ 0 = before 0 (omega arith) in
    let rest : sum_over f l + k ≡ length l
    = sum-behind f l k (omega arith) (λ e low. before (suc e) (omega arith))
    (λ e low high. from (suc e) (omega arith) (omega arith)) in
    omega arith

-- those from `next` on in the activation order wait, and nobody else
pub waiting-count :
    (n : ℕ) (par : ℕ → ℕ) (order : List ℕ) (k : Books) (next : ℕ)
    → Valid n par order
    → Reached n order k next
    → count n (at k.standings) waiting + next ≡ n
unfolding count count_to
waiting-count n par order k next valid reached =
    let whole = valid.whole in
    let along : sum_over (λ i. only (eqb (at k.standings i) waiting) 1) order
    ≡ sum_to (λ i. only (eqb (at k.standings i) waiting) 1) n
    = sum-along (λ i. only (eqb (at k.standings i) waiting) 1) n order valid.inside valid.once whole in
    let within = reached.within in
    let behind : sum_over (λ i. only (eqb (at k.standings i) waiting) 1) order + next ≡ length order
    = sum-behind (λ i. only (eqb (at k.standings i) waiting) 1) order next (omega arith)
    (λ e low.
    only-false (eqb (at k.standings (at order e)) waiting) 1
    (ne_eqb (at k.standings (at order e)) waiting (reached.before_next e low)))
    (λ e low high.
    only-true (eqb (at k.standings (at order e)) waiting) 1
    (eq-eqb (at k.standings (at order e)) waiting (reached.from_next e low (omega arith)))) in
    omega arith

-- a task has one standing of the four
one-standing :
    (s : ℕ)
    → s ≤ finished
    → only (eqb s waiting) 1 + only (eqb s activated) 1 + only (eqb s running) 1 + only (eqb s finished) 1 ≡ 1
one-standing zero h = refl
one-standing (suc zero) h = refl
one-standing (suc (suc zero)) h = refl
one-standing (suc (suc (suc zero))) h = refl
one-standing (suc (suc (suc (suc s)))) h = absurd (omega arith)

-- the four counts add up to all tasks
pub four-counts :
    (n : ℕ) (st : ℕ → ℕ)
    → ((i : ℕ) → Task n i → st i ≤ finished)
    → count n st waiting + count n st activated + count n st running + count n st finished ≡ n
unfolding count count_to sum_to
four-counts zero st four = refl
four-counts (suc n) st four =
    let before = four-counts n st (λ i t. four i (omega arith)) in
    let here = one-standing (st (suc n)) (four (suc n) (omega arith)) in
    omega arith
