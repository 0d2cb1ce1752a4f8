-- Laws of the test for ready tasks along an execution order.
use mathlib.Core.Path.{◌≡◌, sym, ap, ap₂, fun_ext, ◌∙◌}
use mathlib.Core.Bool.{Bool, cond, ◌&&◌}
use mathlib.Core.Logic.{⊎_elim}
use mathlib.Core.List.{List}
use Prim.Native.Nat.{ℕ, ◌≤◌, ◌<◌}
use native.Mathlib.Omega.{arith}
use lib.Dec.{ltb}
use borrow.Author.Tests.{eq-eqb, ne_eqb, lt-ltb, le-ltb}
use Rattle.numbers.specs.Sums.{Task, within}
use Rattle.numbers.specs.Lists.{at}
use Rattle.books.specs.Booking.{ready}
use Rattle.tree.specs.Tree.{rank_in}
use Rattle.numbers.proofs.Tests.{same_or_not, le-or-lt}
use Rattle.tree.proofs.Orders.{within-task, every-mem, mem-at, all_in, place-lt, place_at}
use Rattle.words.specs.Marks.{changed}
use Rattle.store.specs.Cached.{is_ready_at, Placed}

module _ {n : ℕ} {execution : List ℕ} {place : ℕ → ℕ} (placed : Placed n execution place) where
  -- each task stands at its place
  stands : (i : ℕ) → Task n i → (place i < n) × (at execution (place i) ≡ i)
  stands i t =
      let m = all_in n execution placed.inside placed.once placed.whole i t in
      let low = place-lt i execution m in
      let whole = placed.whole in
      let there = place_at i execution m in
      let is : place i ≡ rank_in execution i = ap place (sym there) ∙ placed.placed (rank_in execution i) (omega arith) in
      (omega arith, ap (at execution) is ∙ there)

  pub place_in : (i : ℕ) → Task n i → place i < n
  place_in i t = (stands i t).0

  pub at_place : (i : ℕ) → Task n i → at execution (place i) ≡ i
  at_place i t = (stands i t).1

  -- and at each place stands a task
  pub placed-task : (e : ℕ) → e < n → Task n (at execution e)
  placed-task e h =
      within-task n (at execution e)
      (every-mem (λ i. within i n) execution (at execution e) placed.inside
      (mem-at execution e (let whole = placed.whole in omega arith)))

  module _ (par : ℕ → ℕ) where
    pub ready_at : (st : List ℕ) (i : ℕ) → Task n i → is_ready_at n par execution st (place i) ≡ ready n par st i
    unfolding is_ready_at
    ready_at st i t = ap₂ (λ (b : Bool) (k : ℕ). b && ready n par st k) (lt-ltb (place i) n (place_in i t)) (at_place i t)

    -- where all others are ready as they were, the test changes at one place
    pub ready-changed :
        (st st' : List ℕ) (x : ℕ)
        → Task n x
        → ((i : ℕ) → Task n i → (i ≡ x → ⊥) → ready n par st' i ≡ ready n par st i)
        → changed (is_ready_at n par execution st) (place x) (ready n par st' x) ≡ is_ready_at n par execution st'
    unfolding is_ready_at
    ready-changed st st' x t same =
        fun_ext
        (λ e.
        ⊎_elim
        (λ (here : e ≡ place x).
        ap (λ (b : Bool). cond b (ready n par st' x) (is_ready_at n par execution st e)) (eq-eqb e (place x) here)
        ∙ sym (ap (is_ready_at n par execution st') here ∙ ready_at st' x t))
        (λ d.
        ap (λ (b : Bool). cond b (ready n par st' x) (is_ready_at n par execution st e)) (ne_eqb e (place x) d)
        ∙ ⊎_elim
        (λ (past : n ≤ e).
        ap (λ (b : Bool). b && ready n par st (at execution e)) (le-ltb e n past)
        ∙ sym (ap (λ (b : Bool). b && ready n par st' (at execution e)) (le-ltb e n past)))
        (λ (low : e < n).
        ap (λ (b : Bool). ltb e n && b)
        (sym
        (same (at execution e) (placed-task e low)
        (λ q. d (sym (placed.placed e low) ∙ ap place q)))))
        (le-or-lt n e))
        (same_or_not e (place x)))
