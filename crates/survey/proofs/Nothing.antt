-- A day on which nothing has happened: standings and booked trays that are all 0.
use mathlib.Core.Path.{◌≡◌, refl, sym, ap, ◌∙◌}
use mathlib.Core.Bool.{Bool, true, false, not, ◌&&◌}
use mathlib.Core.List.{List}
use Prim.Native.Nat.{ℕ, zero, suc}
use native.Mathlib.Omega.{arith}
use lib.Dec.{eqb, leb, ltb}
use borrow.Author.Tests.{eq-eqb, ne_eqb, lt-leb}
use Rattle.numbers.specs.Sums.{only, count_to}
use Rattle.numbers.specs.Lists.{at}
use Rattle.tree.specs.Need.{need, resident, in_process}
use Rattle.books.specs.Standing.{waiting, activated, running, finished, count}
use Rattle.tree.specs.Tree.{figure}
use Rattle.books.specs.Booking.{total, ready}
use Rattle.numbers.proofs.Tests.{and_none}
use Rattle.numbers.proofs.Sums.{sum-cong, sum-zero, count_none}
use Rattle.books.proofs.Usage.{has_ended, has_begun}
use Rattle.words.specs.Digits.{digits}
use Rattle.store.specs.Cached.{partial_figure, unended_children, is_ready_at, in_process_by}

-- a set with no place in it
pub digits-none : (f : ℕ → Bool) (count : ℕ) → ((k : ℕ) → f k ≡ false) → digits f count ≡ 0
unfolding digits
digits-none f zero none = refl
digits-none f (suc count) none =
    rw (none 0, digits-none (λ k. f (suc k)) count (λ k. none (suc k)))

pub no-total : (n : ℕ) (b : List ℕ) → ((a : ℕ) → at b a ≡ 0) → total n (at b) ≡ 0
unfolding total
no-total n b unbooked = sum-zero (at b) n (λ i _. unbooked i)

module _ (n : ℕ) (st : List ℕ) (none : (a : ℕ) → at st a ≡ 0) where
  pub no-count : (which : ℕ) → (which ≡ waiting → ⊥) → count n (at st) which ≡ 0
  unfolding count
  no-count which d =
      count_none (λ i. eqb (at st i) which) n (λ i _. ne_eqb (at st i) which (λ e. d (sym e ∙ none i)))

  pub not_ready : (par : ℕ → ℕ) (execution : List ℕ) (e : ℕ) → is_ready_at n par execution st e ≡ false
  unfolding is_ready_at ready
  not_ready par execution e =
      let i = at execution e in
      let z = none i in
      rw (ne_eqb (at st i) activated (λ q. omega arith)) (and_none (ltb e n))

  -- the children that have not ended are all children
  pub all-unended : (par : ℕ → ℕ) (i : ℕ) → count_to (λ c. eqb (par c) i) n ≡ unended_children n par (at st) i
  unfolding count_to unended_children
  all-unended par i =
      sum-cong (λ c. only (eqb (par c) i) 1) (λ c. only (eqb (par c) i && not (eqb (at st c) finished)) 1) n
      (λ c _.
      let z = none c in
      rw (ne_eqb (at st c) finished (λ q. omega arith)) (ap (λ (b : Bool). only b 1) (sym (and-true-right (eqb (par c) i)))))
    where
      and-true-right : (b : Bool) → (b && true) ≡ b
      and-true-right true = refl
      and-true-right false = refl

  pub no-use : (par work out : ℕ → ℕ) → in_process_by n par work out (at st) ≡ 0
  unfolding in_process resident
  no-use par work out =
      let idle : (i : ℕ) → leb running (at st i) ≡ false = λ i. let z = none i in lt-leb running (at st i) (omega arith) in
      let open-yet : (i : ℕ) → eqb (at st i) finished ≡ false
      = λ i. let z = none i in ne_eqb (at st i) finished (λ q. omega arith) in
      let one =
      sum-zero (λ i. only (has_begun (at st) i && not (has_ended (at st) i)) (need n par work out i)) n (λ i _. rw (idle i))
      in
      let two =
      sum-zero (λ i. only (has_ended (at st) i && not (eqb (par i) 0) && not (has_begun (at st) (par i))) (out i)) n
      (λ i _. rw (open-yet i))
      in
      omega arith

  pub no-figure :
      (b : List ℕ)
      → ((a : ℕ) → at b a ≡ 0)
      → (par : ℕ → ℕ) (i : ℕ)
      → partial_figure n par (at st) (at b) i ≡ 0
  unfolding partial_figure
  no-figure b unbooked par i =
      let own = unbooked i in
      let others =
      sum-zero (λ c. only (eqb (par c) i && not (eqb (at st c) waiting)) (figure n par (at b) c)) n
      (λ c _. rw (eq-eqb (at st c) waiting (none c), and_none (eqb (par c) i)))
      in
      omega arith
