-- Laws of single entries that a booking changes.
use mathlib.Core.Path.{◌≡◌, sym, ap, ◌∙◌}
use mathlib.Core.Bool.{Bool, true, false, cond}
use mathlib.Core.Logic.{⊎_elim}
use mathlib.Core.List.{List}
use Prim.Native.Nat.{ℕ, ◌+◌, ◌-◌, ◌≤◌, ◌<◌}
use native.Mathlib.Omega.{arith}
use lib.Dec.{eqb}
use lib.ListN.{length, set, length-set}
use lib.Seq.{get_or-set_same, get_or-set_other}
use borrow.Author.Tests.{eq-eqb, ne_eqb}
use Rattle.numbers.specs.Sums.{only}
use Rattle.numbers.specs.Lists.{at}
use Rattle.numbers.proofs.Tests.{decide, same_or_not}
use Rattle.numbers.proofs.Sums.{only-true, only-false}
use Rattle.store.specs.Rows.{ZeroPast}
use Rattle.store.specs.Store.{grown, fewer}
use Rattle.store.proofs.Rows.{zero-set}

-- an entry with more in it
pub set_more :
    (l : List ℕ) (x m i : ℕ) → x < length l → at (set l x (at l x + m)) i ≡ at l i + only (eqb x i) m
set_more l x m i h =
    ⊎_elim
    (λ e.
    let one = only-true (eqb x i) m (eq-eqb x i e) in
    let s : at (set l x (at l x + m)) i ≡ at l x + m =
    ap (at (set l x (at l x + m))) (sym e) ∙ get_or-set_same l x (at l x + m) 0 h
    in
    let f : at l x ≡ at l i = ap (at l) e in
    omega arith)
    (λ d.
    let none = only-false (eqb x i) m (ne_eqb x i d) in
    let s = get_or-set_other l x i (at l x + m) 0 (λ e. d (sym e)) in
    omega arith)
    (same_or_not x i)

pub grown-at :
    (l : List ℕ) (q v i : ℕ) → q < length l → 1 ≤ i → at (grown l q v) i ≡ at l i + only (eqb q i) v
grown-at l q v i h low =
    ⊎_elim
    (λ e.
    ap (λ (b : Bool). at (cond b l (set l q (at l q + v))) i) (eq-eqb q 0 e)
    ∙ (let none = only-false (eqb q i) v (ne_eqb q i (λ z. omega arith)) in omega arith))
    (λ d. ap (λ (b : Bool). at (cond b l (set l q (at l q + v))) i) (ne_eqb q 0 d) ∙ set_more l q v i h)
    (same_or_not q 0)

pub grown-length : (l : List ℕ) (q v : ℕ) → length (grown l q v) ≡ length l
grown-length l q v =
    ⊎_elim (λ (e : eqb q 0 ≡ true). ap (λ (b : Bool). length (cond b l (set l q (at l q + v)))) e)
    (λ (e : eqb q 0 ≡ false).
    ap (λ (b : Bool). length (cond b l (set l q (at l q + v)))) e ∙ length-set l q (at l q + v))
    (decide (eqb q 0))

-- one child fewer
pub fewer-at :
    (l : List ℕ) (q i : ℕ) → q < length l → (q ≡ i → 1 ≤ at l i) → at (fewer l q) i + only (eqb q i) 1 ≡ at l i
fewer-at l q i h some =
    ⊎_elim
    (λ e.
    let one = only-true (eqb q i) 1 (eq-eqb q i e) in
    let s : at (set l q (at l q - 1)) i ≡ at l q - 1 =
    ap (at (set l q (at l q - 1))) (sym e) ∙ get_or-set_same l q (at l q - 1) 0 h
    in
    let f : at l q ≡ at l i = ap (at l) e in
    let m = some e in
    omega arith)
    (λ v.
    let none = only-false (eqb q i) 1 (ne_eqb q i v) in
    let s = get_or-set_other l q i (at l q - 1) 0 (λ e. v (sym e)) in
    omega arith)
    (same_or_not q i)

pub grown-zero : (n : ℕ) (l : List ℕ) (q v : ℕ) → q ≤ n → ZeroPast n l → ZeroPast n (grown l q v)
grown-zero n l q v h zero = by-test (eqb q 0)
  where
    by-test : (b : Bool) → ZeroPast n (cond b l (set l q (at l q + v)))
    by-test true = zero
    by-test false = zero-set n l q (at l q + v) h zero
