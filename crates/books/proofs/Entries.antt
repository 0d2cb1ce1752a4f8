-- Lists of which an entry is set: standings and booked trays after one change.
use mathlib.Core.Path.{◌≡◌, sym, subst}
use mathlib.Core.Logic.{⊎_elim}
use mathlib.Core.List.{List}
use Prim.Native.Nat.{ℕ, suc, ◌+◌, ◌-◌}
use native.Mathlib.Omega.{arith}
use lib.Dec.{eqb}
use lib.ListN.{length, set}
use lib.Seq.{get_or-set_same, get_or-set_other}
use borrow.Author.Tests.{eq-eqb, ne_eqb}
use Rattle.numbers.specs.Sums.{only}
use Rattle.numbers.specs.Lists.{at}
use Rattle.tree.specs.Tree.{figure}
use Rattle.numbers.proofs.Tests.{same_or_not}
use Rattle.numbers.proofs.Sums.{Task}
use Rattle.books.proofs.Shape.{Moved}
use Rattle.books.proofs.Giving.{Given}

-- an entry that is set, and the others
pub at_set : (n : ℕ) (l : List ℕ) (i v : ℕ) → length l ≡ suc n → Task n i → at (set l i v) i ≡ v
at_set n l i v e t = get_or-set_same l i v 0 (omega arith)

pub at_other : (l : List ℕ) (i v k : ℕ) → (k ≡ i → ⊥) → at (set l i v) k ≡ at l k
at_other l i v k d = get_or-set_other l i k v 0 d

pub moved-by-set : (n : ℕ) (l : List ℕ) (i v : ℕ) → length l ≡ suc n → Task n i → Moved n (at l) (at (set l i v)) i v
moved-by-set n l i v e t = record { there = at_set n l i v e t; elsewhere = λ k _ d. at_other l i v k d }

-- a list in which x is given what it lacks
pub given-by-set :
    (n : ℕ) (par need : ℕ → ℕ) (l : List ℕ) (x : ℕ)
    → length l ≡ suc n
    → Task n x
    → Given n par need (at l) (at (set l x (at l x + (need x - figure n par (at l) x)))) x
given-by-set n par need l x e t =
    let all : ℕ = at l x + (need x - figure n par (at l) x) in
    record { there = at_set n l x all e t; elsewhere = λ i _ d. at_other l x all i d }

-- a list in which one entry grows
pub grown-by-set :
    (n : ℕ) (l : List ℕ) (q v : ℕ)
    → length l ≡ suc n
    → Task n q
    → (i : ℕ)
    → at (set l q (at l q + v)) i ≡ at l i + only (eqb q i) v
grown-by-set n l q v e t i =
    ⊎_elim
    (λ (same : q ≡ i).
    let new = subst (λ (k : ℕ). at (set l q (at l q + v)) k ≡ at l k + v) same (at_set n l q (at l q + v) e t) in
    rw (eq-eqb q i same) new)
    (λ d. let old = at_other l q (at l q + v) i (λ s. d (sym s)) in rw (ne_eqb q i d) (omega arith))
    (same_or_not q i)
