-- Laws of the rows of the tasks at the front of a column.
use mathlib.Core.Path.{◌≡◌, sym, fun_ext, ◌∙◌}
use mathlib.Core.Logic.{⊎_elim}
use mathlib.Core.List.{List}
use Prim.Native.Nat.{ℕ, suc, ◌≤◌, ◌<◌}
use native.Mathlib.Omega.{arith}
use lib.ListN.{length, set, length-take, get_or-eq_default}
use lib.Seq.{get_or-take, get_or-set_other, take-set-lt, length-take-le}
use Rattle.numbers.specs.Lists.{at}
use Rattle.tree.specs.Tree.{figure}
use Rattle.tree.proofs.Tree.{figure-cong}
use Rattle.numbers.proofs.Tests.{le-or-lt}
use Rattle.store.specs.Rows.{rows_of, ZeroPast}

pub at_rows : (n : ℕ) (l : List ℕ) (i : ℕ) → i ≤ n → at (rows_of n l) i ≡ at l i
at_rows n l i h = get_or-take (suc n) l i 0 (omega arith)

pub rows-set : (n : ℕ) (l : List ℕ) (i v : ℕ) → i ≤ n → rows_of n (set l i v) ≡ set (rows_of n l) i v
rows-set n l i v h = take-set-lt (suc n) l i v (omega arith)

pub rows-length : (n : ℕ) (l : List ℕ) → n < length l → length (rows_of n l) ≡ suc n
rows-length n l h = length-take-le (suc n) l h

-- sums over the tasks look at these rows only
pub figure-rows : (n : ℕ) (par : ℕ → ℕ) (l : List ℕ) (i : ℕ) → figure n par (at (rows_of n l)) i ≡ figure n par (at l) i
figure-rows n par l i = figure-cong n par (at l) (at (rows_of n l)) i (λ k t. at_rows n l k t.high)

-- where nothing stands past the tasks, these rows are all there is to look at
pub rows_is : (n : ℕ) (l : List ℕ) → ZeroPast n l → at (rows_of n l) ≡ at l
rows_is n l zero =
    fun_ext
    (λ a.
    ⊎_elim (λ (h : a ≤ n). at_rows n l a h)
    (λ (h : n < a).
    get_or-eq_default (rows_of n l) 0 (let t = length-take (suc n) l in omega arith) ∙ sym (zero a h))
    (le-or-lt a n))

pub zero-set : (n : ℕ) (l : List ℕ) (i v : ℕ) → i ≤ n → ZeroPast n l → ZeroPast n (set l i v)
zero-set n l i v h zero a past = get_or-set_other l i a v 0 (λ e. omega arith) ∙ zero a past
