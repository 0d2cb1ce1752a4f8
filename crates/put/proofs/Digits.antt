-- A number's digits are those of its tenth part, and then its last digit.
use mathlib.Core.Path.{◌≡◌, refl, sym}
use mathlib.Core.List.{[], ◌∷◌, ◌++◌}
use Prim.Native.Nat.{ℕ, zero, suc, ◌+◌, ◌/◌, ◌%◌, ◌≤◌, ◌<◌}
use native.Mathlib.Decide.{dec_lt}
use native.Mathlib.Omega.{arith}
use borrow.Author.Tests.{lt-ltb, le-ltb}
use Rattle.texts.specs.Text.{digits, decimal}

short : (more x : ℕ) → x < 10 → digits more x ≡ (48 + x % 10) ∷ []
unfolding digits
short zero x h = refl
short (suc more) x h =
    let e : x % 10 ≡ x = omega arith in
    rw (lt-ltb x 10, digits, e)

long : (more x : ℕ) → 10 ≤ x → digits (suc more) x ≡ digits more (x / 10) ++ ((48 + x % 10) ∷ [])
unfolding digits
long more x h = rw (le-ltb x 10, digits)

-- a number has no more digits than its own size
enough : (m n x : ℕ) → x ≤ m → x ≤ n → digits m x ≡ digits n x
unfolding digits
enough zero n x p q = sym (short n x (omega arith))
enough (suc m) zero x p q = short (suc m) x (omega arith)
enough (suc m) (suc n) x p q =
    elim (dec_lt x 10) [
      | yes h ↦ rw (short (suc m) x, short (suc n) x)
      | no h ↦
          let far : 10 ≤ x = omega arith in
          rw (long m x, long n x, enough m n (x / 10) (omega arith) (omega arith))
    ]

pub one-digit : (x : ℕ) → x < 10 → decimal x ≡ (48 + x % 10) ∷ []
unfolding decimal
one-digit x = short x x

pub more-digits : (x : ℕ) → 10 ≤ x → decimal x ≡ decimal (x / 10) ++ ((48 + x % 10) ∷ [])
unfolding decimal
more-digits zero h = absurd (omega arith)
more-digits (suc x) h = rw (long x (suc x), enough x (suc x / 10) (suc x / 10) (omega arith) (omega arith))
