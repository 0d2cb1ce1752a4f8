-- The rules' recursions, one equation a branch: no later proof opens them.
use mathlib.Core.Path.{◌≡◌, refl, ◌∙◌}
use mathlib.Core.Bool.{Bool, true, false, ◌||◌}
use mathlib.Core.List.{List, [], ◌∷◌}
use Prim.Native.Nat.{ℕ, zero, suc, ◌+◌, ◌-◌, ◌<◌}
use native.Mathlib.Omega.{arith}
use lib.Dec.{eqb}
use lib.ListN.{length, set, drop}
use borrow.Author.Tests.{ne_eqb}
use Rattle.books.specs.Kind.{Kind, Each}
use Rattle.numbers.specs.Lists.{at, first}
use Rattle.books.specs.Standing.{waiting, running}
use Rattle.books.specs.Booking.{Terms, Books, allows, book, activate, ready, starts, Share, spent, pass_each, release, offer, climb}

module _ (n : ℕ) (par : ℕ → ℕ) (terms : Kind → Terms) (i : ℕ) (later : List ℕ) (s : Books) where
  -- booking ahead passes a task that does not wait, books one that is allowed, and stops at one that is not
  pub activate-pass :
      eqb (at s.standings i) waiting ≡ false
      → activate n par terms (i ∷ later) s ≡ activate n par terms later s
  unfolding activate
  activate-pass e = rw (e, activate)

  pub activate-book :
      eqb (at s.standings i) waiting ≡ true
      → allows n par terms s i ≡ true
      → activate n par terms (i ∷ later) s ≡ activate n par terms later (book n par terms s i)
  unfolding activate
  activate-book e a = rw (e, a, activate)

  pub activate-stop :
      eqb (at s.standings i) waiting ≡ true
      → allows n par terms s i ≡ false
      → activate n par terms (i ∷ later) s ≡ s
  unfolding activate
  activate-stop e a = rw (e, a, activate)

-- booking ahead passes all that do not wait
pub passes-all :
    (n : ℕ) (par : ℕ → ℕ) (terms : Kind → Terms) (l : List ℕ) (next : ℕ) (k : Books)
    → ((e : ℕ) → e < next → at k.standings (at l e) ≡ waiting → ⊥)
    → activate n par terms l k ≡ activate n par terms (drop next l) k
passes-all n par terms l zero k busy = refl
passes-all n par terms [] (suc next) k busy = refl
passes-all n par terms (x ∷ l) (suc next) k busy =
    activate-pass n par terms x l k (ne_eqb (at k.standings x) waiting (busy 0 (omega arith)))
    ∙ passes-all n par terms l next k (λ e h. busy (suc e) (omega arith))

module _ (n : ℕ) (par : ℕ → ℕ) (execution : List ℕ) (free : ℕ) (st : List ℕ) where
  -- starting stops where nobody is ready, and starts the first that is
  pub starts_none : first (ready n par st) execution ≡ 0 → starts n par execution (suc free) st ≡ []
  unfolding starts
  starts_none e = rw (e, starts)

  pub starts-one :
      (i : ℕ)
      → first (ready n par st) execution ≡ suc i
      → starts n par execution (suc free) st ≡ suc i ∷ starts n par execution free (set st (suc i) running)
  unfolding starts
  starts-one i e = rw (e, starts)

module _ (n : ℕ) (par : ℕ → ℕ) (terms : Kind → Terms) (st : ℕ → ℕ) (i : ℕ) (above : List ℕ) (s : Each Share) where
  -- a climb stops at a waiting task or with nothing left, and offers to any other
  pub climb-stop :
      (eqb (st i) waiting || spent s) ≡ true → climb n par terms st (i ∷ above) s ≡ record { offered = []; share = s }
  unfolding climb
  climb-stop e = rw (e, climb)

  pub climb-offer :
      (eqb (st i) waiting || spent s) ≡ false
      → climb n par terms st (i ∷ above) s ≡ offer i (climb n par terms st above (pass_each n par terms st i s))
  unfolding climb
  climb-offer e = rw (e, climb)

-- the first that passes a test
module _ (test : ℕ → Bool) (x : ℕ) (later : List ℕ) where
  pub first-here : test x ≡ true → first test (x ∷ later) ≡ x
  unfolding first
  first-here e = rw (e, first)

  pub first-later : test x ≡ false → first test (x ∷ later) ≡ first test later
  unfolding first
  first-later e = rw (e, first)

-- the first entry of a list that passes, by its place
pub first-at :
    (test : ℕ → Bool) (l : List ℕ) (e : ℕ)
    → e < length l
    → ((k : ℕ) → k < e → test (at l k) ≡ false)
    → test (at l e) ≡ true
    → first test l ≡ at l e
first-at test [] e h earlier here = absurd (omega arith)
first-at test (x ∷ l) zero h earlier here = first-here test x l here
first-at test (x ∷ l) (suc e) h earlier here =
    first-later test x l (earlier 0 (omega arith))
    ∙ first-at test l e (omega arith) (λ k p. earlier (suc k) (omega arith)) here

-- the booked trays of an ended task, with and without a parent
module _ (par out : ℕ → ℕ) (b : List ℕ) (j : ℕ) where
  pub release-root : eqb (par j) 0 ≡ true → release par out b j ≡ record { left = at b j - out j; booked = set b j (out j) }
  unfolding release
  release-root e = rw (e, release)

  pub release-child :
      eqb (par j) 0 ≡ false
      → release par out b j
      ≡ record { left = at b j - out j; booked = set (set b j 0) (par j) (at (set b j 0) (par j) + out j) }
  unfolding release
  release-child e = rw (e, release)
