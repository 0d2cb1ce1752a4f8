-- How long the lines of the day printer can be: no longer than `longest_line` where the numbers have the widths of the byte format.
use mathlib.Core.List.{List, [], ◌∷◌}
use Prim.Native.Nat.{ℕ, zero, suc, ◌+◌, ◌*◌, ◌/◌, ◌^◌, ◌≤◌, ◌<◌}
use native.Mathlib.Decide.{dec_lt}
use native.Mathlib.Omega.{arith}
use borrow.Author.Tests.{lt-ltb, le-ltb}
use lib.ListN.{length, take, get_or, length-append}
use Rattle.numbers.specs.Limits.{max_processors}
use Rattle.tree.specs.Peak.{Peaked}
use Rattle.texts.specs.Text.{longest_line, ascii, digits, decimal, spaced, listed, figures, begin_line, done_line, fetch_line, places_line, refused_line}

-- a number below a power of ten has no more digits than that power
digits-short : (k more x : ℕ) → x < 10 ^ suc k → length (digits more x) ≤ suc k
unfolding digits
digits-short k zero x h = omega arith
digits-short zero (suc more) x h = rw (lt-ltb x 10, digits) (omega arith)
digits-short (suc k) (suc more) x h =
    elim (dec_lt x 10) [
      | yes few ↦ rw (lt-ltb x 10, digits) (omega arith)
      | no many ↦
          let far : 10 ≤ x = omega arith in
          rw (le-ltb x 10, digits) (simp length-append (omega (arith, digits-short k more (x / 10) (omega arith))))
    ]

pub decimal-short : (k x : ℕ) → x < 10 ^ suc k → length (decimal x) ≤ suc k
unfolding decimal
decimal-short k x h = digits-short k x x h

-- a number of so many bits
abbrev pub Wide : ℕ → ℕ → Type 0
Wide bits x = x < 2 ^ bits

-- a space and five digits for each task
spaced-short : (n : ℕ) (list : List ℕ) → ((i : ℕ) → Wide 16 (get_or list i 0)) → length (spaced (take n list)) ≤ 6 * n
unfolding spaced ascii
spaced-short zero list wide = omega arith
spaced-short (suc n) [] wide = omega arith
spaced-short (suc n) (x ∷ list) wide =
    let first : x < 65536 = wide 0 in
    simp length-append
    (omega (arith, decimal-short 4 x (omega arith), spaced-short n list (λ i. wide (suc i))))

listed-short : (n : ℕ) (list : List ℕ) → ((i : ℕ) → Wide 16 (get_or list i 0)) → length (listed (take n list)) ≤ 2 + 6 * n
unfolding listed ascii
listed-short zero list wide = omega arith
listed-short (suc n) [] wide = omega arith
listed-short (suc n) (x ∷ list) wide = omega (arith, spaced-short (suc n) (x ∷ list) wide)

module _ (total used full count : ℕ) (list : List ℕ) (few : count ≤ max_processors)
    (total-wide : Wide 32 total) (used-wide : Wide 32 used) (full-wide : Wide 32 full) (wide : (i : ℕ) → Wide 16 (get_or list i 0)) where
  figures-short : length (figures total used full (take count list)) ≤ 443
  unfolding figures ascii
  figures-short =
      simp length-append
      (omega (
        arith,
        decimal-short 9 total (omega arith),
        decimal-short 9 used (omega arith),
        decimal-short 9 full (omega arith),
        listed-short count list wide,
      ))

  pub begin_line-short :
      (peak : Peaked)
      → Wide 64 peak.trays
      → Wide 16 peak.task
      → length (begin_line peak total used full (take count list)) ≤ longest_line
  unfolding begin_line ascii
  begin_line-short peak h h' =
      simp length-append
      (omega (
        arith,
        decimal-short 19 peak.trays (omega arith),
        decimal-short 4 peak.task (omega arith),
        figures-short,
      ))

  pub done_line-short : (j offers : ℕ)
      → Wide 16 j
      → Wide 64 offers
      → length (done_line j offers total used full (take count list)) ≤ longest_line
  unfolding done_line ascii
  done_line-short j offers h h' =
      simp length-append
      (omega (arith, decimal-short 4 j (omega arith), decimal-short 19 offers (omega arith), figures-short))

  pub places_line-short : (bound : ℕ) → Wide 32 bound → length (places_line bound total used full (take count list)) ≤ longest_line
  unfolding places_line ascii
  places_line-short bound h = simp length-append (omega (arith, decimal-short 9 bound (omega arith), figures-short))

pub refused_line-short : (k offset : ℕ) → Wide 8 k → Wide 64 offset → length (refused_line k offset) ≤ longest_line
unfolding refused_line ascii
refused_line-short k offset h h' =
    simp length-append (omega (arith, decimal-short 2 k (omega arith), decimal-short 19 offset (omega arith)))

pub fetch_line-short : (total : ℕ) → Wide 32 total → length (fetch_line total) ≤ longest_line
unfolding fetch_line ascii
fetch_line-short total h = simp length-append (omega (arith, decimal-short 9 total (omega arith)))
