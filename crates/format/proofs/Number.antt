-- Numbers in bytes, lowest byte first: laws over the width, and over the widths of several numbers.
use mathlib.Core.Path.{◌≡◌, refl, sym, ap, ◌∙◌}
use mathlib.Core.List.{List, [], ◌∷◌, ◌++◌, append_assoc}
use Prim.Native.Nat.{ℕ, zero, suc, ◌+◌, ◌*◌, ◌/◌, ◌%◌, ◌^◌, ◌≤◌, ◌<◌}
use native.Mathlib.Nat.{zero-add, suc-add, one-mul, mul_comm, mul_assoc, pow-suc}
use native.Mathlib.Numerals.{one-add}
use native.Mathlib.Omega.{arith}
use lib.ListN.{length, take, drop, length-append, length-drop}
use lib.Seq.{drop-drop, drop-append_seam, drop-append-le, get_or-drop, take-add}
use Rattle.numbers.specs.Lists.{at, AllBytes}
use Rattle.format.specs.Command.{little, number, littles, numbers, room}

-- the bytes of a number give it back where it fits them
pub number-little : (width x : ℕ) (rest : List ℕ) → x < 256 ^ width → number width (little width x ++ rest) ≡ x
unfolding little number
number-little zero x rest h = omega arith
number-little (suc width) x rest h =
    rw (number-little width (x / 256) rest (omega (arith, rw pow-suc at h))) (omega arith)

-- they are as many as the width says
pub length-little : (width x : ℕ) → length (little width x) ≡ width
unfolding little
length-little zero x = refl
length-little (suc width) x = ap suc (length-little width (x / 256))

-- a number in `low` bytes and `high` bytes after them
pub number-join :
    (low high : ℕ) (given : List ℕ)
    → number (low + high) given ≡ number low given + 256 ^ low * number high (drop low given)
unfolding number
number-join zero high given = simp (zero-add, one-mul)
number-join (suc low) high given =
    rw (suc-add, number-join low high (drop 1 given), drop-drop, one-add, pow-suc, mul_comm (256 ^ low) 256, mul_assoc)
    (omega arith)

-- the first bytes of a list are the bytes of the number in them
pub little-number :
    (width : ℕ) (given : List ℕ) → width ≤ length given → AllBytes given → little width (number width given) ≡ take width given
unfolding little number
little-number zero given h all = refl
little-number (suc width) [] h all = absurd (omega arith)
little-number (suc width) (x ∷ given) h all =
    let byte = all 0 in
    let rest : (x + 256 * number width given) / 256 ≡ number width given = omega arith in
    let low : (x + 256 * number width given) % 256 ≡ x = omega arith in
    rw (low, rest, little-number width given (omega arith) (λ k. all (suc k)))

-- a number in bytes fits them
pub number_fits : (width : ℕ) (given : List ℕ) → AllBytes given → number width given < 256 ^ width
unfolding number
number_fits zero given all = omega arith
number_fits (suc width) given all =
    let rest = number_fits width (drop 1 given) (λ k. rw get_or-drop (all (1 + k))) in
    let byte = all 0 in
    rw pow-suc (omega arith)

-- what has not come yet does not count
pub number_more : (width : ℕ) (given after : List ℕ) → width ≤ length given → number width (given ++ after) ≡ number width given
unfolding number
number_more zero given after h = refl
number_more (suc width) [] after h = absurd (omega arith)
number_more (suc width) (x ∷ given) after h = rw (number_more width given after (omega arith))

-- numbers that fit these widths, one for each
abbrev pub Fit : List ℕ → List ℕ → Type 0
Fit [] [] = Unit {0}
Fit [] (x ∷ later) = ⊥
Fit (width ∷ widths) [] = ⊥
Fit (width ∷ widths) (x ∷ later) = (x < 256 ^ width) × Fit widths later

pub numbers_fit : (widths given : List ℕ) → AllBytes given → Fit widths (numbers widths given)
unfolding numbers
numbers_fit [] given all = tt
numbers_fit (width ∷ widths) given all =
    (number_fits width given all, numbers_fit widths (drop width given) (λ k. rw get_or-drop (all (width + k))))

pub numbers-littles : (widths x rest : List ℕ) → Fit widths x → numbers widths (littles widths x ++ rest) ≡ x
unfolding numbers littles
numbers-littles [] [] rest h = refl
numbers-littles [] (x ∷ later) rest h = elim h [ ]
numbers-littles (width ∷ widths) [] rest h = elim h [ ]
numbers-littles (width ∷ widths) (x ∷ later) rest h =
    let more = littles widths later ++ rest in
    rw (append_assoc (little width x) (littles widths later) rest, number-little width x more h.0)
    (ap (λ (l : List ℕ). x ∷ numbers widths l) (past width x more) ∙ ap (λ (l : List ℕ). x ∷ l) (numbers-littles widths later rest h.1))
  where
    past : (width x : ℕ) (more : List ℕ) → drop width (little width x ++ more) ≡ more
    past width x more =
        ap (λ (k : ℕ). drop k (little width x ++ more)) (sym (length-little width x)) ∙ drop-append_seam (little width x) more

pub length-littles : (widths x : List ℕ) → length (littles widths x) ≡ room widths
unfolding littles room
length-littles [] x = refl
length-littles (width ∷ widths) x =
    rw (length-append (little width (at x 0)) (littles widths (drop 1 x)), length-little, length-littles widths (drop 1 x))

pub length-numbers : (widths given : List ℕ) → length (numbers widths given) ≡ length widths
unfolding numbers
length-numbers [] given = refl
length-numbers (width ∷ widths) given = ap suc (length-numbers widths (drop width given))

pub littles-numbers :
    (widths given : List ℕ) → room widths ≤ length given → AllBytes given → littles widths (numbers widths given) ≡ take (room widths) given
unfolding littles numbers room
littles-numbers [] given h all = refl
littles-numbers (width ∷ widths) given h all =
    rw (
      little-number width given (omega arith) all,
      littles-numbers widths (drop width given) (omega (arith, length-drop width given)) (λ k. rw get_or-drop (all (width + k))),
      take-add,
    )

pub numbers_more :
    (widths given after : List ℕ) → room widths ≤ length given → numbers widths (given ++ after) ≡ numbers widths given
unfolding numbers room
numbers_more [] given after h = refl
numbers_more (width ∷ widths) given after h =
    rw (
      number_more width given after (omega arith),
      drop-append-le width given after (omega arith),
      numbers_more widths (drop width given) after (omega (arith, length-drop width given)),
    )
