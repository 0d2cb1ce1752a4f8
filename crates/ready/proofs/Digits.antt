-- Laws of a set of places as the digits of a number.
use mathlib.Core.Path.{◌≡◌, refl, sym, ap, ◌∙◌}
use mathlib.Core.Bool.{Bool, true, false, not, cond}
use mathlib.Core.Logic.{⊎_elim}
use Prim.Native.Nat.{ℕ, zero, suc, ◌+◌, ◌*◌, ◌/◌, ◌%◌, ◌^◌, ◌≤◌, ◌<◌}
use native.Mathlib.Omega.{arith}
use lib.Bits.{bit_xor, xor_add_and}
use lib.Count.{count_trailing_zeros, under}
use Rattle.std.specs.Int.{bit_at}
use Rattle.std.proofs.lemmas.Nat.Bits.{bit_at_lowest, bit_at-suc, and_pow}
use Rattle.numbers.specs.Sums.{only}
use Rattle.numbers.proofs.Tests.{decide, le-or-lt}
use Rattle.words.specs.Digits.{digits, first_in}

-- the same places have the same number
pub digits_same :
    (count : ℕ) (f g : ℕ → Bool) → ((k : ℕ) → k < count → g k ≡ f k) → digits g count ≡ digits f count
unfolding digits
digits_same zero f g same = refl
digits_same (suc count) f g same =
    ap (λ (b : Bool). only b 1 + 2 * digits (λ k. g (suc k)) count) (same 0 (omega arith))
    ∙ ap (λ (x : ℕ). only (f 0) 1 + 2 * x)
    (digits_same count (λ k. f (suc k)) (λ k. g (suc k)) (λ k h. same (suc k) (omega arith)))

-- one place more adds its power of two
pub digits_more :
    (count j : ℕ) (f g : ℕ → Bool)
    → j < count
    → f j ≡ false
    → g j ≡ true
    → ((k : ℕ) → (k ≡ j → ⊥) → g k ≡ f k)
    → digits g count ≡ digits f count + 2 ^ j
unfolding digits
digits_more zero j f g h off on same = absurd (omega arith)
digits_more (suc count) zero f g h off on same =
    let old : only (f 0) 1 ≡ 0 = ap (λ (b : Bool). only b 1) off in
    let new : only (g 0) 1 ≡ 1 = ap (λ (b : Bool). only b 1) on in
    let rest = digits_same count (λ k. f (suc k)) (λ k. g (suc k)) (λ k _. same (suc k) (λ e. omega arith)) in
    omega arith
digits_more (suc count) (suc j) f g h off on same =
    let first : only (g 0) 1 ≡ only (f 0) 1 = ap (λ (b : Bool). only b 1) (same 0 (λ e. omega arith)) in
    let rest =
    digits_more count j (λ k. f (suc k)) (λ k. g (suc k)) (omega arith) off on
    (λ k d. same (suc k) (λ e. d (omega arith)))
    in
    omega arith

-- the digit of a place
bit_at-digits : (count j : ℕ) (f : ℕ → Bool) → j < count → bit_at (digits f count) j ≡ only (f j) 1
unfolding digits
bit_at-digits zero j f h = absurd (omega arith)
bit_at-digits (suc count) zero f h = bit_at_lowest (digits f (suc count)) ∙ lowest (f 0)
  where
    lowest : (b : Bool) → (only b 1 + 2 * digits (λ k. f (suc k)) count) % 2 ≡ only b 1
    lowest true = omega arith
    lowest false = omega arith
bit_at-digits (suc count) (suc j) f h =
    bit_at-suc (digits f (suc count)) j
    ∙ ap (λ (n : ℕ). bit_at n j) (halved (f 0))
    ∙ bit_at-digits count j (λ k. f (suc k)) (omega arith)
  where
    halved : (b : Bool) → (only b 1 + 2 * digits (λ k. f (suc k)) count) / 2 ≡ digits (λ k. f (suc k)) count
    halved true = omega arith
    halved false = omega arith

-- a place is added where it is not there, and taken where it is
pub digits-flip :
    (count j : ℕ) (f g : ℕ → Bool)
    → j < count
    → g j ≡ not (f j)
    → ((k : ℕ) → (k ≡ j → ⊥) → g k ≡ f k)
    → bit_xor (digits f count) (2 ^ j) ≡ digits g count
digits-flip count j f g h turned same =
    let x = xor_add_and (digits f count) (2 ^ j) in
    let a = and_pow (digits f count) j in
    ⊎_elim
    (λ (on : f j ≡ true).
    let b : bit_at (digits f count) j * 2 ^ j ≡ 1 * 2 ^ j =
    ap (λ (d : ℕ). d * 2 ^ j) (bit_at-digits count j f h ∙ ap (λ (t : Bool). only t 1) on)
    in
    let e = digits_more count j g f h (turned ∙ ap (λ (t : Bool). not t) on) on (λ k d. sym (same k d)) in
    omega arith)
    (λ (off : f j ≡ false).
    let b : bit_at (digits f count) j * 2 ^ j ≡ 0 * 2 ^ j =
    ap (λ (d : ℕ). d * 2 ^ j) (bit_at-digits count j f h ∙ ap (λ (t : Bool). only t 1) off)
    in
    let e = digits_more count j f g h off (turned ∙ ap (λ (t : Bool). not t) off) same in
    omega arith)
    (decide (f j))

pub digits-below : (count : ℕ) (f : ℕ → Bool) → digits f count < 2 ^ count
unfolding digits
digits-below zero f = omega arith
digits-below (suc count) f =
    let rest = digits-below count (λ k. f (suc k)) in
    let first : only (f 0) 1 ≤ 1 = low (f 0) in
    omega arith
  where
    low : (b : Bool) → only b 1 ≤ 1
    low true = omega arith
    low false = omega arith

-- no place, no digit
pub digits-none : (count : ℕ) (f : ℕ → Bool) → ((k : ℕ) → k < count → f k ≡ false) → digits f count ≡ 0
unfolding digits
digits-none zero f none = refl
digits-none (suc count) f none =
    let first : only (f 0) 1 ≡ 0 = ap (λ (b : Bool). only b 1) (none 0 (omega arith)) in
    let rest = digits-none count (λ k. f (suc k)) (λ k h. none (suc k) (omega arith)) in
    omega arith

pub digits-zero :
    (count : ℕ) (f : ℕ → Bool) → digits f count ≡ 0 → (k : ℕ) → k < count → f k ≡ false
unfolding digits
digits-zero zero f e k h = absurd (omega arith)
digits-zero (suc count) f e zero h = by-test (f 0) (omega arith)
  where
    by-test : (b : Bool) → only b 1 ≡ 0 → b ≡ false
    by-test true q = absurd (omega arith)
    by-test false q = refl
digits-zero (suc count) f e (suc k) h = digits-zero count (λ k. f (suc k)) (omega arith) k (omega arith)

-- the lowest digit is the first place
pub lowest-digit : (count : ℕ) (f : ℕ → Bool) → count_trailing_zeros count (digits f count) ≡ first_in f count
unfolding count_trailing_zeros digits first_in
lowest-digit zero f = refl
lowest-digit (suc count) f = by-test (f 0) (digits rest count) (lowest-digit count rest)
  where
    rest : ℕ → Bool
    rest k = f (suc k)

    by-test :
        (b : Bool) (d : ℕ)
        → count_trailing_zeros count d ≡ first_in rest count
        → under ((only b 1 + 2 * d) % 2) (count_trailing_zeros count ((only b 1 + 2 * d) / 2)) ≡ cond b 0 (suc (first_in rest count))
    by-test true d later =
        let odd : (1 + 2 * d) % 2 ≡ 1 = omega arith in
        ap (λ (r : ℕ). under r (count_trailing_zeros count ((1 + 2 * d) / 2))) odd
    by-test false d later =
        let even : (0 + 2 * d) % 2 ≡ 0 = omega arith in
        let half : (0 + 2 * d) / 2 ≡ d = omega arith in
        ap (λ (r : ℕ). under r (count_trailing_zeros count ((0 + 2 * d) / 2))) even
        ∙ ap (λ (x : ℕ). suc (count_trailing_zeros count x)) half
        ∙ ap suc later

-- the first place: none before it, and it is one, or there is none
pub first-is :
    (f : ℕ → Bool) (count e : ℕ)
    → e ≤ count
    → ((k : ℕ) → k < e → f k ≡ false)
    → (e < count → f e ≡ true)
    → first_in f count ≡ e
unfolding first_in
first-is f zero e h none some = omega arith
first-is f (suc count) zero h none some =
    ap (λ (b : Bool). cond b 0 (suc (first_in (λ k. f (suc k)) count))) (some (omega arith))
first-is f (suc count) (suc e) h none some =
    ap (λ (b : Bool). cond b 0 (suc (first_in (λ k. f (suc k)) count))) (none 0 (omega arith))
    ∙ ap suc (first-is (λ k. f (suc k)) count e (omega arith) (λ k l. none (suc k) (omega arith)) (λ l. some (omega arith)))

pub first-before : (f : ℕ → Bool) (count k : ℕ) → k < first_in f count → f k ≡ false
unfolding first_in
first-before f zero k h = absurd (omega arith)
first-before f (suc count) k h =
    ⊎_elim
    (λ (e : f 0 ≡ true).
    let here : first_in f (suc count) ≡ 0 = ap (λ (b : Bool). cond b 0 (suc (first_in (λ k. f (suc k)) count))) e in
    absurd (omega arith))
    (λ (e : f 0 ≡ false).
    let later : first_in f (suc count) ≡ suc (first_in (λ k. f (suc k)) count) =
    ap (λ (b : Bool). cond b 0 (suc (first_in (λ k. f (suc k)) count))) e
    in
    by_place k (omega arith) e (λ j l. first-before (λ k. f (suc k)) count j (omega arith)))
    (decide (f 0))
  where
    by_place :
        (k : ℕ)
        → k < suc (first_in (λ k. f (suc k)) count)
        → f 0 ≡ false
        → ((j : ℕ) → j < first_in (λ k. f (suc k)) count → f (suc j) ≡ false)
        → f k ≡ false
    by_place zero h e later = e
    by_place (suc j) h e later = later j (omega arith)

pub first-there : (f : ℕ → Bool) (count : ℕ) → first_in f count < count → f (first_in f count) ≡ true
unfolding first_in
first-there f zero h = absurd (omega arith)
first-there f (suc count) h = by-test (f 0) refl h (first-there (λ k. f (suc k)) count)
  where
    rest : ℕ
    rest = first_in (λ k. f (suc k)) count

    by-test :
        (b : Bool)
        → f 0 ≡ b
        → cond b 0 (suc rest) < suc count
        → (rest < count → f (suc rest) ≡ true)
        → f (cond b 0 (suc rest)) ≡ true
    by-test true e h later = e
    by-test false e h later = later (omega arith)

pub first_some : (f : ℕ → Bool) (count : ℕ) → (digits f count ≡ 0 → ⊥) → first_in f count < count
first_some f count some =
    ⊎_elim (λ (h : count ≤ first_in f count). absurd (some (digits-none count f (λ k l. first-before f count k (omega arith)))))
    (λ (h : first_in f count < count). h)
    (le-or-lt count (first_in f count))
