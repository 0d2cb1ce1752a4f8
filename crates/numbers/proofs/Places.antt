-- Where the entries of a list stand.
use mathlib.Core.Path.{◌≡◌, sym, ap}
use mathlib.Core.List.{List, [], ◌∷◌, ◌++◌}
use Prim.Native.Nat.{ℕ, suc}
use native.Mathlib.Omega.{arith}
use lib.ListN.{length}

-- nothing stands in no list
pub nowhere : {A : Type 0} (earlier : List A) (x : A) (later : List A) → [] ≡ earlier ++ x ∷ later → ⊥
nowhere [] x later e = let z : 0 ≡ suc (length later) = ap length e in omega arith
nowhere (y ∷ earlier) x later e = let z : 0 ≡ suc (length (earlier ++ x ∷ later)) = ap length e in omega arith

-- two entries of a list stand at the same place, or one ahead of the other
pub data TwoPlaces (earlier earlier' : List ℕ) (x x' : ℕ) : Type 0 where
  same : x ≡ x' → TwoPlaces earlier earlier' x x'
  ahead : (post : List ℕ) → earlier' ≡ earlier ++ x ∷ post → TwoPlaces earlier earlier' x x'
  behind : (post : List ℕ) → earlier ≡ earlier' ++ x' ∷ post → TwoPlaces earlier earlier' x x'

pub two-places :
    (earlier earlier' later later' : List ℕ) (x x' : ℕ)
    → earlier ++ x ∷ later ≡ earlier' ++ x' ∷ later'
    → TwoPlaces earlier earlier' x x'
two-places [] [] later later' x x' e = same cc
two-places [] (y ∷ earlier') later later' x x' e = ahead earlier' (let h : x ≡ y = cc in ap (λ (v : ℕ). v ∷ earlier') (sym h))
two-places (y ∷ earlier) [] later later' x x' e = behind earlier (let h : y ≡ x' = cc in ap (λ (v : ℕ). v ∷ earlier) h)
two-places (y ∷ earlier) (z ∷ earlier') later later' x x' e =
    let head : y ≡ z = cc in
    let tail : earlier ++ x ∷ later ≡ earlier' ++ x' ∷ later' = cc in
    go head (two-places earlier earlier' later later' x x' tail)
  where
    go : y ≡ z → TwoPlaces earlier earlier' x x' → TwoPlaces (y ∷ earlier) (z ∷ earlier') x x'
    go h (same q) = same q
    go h (ahead post q) = ahead post (let r : z ∷ earlier' ≡ y ∷ (earlier ++ x ∷ post) = cc in r)
    go h (behind post q) = behind post (let r : y ∷ earlier ≡ z ∷ (earlier' ++ x' ∷ post) = cc in r)
