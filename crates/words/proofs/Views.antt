-- Laws of views of an array: over any view first, then over columns and parts.
use mathlib.Core.Path.{◌≡◌, refl, sym, ap, ◌∙◌}
use mathlib.Core.Logic.{⊎_elim}
use mathlib.Core.List.{List, [], ◌∷◌, ◌++◌}
use Prim.Native.Nat.{ℕ, zero, suc, ◌+◌, ◌*◌, ◌<◌}
use native.Mathlib.Numerals.{add-one}
use native.Mathlib.Omega.{arith}
use lib.ListN.{length, set, length-set}
use lib.Seq.{get_or-set_same, get_or-set_other, ext_get_or}
use Rattle.numbers.specs.Lists.{at}
use Rattle.numbers.proofs.Tests.{same_or_not}
use Rattle.words.specs.Layout.{row, rows}
use Rattle.words.specs.Views.{tabulate, view, column, part}

length-tabulate : (count : ℕ) (f : ℕ → ℕ) → length (tabulate count f) ≡ count
unfolding tabulate
length-tabulate zero f = refl
length-tabulate (suc count) f = ap suc (length-tabulate count (λ i. f (suc i)))

at-tabulate : (count : ℕ) (f : ℕ → ℕ) (i : ℕ) → i < count → at (tabulate count f) i ≡ f i
unfolding tabulate
at-tabulate zero f i h = absurd (omega arith)
at-tabulate (suc count) f zero h = refl
at-tabulate (suc count) f (suc i) h = at-tabulate count (λ k. f (suc k)) i (omega arith)

tabulate-more : (count : ℕ) (f : ℕ → ℕ) → tabulate (suc count) f ≡ tabulate count f ++ f count ∷ []
unfolding tabulate
tabulate-more zero f = refl
tabulate-more (suc count) f = ap (λ (l : List ℕ). f 0 ∷ l) (tabulate-more count (λ i. f (suc i)))

-- any view
module _ (count : ℕ) (word : ℕ → ℕ) where
  pub view-length : (w : List ℕ) → length (view count word w) ≡ count
  unfolding view
  view-length w = length-tabulate count (λ i. at w (word i))

  pub view-at : (w : List ℕ) (i q : ℕ) → i < count → q ≡ word i → at w q ≡ at (view count word w) i
  unfolding view
  view-at w i q h e = ap (at w) e ∙ sym (at-tabulate count (λ j. at w (word j)) i h)

  -- none of its words differs
  pub view-same :
      (w w' : List ℕ)
      → ((i : ℕ) → i < count → at w' (word i) ≡ at w (word i))
      → view count word w' ≡ view count word w
  view-same w w' h =
      ext_get_or 0 (view count word w') (view count word w) (view-length w' ∙ sym (view-length w))
      (λ i b.
      let l = view-length w' in
      let low : i < count = omega arith in
      sym (view-at w' i (word i) low refl) ∙ h i low ∙ view-at w i (word i) low refl)

  -- one of its words is written
  pub view-set :
      (w : List ℕ) (i q x : ℕ)
      → i < count
      → q ≡ word i
      → q < length w
      → ((j : ℕ) → word j ≡ word i → j ≡ i)
      → view count word (set w q x) ≡ set (view count word w) i x
  view-set w i q x h e b once =
      ext_get_or 0 (view count word (set w q x)) (set (view count word w) i x)
      (view-length (set w q x) ∙ sym (length-set (view count word w) i x ∙ view-length w))
      (λ j under.
      let l = view-length (set w q x) in
      let small : j < count = omega arith in
      let here = sym (view-at (set w q x) j (word j) small refl) in
      let size = view-length w in
      ⊎_elim
      (λ (d : j ≡ i).
      here
      ∙ ap (at (set w q x)) (ap word d ∙ sym e)
      ∙ get_or-set_same w q x 0 b
      ∙ sym (ap (at (set (view count word w) i x)) d ∙ get_or-set_same (view count word w) i x 0 (omega arith)))
      (λ d.
      here
      ∙ get_or-set_other w q (word j) x 0 (λ f. d (once j (f ∙ e)))
      ∙ view-at w j (word j) small refl
      ∙ sym (get_or-set_other (view count word w) i j x 0 d))
      (same_or_not j i))

  -- another word is written
  pub view-other :
      (w : List ℕ) (q x : ℕ) → ((i : ℕ) → i < count → word i ≡ q → ⊥) → view count word (set w q x) ≡ view count word w
  view-other w q x d = view-same w (set w q x) (λ i h. get_or-set_other w q (word i) x 0 (d i h))

-- a word of a column
pub column-length : (k : ℕ) (w : List ℕ) → length (column k w) ≡ rows
column-length k w = view-length rows (λ i. row * i + k) w

pub column-at : (k : ℕ) (w : List ℕ) (i : ℕ) → i < rows → at w (row * i + k) ≡ at (column k w) i
column-at k w i h = view-at rows (λ j. row * j + k) w i (row * i + k) h refl

pub column-set :
    (k : ℕ) (w : List ℕ) (i x : ℕ)
    → i < rows
    → row * i + k < length w
    → column k (set w (row * i + k) x) ≡ set (column k w) i x
column-set k w i x h b = view-set rows (λ j. row * j + k) w i (row * i + k) x h refl b (λ j f. omega arith)

-- a word of a part
pub part_length : (base count : ℕ) (w : List ℕ) → length (part base count w) ≡ count
part_length base count w = view-length count (λ i. base + i) w

pub part_at : (base count : ℕ) (w : List ℕ) (i : ℕ) → i < count → at w (base + i) ≡ at (part base count w) i
part_at base count w i h = view-at count (λ j. base + j) w i (base + i) h refl

-- one word more
pub part-more : (base count : ℕ) (w : List ℕ) → part base (count + 1) w ≡ part base count w ++ at w (base + count) ∷ []
unfolding view
part-more base count w = ap (λ (k : ℕ). part base k w) (add-one count) ∙ tabulate-more count (λ i. at w (base + i))

pub part-set :
    (base count : ℕ) (w : List ℕ) (i x : ℕ)
    → i < count
    → base + i < length w
    → part base count (set w (base + i) x) ≡ set (part base count w) i x
part-set base count w i x h b = view-set count (λ j. base + j) w i (base + i) x h refl b (λ j f. omega arith)
