-- The lists of some entries, one after another.
use mathlib.Core.Path.{◌≡◌, refl, sym, ap, ◌∙◌}
use mathlib.Core.Bool.{true}
use mathlib.Core.List.{List, [], ◌∷◌, ◌++◌, flat_map, append_assoc}
use mathlib.Core.Logic.{⊎_elim}
use Prim.Native.Nat.{ℕ}
use Rattle.numbers.specs.Lists.{mem}
use Rattle.numbers.proofs.Tests.{same_or_not}
use Rattle.tree.proofs.Orders.{nobody, mem-here, mem-more, mem-rest, mem-left, mem-right}

-- those of some, and of others behind them
pub flatMap-append : {A : Type 0} (f : A → List ℕ) (l m : List A) → flat_map f (l ++ m) ≡ flat_map f l ++ flat_map f m
unfolding flat_map
flatMap-append f [] m = refl
flatMap-append f (x ∷ l) m =
    ap (λ (t : List ℕ). f x ++ t) (flatMap-append f l m) ∙ sym (append_assoc (f x) (flat_map f l) (flat_map f m))

-- equal lists
pub flatMap-cong :
    (f g : ℕ → List ℕ) (l : List ℕ)
    → ((x : ℕ) → mem x l ≡ true → f x ≡ g x)
    → flat_map f l ≡ flat_map g l
unfolding flat_map
flatMap-cong f g [] h = refl
flatMap-cong f g (x ∷ l) h =
    ap (λ (t : List ℕ). t ++ flat_map f l) (h x (mem-here x x l refl))
    ∙ ap (λ (t : List ℕ). g x ++ t) (flatMap-cong f g l (λ y e. h y (mem-more y x l e)))

-- whoever stands in one of them
pub mem-flatMap : (f : ℕ → List ℕ) (l : List ℕ) (x y : ℕ) → mem x l ≡ true → mem y (f x) ≡ true → mem y (flat_map f l) ≡ true
unfolding flat_map
mem-flatMap f [] x y e h = absurd (nobody x e)
mem-flatMap f (z ∷ l) x y e h =
    ⊎_elim (λ (q : x ≡ z). mem-left y (f z) (flat_map f l) (ap (λ (k : ℕ). mem y (f k)) (sym q) ∙ h))
    (λ d. mem-right y (f z) (flat_map f l) (mem-flatMap f l x y (mem-rest x z l e d) h)) (same_or_not x z)
