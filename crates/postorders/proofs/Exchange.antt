-- Tasks taken one after another, where each has its own peak while it is taken and leaves its out behind: a sequence by falling
-- (peak less out) has the lowest cost of all.
use mathlib.Core.Path.{◌≡◌, refl, sym, ap, ◌∙◌}
use mathlib.Core.Bool.{true, false}
use mathlib.Core.List.{List, [], ◌∷◌, ◌++◌}
use mathlib.Core.Logic.{⊎_elim}
use Prim.Native.Nat.{ℕ, ◌+◌, ◌-◌, ◌≤◌, max}
use native.Mathlib.Omega.{arith}
use Rattle.numbers.specs.Lists.{mem, distinct}
use Rattle.numbers.proofs.Tests.{same_or_not}
use Rattle.tree.proofs.Orders.{mem-here, mem-later, mem-more, mem-left, mem-among, mem-split, distinct_cons, distinct-among}
use Rattle.postorders.proofs.Sorting.{ahead-falls, InSequence}

-- what a sequence of tasks takes at most, above the level at which it begins: p is the peak of each, o what it leaves
unfoldable pub cost : (p o : ℕ → ℕ) → List ℕ → ℕ
cost p o [] = 0
cost p o (c ∷ cs) = max (p c) (o c + cost p o cs)

-- two neighbours: the one that frees more of its peak goes first
exchange :
    (p o : ℕ → ℕ) (x y : ℕ) (l : List ℕ)
    → o x + p y ≤ p x + o y
    → cost p o (x ∷ y ∷ l) ≤ cost p o (y ∷ x ∷ l)
unfolding cost
exchange p o x y l h = omega arith

-- the same behind one more
cost-behind :
    (p o : ℕ → ℕ) (x : ℕ) (l m : List ℕ) → cost p o l ≤ cost p o m → cost p o (x ∷ l) ≤ cost p o (x ∷ m)
unfolding cost
cost-behind p o x l m h = omega arith

-- x goes to the front of those that have no higher key
to_front :
    (p o : ℕ → ℕ) (x : ℕ) (pre post : List ℕ)
    → ((y : ℕ) → mem y pre ≡ true → o x + p y ≤ p x + o y)
    → cost p o (x ∷ pre ++ post) ≤ cost p o (pre ++ x ∷ post)
to_front p o x [] post h = omega arith
to_front p o x (y ∷ pre) post h =
    let first : cost p o (x ∷ y ∷ pre ++ post) ≤ cost p o (y ∷ x ∷ pre ++ post)
    = exchange p o x y (pre ++ post) (h y (mem-here y y pre refl)) in
    let rest : cost p o (y ∷ x ∷ pre ++ post) ≤ cost p o (y ∷ pre ++ x ∷ post)
    = cost-behind p o y (x ∷ pre ++ post) (pre ++ x ∷ post)
    (to_front p o x pre post (λ z e. h z (mem-more z y pre e))) in
    omega arith

-- x taken out of two lists of the same tasks leaves the same
others_same :
    (x : ℕ) (l m : List ℕ)
    → mem x l ≡ false
    → mem x m ≡ false
    → ((i : ℕ) → mem i (x ∷ l) ≡ mem i (x ∷ m))
    → (i : ℕ)
    → mem i l ≡ mem i m
others_same x l m new new' same i =
    ⊎_elim (λ q. rw q (new ∙ sym new')) (λ d. sym (mem-later i x l d) ∙ same i ∙ mem-later i x m d) (same_or_not i x)

-- by falling (peak less out) is lowest
pub falling-lowest :
    (p o : ℕ → ℕ) (s m : List ℕ)
    → InSequence (λ c. p c - o c) s
    → ((c : ℕ) → mem c s ≡ true → o c ≤ p c)
    → distinct s ≡ true
    → ((i : ℕ) → mem i s ≡ mem i m)
    → distinct m ≡ true
    → cost p o s ≤ cost p o m
unfolding cost InSequence
falling-lowest p o [] m f ok once same once' = omega arith
falling-lowest p o (x ∷ s) m f ok once same once' =
    let k = mem-split x m (sym (same x) ∙ mem-here x x s refl) in
    let whole : m ≡ k.pre ++ x ∷ k.post = k.whole in
    let fresh = distinct_cons x s once in
    let fresh' = distinct_cons x (k.pre ++ k.post) (distinct-among x k.pre k.post (rw whole at once')) in
    let others : (i : ℕ) → mem i s ≡ mem i (k.pre ++ k.post)
    = others_same x s (k.pre ++ k.post) fresh.new fresh'.new
    (λ i. same i ∙ ap (mem i) whole ∙ mem-among i x k.pre k.post) in
    let rest : cost p o s ≤ cost p o (k.pre ++ k.post)
    = falling-lowest p o s (k.pre ++ k.post) f.1 (λ c e. ok c (mem-more c x s e)) fresh.later others fresh'.later in
    let behind : cost p o (x ∷ s) ≤ cost p o (x ∷ k.pre ++ k.post) = cost-behind p o x s (k.pre ++ k.post) rest in
    let front : cost p o (x ∷ k.pre ++ k.post) ≤ cost p o (k.pre ++ x ∷ k.post)
    = to_front p o x k.pre k.post
    (λ y e.
    let member : mem y s ≡ true = others y ∙ mem-left y k.pre k.post e in
    omega (arith, ahead-falls (λ c. p c - o c) x y (f.0 y member), ok y (mem-more y x s member), ok x (mem-here x x s refl))) in
    rw whole (omega arith)
