-- The entries of a list that pass a test, in their sequence.
use mathlib.Core.Path.{◌≡◌, refl, sym, ap, ◌∙◌}
use mathlib.Core.Bool.{Bool, true, false, ◌&&◌, ◌||◌}
use mathlib.Core.Logic.{⊎_elim}
use mathlib.Core.List.{List, [], ◌∷◌, ◌++◌}
use Prim.Native.Nat.{ℕ}
use lib.Dec.{eqb}
use borrow.Author.Tests.{eq-eqb}
use Rattle.numbers.specs.Lists.{mem, distinct}
use Rattle.numbers.proofs.Tests.{decide, same_or_not, and-true, and_both, and_none}
use Rattle.tree.proofs.Orders.{mem-here, mem-later, mem-more, distinct_cons}

-- the entries that pass
unfoldable pub keep : (ℕ → Bool) → List ℕ → List ℕ
keep test [] = []
keep test (x ∷ l) = elim (test x) [ true ↦ x ∷ keep test l | false ↦ keep test l ]

pub keep-yes : (test : ℕ → Bool) (x : ℕ) (l : List ℕ) → test x ≡ true → keep test (x ∷ l) ≡ x ∷ keep test l
unfolding keep
keep-yes test x l e = rw (e, keep)

pub keep-no : (test : ℕ → Bool) (x : ℕ) (l : List ℕ) → test x ≡ false → keep test (x ∷ l) ≡ keep test l
unfolding keep
keep-no test x l e = rw (e, keep)

pub keep_append : (test : ℕ → Bool) (l m : List ℕ) → keep test (l ++ m) ≡ keep test l ++ keep test m
unfolding keep
keep_append test [] m = refl
keep_append test (x ∷ l) m =
    ⊎_elim
    (λ e.
    keep-yes test x (l ++ m) e
    ∙ ap (λ (t : List ℕ). x ∷ t) (keep_append test l m)
    ∙ sym (ap (λ (t : List ℕ). t ++ keep test m) (keep-yes test x l e)))
    (λ e.
    keep-no test x (l ++ m) e
    ∙ keep_append test l m
    ∙ sym (ap (λ (t : List ℕ). t ++ keep test m) (keep-no test x l e)))
    (decide (test x))

-- where nobody passes, where all pass, and where two tests agree
pub keep-none : (test : ℕ → Bool) (l : List ℕ) → ((x : ℕ) → mem x l ≡ true → test x ≡ false) → keep test l ≡ []
unfolding keep
keep-none test [] h = refl
keep-none test (x ∷ l) h =
    keep-no test x l (h x (mem-here x x l refl)) ∙ keep-none test l (λ y e. h y (mem-more y x l e))

pub keep_all : (test : ℕ → Bool) (l : List ℕ) → ((x : ℕ) → mem x l ≡ true → test x ≡ true) → keep test l ≡ l
unfolding keep
keep_all test [] h = refl
keep_all test (x ∷ l) h =
    keep-yes test x l (h x (mem-here x x l refl))
    ∙ ap (λ (t : List ℕ). x ∷ t) (keep_all test l (λ y e. h y (mem-more y x l e)))

pub keep_same :
    (f g : ℕ → Bool) (l : List ℕ) → ((x : ℕ) → mem x l ≡ true → f x ≡ g x) → keep f l ≡ keep g l
unfolding keep
keep_same f g [] h = refl
keep_same f g (x ∷ l) h =
    let here : f x ≡ g x = h x (mem-here x x l refl) in
    let rest : keep f l ≡ keep g l = keep_same f g l (λ y e. h y (mem-more y x l e)) in
    ⊎_elim
    (λ (e : g x ≡ true). keep-yes f x l (here ∙ e) ∙ ap (λ (t : List ℕ). x ∷ t) rest ∙ sym (keep-yes g x l e))
    (λ (e : g x ≡ false). keep-no f x l (here ∙ e) ∙ rest ∙ sym (keep-no g x l e))
    (decide (g x))

-- who is kept
mem-keep : (test : ℕ → Bool) (l : List ℕ) (k : ℕ) → mem k (keep test l) ≡ (mem k l && test k)
unfolding keep mem
mem-keep test [] k = refl
mem-keep test (x ∷ l) k =
    let rest : mem k (keep test l) ≡ (mem k l && test k) = mem-keep test l k in
    ⊎_elim
    (λ (q : k ≡ x).
    ⊎_elim
    (λ (e : test x ≡ true).
    ap (mem k) (keep-yes test x l e)
    ∙ mem-here k x (keep test l) q
    ∙ sym (rw (eq-eqb k x q) (ap test q ∙ e)))
    (λ (e : test x ≡ false).
    let no : test k ≡ false = ap test q ∙ e in
    ap (mem k) (keep-no test x l e) ∙ rest ∙ rw (no, and_none (mem k l), and_none (eqb k x || mem k l)))
    (decide (test x)))
    (λ (d : k ≡ x → ⊥).
    ⊎_elim
    (λ (e : test x ≡ true).
    ap (mem k) (keep-yes test x l e)
    ∙ mem-later k x (keep test l) d
    ∙ rest
    ∙ sym (ap (λ (t : Bool). t && test k) (mem-later k x l d)))
    (λ (e : test x ≡ false).
    ap (mem k) (keep-no test x l e) ∙ rest ∙ sym (ap (λ (t : Bool). t && test k) (mem-later k x l d)))
    (decide (test x)))
    (same_or_not k x)

-- whoever is kept stood there and passes
pub kept : (test : ℕ → Bool) (l : List ℕ) (k : ℕ) → mem k (keep test l) ≡ true → (mem k l ≡ true) × (test k ≡ true)
kept test l k e = and-true (mem k l) (test k) (sym (mem-keep test l k) ∙ e)

pub keep-in : (test : ℕ → Bool) (l : List ℕ) (k : ℕ) → mem k l ≡ true → test k ≡ true → mem k (keep test l) ≡ true
keep-in test l k m e = mem-keep test l k ∙ and_both (mem k l) (test k) m e

pub distinct-keep : (test : ℕ → Bool) (l : List ℕ) → distinct l ≡ true → distinct (keep test l) ≡ true
unfolding keep distinct
distinct-keep test [] once = refl
distinct-keep test (x ∷ l) once =
    let fresh = distinct_cons x l once in
    let rest : distinct (keep test l) ≡ true = distinct-keep test l fresh.later in
    let new : mem x (keep test l) ≡ false = mem-keep test l x ∙ ap (λ (t : Bool). t && test x) fresh.new in
    ⊎_elim
    (λ (e : test x ≡ true). ap distinct (keep-yes test x l e) ∙ rw (new, rest))
    (λ (e : test x ≡ false). ap distinct (keep-no test x l e) ∙ rest)
    (decide (test x))
