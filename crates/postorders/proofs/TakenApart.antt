-- A valid order taken apart at one of its tasks: who stands behind it, and whom it stands above.
use mathlib.Core.Path.{◌≡◌, refl, sym, ap, ◌∙◌}
use mathlib.Core.Bool.{Bool, true, false, ◌||◌}
use mathlib.Core.Logic.{⊎_elim}
use mathlib.Core.List.{List, [], ◌∷◌, ◌++◌, append_assoc}
use Prim.Native.Nat.{ℕ, suc, ◌+◌, ◌≤◌, ◌<◌}
use native.Mathlib.Omega.{arith}
use lib.ListN.{length, get_or, length-append, get_or-append}
use lib.Seq.{get_or-append_seam, get_or-append-add}
use Rattle.numbers.specs.Sums.{Task}
use Rattle.numbers.specs.Lists.{mem, distinct, place}
use Rattle.tree.specs.Tree.{Valid, Tree, up, rank_in}
use Rattle.postorders.specs.FindHolds.{Together}
use Rattle.numbers.proofs.Tests.{decide, fails}
use Rattle.tree.proofs.Orders.{mem-here, mem-more, mem-rest, mem-append, mem-right, distinct_cons, Apart, distinct_append, place-lt, place_at, place-ahead}
use Rattle.tree.proofs.Ranks.{stands, member-task, entry}
use Rattle.tree.proofs.Tree.{up-rank, up-self}

module _ (n : ℕ) (par : ℕ → ℕ) (order : List ℕ) (valid : Valid n par order) where
  -- the order taken apart at x
  module _ (pre : List ℕ) (x : ℕ) (s : List ℕ) (e : order ≡ pre ++ x ∷ s) where
    -- none stands twice
    apart : Apart pre (x ∷ s)
    apart = distinct_append pre (x ∷ s) (rw e at valid.once)

    pub not_behind : mem x s ≡ false
    not_behind = (distinct_cons x s apart.second).new

    pub once-behind : distinct s ≡ true
    once-behind = (distinct_cons x s apart.second).later

    -- whoever stands behind x is a task
    pub task-behind : (y : ℕ) → mem y s ≡ true → Task n y
    task-behind y m = member-task n par order valid y (ap (mem y) e ∙ mem-right y pre (x ∷ s) (mem-more y x s m))

    -- and has a later place
    place-behind : (y : ℕ) → mem y s ≡ true → place x order < place y order
    place-behind y m =
        let whole : order ≡ (pre ++ x ∷ []) ++ s = e ∙ sym (append_assoc pre (x ∷ []) s) in
        rw whole
        (place-ahead (pre ++ x ∷ []) s x y (rw whole at valid.once) (mem-right x pre (x ∷ []) (mem-here x x [] refl)) m)

    -- whoever stands in front of x has an earlier one
    place-front : (y : ℕ) → mem y pre ≡ true → place y order < place x order
    place-front y m = rw e (place-ahead pre (x ∷ s) y x (rw e at valid.once) m (mem-here x x s refl))

module _ (n : ℕ) (par : ℕ → ℕ) (order : List ℕ) (valid : Valid n par order) (tree : Tree n par (rank_in order)) where
  module _ (pre : List ℕ) (x : ℕ) (s : List ℕ) (e : order ≡ pre ++ x ∷ s) where
    -- whoever stands behind x is not below it
    pub behind-not-below : (y : ℕ) → mem y s ≡ true → up n par x y ≡ false
    behind-not-below y m =
        fails (up n par x y)
        (λ h.
        let r : place y order ≤ place x order = (up-rank n par (rank_in order) tree x y (task-behind n par order valid pre x s e y m) h).1 in
        let q = place-behind n par order valid pre x s e y m in
        omega arith)

    -- whoever stands above x stands behind it
    pub above-behind : (c : ℕ) → up n par c x ≡ true → (c ≡ x → ⊥) → mem c s ≡ true
    above-behind c h d =
        let a = up-rank n par (rank_in order) tree c x (entry n par order valid pre x s e) h in
        let r : place x order ≤ place c order = a.1 in
        let m : mem c order ≡ true = stands n par order valid c a.0 in
        ⊎_elim (λ (f : mem c pre ≡ true). let q = place-front n par order valid pre x s e c f in absurd (omega arith))
        (λ (f : mem c pre ≡ false).
        mem-rest c x s
        (sym (ap (mem c) e ∙ mem-append c pre (x ∷ s) ∙ ap (λ (t : Bool). t || mem c (x ∷ s)) f) ∙ m)
        d)
        (decide (mem c pre))

    -- between x and one above it stand only tasks of the subtree of that one
    pub between :
        (together : Together n par order) (c : ℕ) (m t : List ℕ)
        → s ≡ m ++ c ∷ t
        → Task n c
        → up n par c x ≡ true
        → (y : ℕ)
        → mem y m ≡ true
        → up n par c y ≡ true
    between together c m t f u h y k =
        let rest : List ℕ = m ++ c ∷ t in
        let whole : order ≡ pre ++ x ∷ rest = e ∙ ap (λ (l : List ℕ). pre ++ x ∷ l) f in
        let p : place y m < length m = place-lt y m k in
        let at_x : get_or order (length pre) 0 ≡ x
        = ap (λ (l : List ℕ). get_or l (length pre) 0) whole ∙ get_or-append_seam pre x rest 0 in
        let at_y : get_or order (length pre + suc (place y m)) 0 ≡ y
        = ap (λ (l : List ℕ). get_or l (length pre + suc (place y m)) 0) whole
        ∙ get_or-append-add pre (x ∷ rest) (suc (place y m)) 0
        ∙ get_or-append m (c ∷ t) 0 (place y m) p
        ∙ place_at y m k in
        let at_c : get_or order (length pre + suc (length m)) 0 ≡ c
        = ap (λ (l : List ℕ). get_or l (length pre + suc (length m)) 0) whole
        ∙ get_or-append-add pre (x ∷ rest) (suc (length m)) 0
        ∙ get_or-append_seam m c t 0 in
        let long : length order ≡ length pre + suc (length m + suc (length t))
        = ap length whole ∙ length-append pre (x ∷ rest) ∙ ap (λ (z : ℕ). length pre + suc z) (length-append m (c ∷ t)) in
        sym (ap (λ (z : ℕ). up n par c z) at_y)
        ∙ together c (length pre) (length pre + suc (place y m)) (length pre + suc (length m)) u (omega arith) (omega arith)
        (omega arith)
        (ap (λ (z : ℕ). up n par c z) at_x ∙ h)
        (ap (λ (z : ℕ). up n par c z) at_c ∙ up-self n par (rank_in order) tree c u)
