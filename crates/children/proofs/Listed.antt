-- Laws of the lists of children.
use mathlib.Core.Path.{◌≡◌, refl, sym, ap, ◌∙◌}
use mathlib.Core.Bool.{Bool, true, ◌||◌}
use mathlib.Core.List.{List, [], ◌∷◌, append-nil}
use mathlib.Core.Logic.{⊎_elim}
use Prim.Native.Nat.{ℕ, zero, suc, ◌+◌, ◌≤◌, ◌<◌}
use native.Mathlib.Numerals.{add-one}
use native.Mathlib.Omega.{arith}
use lib.Dec.{eqb}
use lib.ListN.{length, set, length-set, length-replicate, get_or-replicate}
use lib.Seq.{get_or-set_same, get_or-set_other}
use borrow.Author.Tests.{eq-eqb, ne_eqb}
use Rattle.numbers.specs.Lists.{at, mem, distinct}
use Rattle.numbers.specs.Limits.{max_tasks}
use Rattle.postorders.specs.Postorder.{children_of}
use Rattle.postorders.proofs.Sorting.{Permuted}
use Rattle.postorders.proofs.Siblings.{Child, children-yes, children-no, child-in, child-of}
use Rattle.numbers.proofs.Tests.{fails, same_or_not}
use Rattle.tree.proofs.Orders.{mem-among, distinct_more, every-within, length-within}
use Rattle.children.specs.Scratch.{first, sibling, cells, field}
use Rattle.children.specs.Links.{Passes}
use Rattle.children.specs.Listing.{last_first, MayList, ListedTo}
use Rattle.children.proofs.Following.{passes_same}
use Rattle.children.proofs.Walking.{Walking}

-- the last task is a child, or it is not
pub last-yes : (k : ℕ) (par : ℕ → ℕ) (i : ℕ) → par (suc k) ≡ i → last_first (suc k) par i ≡ suc k ∷ last_first k par i
unfolding last_first
last-yes k par i e = rw (eq-eqb (par (suc k)) i e, last_first)

pub last-no : (k : ℕ) (par : ℕ → ℕ) (i : ℕ) → (par (suc k) ≡ i → ⊥) → last_first (suc k) par i ≡ last_first k par i
unfolding last_first
last-no k par i d = rw (ne_eqb (par (suc k)) i d, last_first)

-- they are the children, whatever their sequence
last-same : (n : ℕ) (par : ℕ → ℕ) (i c : ℕ) → mem c (children_of n par i) ≡ mem c (last_first n par i)
unfolding children_of last_first mem
last-same zero par i c = refl
last-same (suc n) par i c =
    ⊎_elim
    (λ (y : par (suc n) ≡ i).
    ap (mem c) (children-yes n par i (eq-eqb (par (suc n)) i y))
    ∙ mem-among c (suc n) (children_of n par i) []
    ∙ ap (λ (l : List ℕ). mem c (suc n ∷ l)) (append-nil (children_of n par i))
    ∙ ap (λ (b : Bool). eqb c (suc n) || b) (last-same n par i c)
    ∙ sym (ap (mem c) (last-yes n par i y)))
    (λ d.
    ap (mem c) (children-no n par i (ne_eqb (par (suc n)) i d)) ∙ last-same n par i c ∙ sym (ap (mem c) (last-no n par i d)))
    (same_or_not (par (suc n)) i)

last-once : (n : ℕ) (par : ℕ → ℕ) (i : ℕ) → distinct (last_first n par i) ≡ true
unfolding last_first distinct
last-once zero par i = refl
last-once (suc n) par i =
    ⊎_elim
    (λ (y : par (suc n) ≡ i).
    rw (last-yes n par i y)
    (distinct_more (suc n) (last_first n par i)
    (fails (mem (suc n) (last_first n par i))
    (λ m. let t = (child-in n par i (suc n) (last-same n par i (suc n) ∙ m)).task in omega arith))
    (last-once n par i)))
    (λ d. rw (last-no n par i d) (last-once n par i))
    (same_or_not (par (suc n)) i)

pub last-permuted : (n : ℕ) (par : ℕ → ℕ) (i : ℕ) → Permuted (children_of n par i) (last_first n par i)
last-permuted n par i = record { same = last-same n par i; once = last-once n par i }

-- who stands there is a child
pub last-in : (n : ℕ) (par : ℕ → ℕ) (i c : ℕ) → mem c (last_first n par i) ≡ true → Child n par i c
last-in n par i = child-of n par i (last_first n par i) (last-permuted n par i)

-- a walk over them
pub last-walk :
    (n : ℕ) (par : ℕ → ℕ) (w : List ℕ) (i : ℕ)
    → n ≤ max_tasks
    → Passes (field sibling w) (field first w i) (last_first n par i) 0
    → Walking w (field first w i) (last_first n par i)
last-walk n par w i small list =
    let few = length-within n (last_first n par i) (every-within n (last_first n par i) (λ x m. (last-in n par i x m).task)) (last-once n par i) in
    record {
      left = list;
      task = λ x m. let t = (last-in n par i x m).task in omega arith;
      few = omega arith;
    }

-- no list has a task
pub listed-none : (n : ℕ) (par : ℕ → ℕ) (w : List ℕ) → MayList n par w → ListedTo n 0 par w
unfolding last_first Passes
listed-none n par w may =
    record {
      long = ap length may.empty ∙ length-replicate {A = ℕ} cells 0;
      lists = λ p h.
          (let small = may.parented.small in
          ap (λ (l : List ℕ). at l (first + p)) may.empty ∙ get_or-replicate {A = ℕ} cells (first + p) 0 0 (omega arith));
    }

-- a child at the front of its parent's list
module _ (n k : ℕ) (par : ℕ → ℕ) (w : List ℕ) (small : n ≤ max_tasks) (h : k < n) (to : ListedTo n k par w) where
  module _ (p : ℕ) (inside : p ≤ n) (w' : List ℕ)
      (e : w' ≡ set (set w (sibling + (k + 1)) (at w (first + p))) (first + p) (k + 1)) where
    sized : length (set w (sibling + (k + 1)) (at w (first + p))) ≡ cells
    sized = length-set w (sibling + (k + 1)) (at w (first + p)) ∙ to.long

    -- the links of those that stand there already
    old-link : (x : ℕ) → x ≤ k → field sibling w' x ≡ field sibling w x
    old-link x low =
        ap (λ (l : List ℕ). at l (sibling + x)) e
        ∙ get_or-set_other (set w (sibling + (k + 1)) (at w (first + p))) (first + p) (sibling + x) (k + 1) 0 (λ q. omega arith)
        ∙ get_or-set_other w (sibling + (k + 1)) (sibling + x) (at w (first + p)) 0 (λ q. omega arith)

    new-link : field sibling w' (k + 1) ≡ field first w p
    new-link =
        let long = to.long in
        ap (λ (l : List ℕ). at l (sibling + (k + 1))) e
        ∙ get_or-set_other (set w (sibling + (k + 1)) (at w (first + p))) (first + p) (sibling + (k + 1)) (k + 1) 0 (λ q. omega arith)
        ∙ get_or-set_same w (sibling + (k + 1)) (at w (first + p)) 0 (omega arith)

    old-first : (q : ℕ) → q ≤ n → (q ≡ p → ⊥) → field first w' q ≡ field first w q
    old-first q low d =
        ap (λ (l : List ℕ). at l (first + q)) e
        ∙ get_or-set_other (set w (sibling + (k + 1)) (at w (first + p))) (first + p) (first + q) (k + 1) 0 (λ z. d (omega arith))
        ∙ get_or-set_other w (sibling + (k + 1)) (first + q) (at w (first + p)) 0 (λ z. omega arith)

    new-first : field first w' p ≡ k + 1
    new-first =
        let long = sized in
        ap (λ (l : List ℕ). at l (first + p)) e
        ∙ get_or-set_same (set w (sibling + (k + 1)) (at w (first + p))) (first + p) (k + 1) 0 (omega arith)

    old-list : (q : ℕ) → q ≤ n → Passes (field sibling w') (field first w q) (last_first k par q) 0
    old-list q low =
        passes_same (field sibling w) (field sibling w') (field first w q) (last_first k par q) 0
        (λ x m. old-link x (last-in k par q x m).task.high) (to.lists q low)

    pub listed_next : p ≡ par (k + 1) → ListedTo n (k + 1) par w'
    unfolding Passes
    listed_next q =
        record {
          long = ap length e ∙ length-set (set w (sibling + (k + 1)) (at w (first + p))) (first + p) (k + 1) ∙ sized;
          lists = λ i low.
              ⊎_elim
              (λ (y : i ≡ p).
              let list : last_first (k + 1) par i ≡ (k + 1) ∷ last_first k par i
              = rw (add-one k) (last-yes k par i (rw (add-one k) at (sym q ∙ sym y))) in
              rw list (ap (field first w') y ∙ new-first, rw (new-link, ← y) (old-list i low)))
              (λ (d : i ≡ p → ⊥).
              let list : last_first (k + 1) par i ≡ last_first k par i
              = rw (add-one k) (last-no k par i (λ z. d (sym z ∙ ap par (sym (add-one k)) ∙ sym q))) in
              rw (list, old-first i low d) (old-list i low))
              (same_or_not i p);
        }
