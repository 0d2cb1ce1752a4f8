-- The children of a task as a list, by rising number or in another sequence.
use mathlib.Core.Path.{◌≡◌, refl, sym, ap, ◌∙◌}
use mathlib.Core.Bool.{Bool, true, false}
use mathlib.Core.List.{List, [], ◌∷◌, ◌++◌}
use mathlib.Core.Logic.{⊎_elim}
use Prim.Native.Nat.{ℕ, zero, suc}
use native.Mathlib.Omega.{arith}
use borrow.Author.Tests.{eqb-true, eq-eqb, ne_eqb}
use Rattle.numbers.specs.Sums.{Task, only}
use Rattle.numbers.specs.Lists.{mem, distinct}
use Rattle.tree.specs.Tree.{is_child, children}
use Rattle.postorders.specs.Postorder.{children_of}
use Rattle.numbers.proofs.Tests.{decide, clash, fails, same_or_not}
use Rattle.numbers.proofs.Sums.{sum-cong}
use Rattle.tree.proofs.Orders.{nobody, mem-one, mem-here, mem-both, mem-left, mem-right, every-within, distinct_snoc, sum_over, sum-members}
use Rattle.postorders.proofs.Sorting.{Permuted, Rising, rising_snoc}

-- c is a task, and i its parent
pub record Child (n : ℕ) (par : ℕ → ℕ) (i c : ℕ) : Type 0 where
  pub task : Task n c
  pub parent : par c ≡ i

-- the last task is a child, or it is not
pub children-yes :
    (n : ℕ) (par : ℕ → ℕ) (i : ℕ)
    → is_child par i (suc n) ≡ true
    → children_of (suc n) par i ≡ children_of n par i ++ suc n ∷ []
unfolding children_of
children-yes n par i e = rw (e, children_of)

pub children-no :
    (n : ℕ) (par : ℕ → ℕ) (i : ℕ) → is_child par i (suc n) ≡ false → children_of (suc n) par i ≡ children_of n par i
unfolding children_of
children-no n par i e = rw (e, children_of)

-- who stands among the children is a child
pub child-in : (n : ℕ) (par : ℕ → ℕ) (i c : ℕ) → mem c (children_of n par i) ≡ true → Child n par i c
unfolding children_of
child-in zero par i c e = absurd (nobody c e)
child-in (suc n) par i c e =
    let longer : Child n par i c → Child (suc n) par i c
    = λ k. let t = k.task in record { task = omega arith; parent = k.parent } in
    ⊎_elim
    (λ (y : is_child par i (suc n) ≡ true).
    ⊎_elim (λ f. longer (child-in n par i c f))
    (λ f. let q = mem-one c (suc n) f in record { task = rw q (omega arith); parent = rw q (eqb-true (par (suc n)) i y) })
    (mem-both c (children_of n par i) (suc n ∷ []) (sym (ap (mem c) (children-yes n par i y)) ∙ e)))
    (λ y. longer (child-in n par i c (sym (ap (mem c) (children-no n par i y)) ∙ e)))
    (decide (is_child par i (suc n)))

-- each child stands among them
child-listed : (n : ℕ) (par : ℕ → ℕ) (i c : ℕ) → Task n c → par c ≡ i → mem c (children_of n par i) ≡ true
child-listed zero par i c t q = absurd (omega arith)
child-listed (suc n) par i c t q =
    ⊎_elim
    (λ (e : c ≡ suc n).
    rw (children-yes n par i (eq-eqb (par (suc n)) i (ap par (sym e) ∙ q)))
    (mem-right c (children_of n par i) (suc n ∷ []) (mem-here c (suc n) [] e)))
    (λ d.
    let before : mem c (children_of n par i) ≡ true = child-listed n par i c (omega arith) q in
    ⊎_elim (λ y. rw (children-yes n par i y) (mem-left c (children_of n par i) (suc n ∷ []) before))
    (λ y. rw (children-no n par i y) before)
    (decide (is_child par i (suc n))))
    (same_or_not c (suc n))

-- none stands there twice
pub children-once : (n : ℕ) (par : ℕ → ℕ) (i : ℕ) → distinct (children_of n par i) ≡ true
unfolding children_of distinct
children-once zero par i = refl
children-once (suc n) par i =
    ⊎_elim
    (λ y.
    rw (children-yes n par i y)
    (distinct_snoc (children_of n par i) (suc n) (children-once n par i)
    (fails (mem (suc n) (children_of n par i)) (λ e. let t = (child-in n par i (suc n) e).task in omega arith))))
    (λ y. rw (children-no n par i y) (children-once n par i))
    (decide (is_child par i (suc n)))

-- they stand by rising number
pub children-rising : (n : ℕ) (par : ℕ → ℕ) (i : ℕ) → Rising (children_of n par i)
unfolding children_of Rising
children-rising zero par i = tt
children-rising (suc n) par i =
    ⊎_elim
    (λ y.
    rw (children-yes n par i y)
    (rising_snoc (children_of n par i) (suc n) (children-rising n par i)
    (λ c e. let t = (child-in n par i c e).task in omega arith)))
    (λ y. rw (children-no n par i y) (children-rising n par i))
    (decide (is_child par i (suc n)))

-- a list of the children: with none twice, of each child and of nobody else
pub permuted-by :
    (n : ℕ) (par : ℕ → ℕ) (i : ℕ) (cs : List ℕ)
    → distinct cs ≡ true
    → ((c : ℕ) → mem c cs ≡ true → Child n par i c)
    → ((c : ℕ) → Child n par i c → mem c cs ≡ true)
    → Permuted (children_of n par i) cs
permuted-by n par i cs once from to =
    record {
      same =
          λ c.
          ⊎_elim (λ (e : mem c cs ≡ true). let k = from c e in child-listed n par i c k.task k.parent ∙ sym e)
          (λ (e : mem c cs ≡ false).
          fails (mem c (children_of n par i)) (λ h. clash (to c (child-in n par i c h)) e) ∙ sym e)
          (decide (mem c cs));
      once = once;
    }

-- in any sequence
module _ (n : ℕ) (par : ℕ → ℕ) (i : ℕ) (cs : List ℕ) (permuted : Permuted (children_of n par i) cs) where
  pub child-of : (c : ℕ) → mem c cs ≡ true → Child n par i c
  child-of c e = child-in n par i c (permuted.same c ∙ e)

  pub child-there : (c : ℕ) → Child n par i c → mem c cs ≡ true
  child-there c k = sym (permuted.same c) ∙ child-listed n par i c k.task k.parent

  -- a sum along them is the sum over the children
  pub children-along : (f : ℕ → ℕ) → sum_over f cs ≡ children n par f i
  unfolding children
  children-along f =
      sum-members f n cs (every-within n cs (λ c e. (child-of c e).task)) permuted.once
      ∙ sum-cong (λ c. only (mem c cs) (f c)) (λ c. only (is_child par i c) (f c)) n
      (λ c t.
      ap (λ (b : Bool). only b (f c))
      (⊎_elim (λ q. child-there c (record { task = t; parent = q }) ∙ sym (eq-eqb (par c) i q))
      (λ d. fails (mem c cs) (λ e. d (child-of c e).parent) ∙ sym (ne_eqb (par c) i d))
      (same_or_not (par c) i)))
