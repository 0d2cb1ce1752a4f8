-- In an order in which each subtree stands together, what is below a task falls apart into the subtrees of its children.
use mathlib.Core.Path.{◌≡◌, refl, sym, ap, ◌∙◌}
use mathlib.Core.Bool.{true, false}
use mathlib.Core.Logic.{⊎_elim}
use mathlib.Core.List.{List, [], ◌∷◌, ◌++◌, flat_map, append_assoc, append-nil}
use Prim.Native.Nat.{ℕ}
use borrow.Author.Tests.{eqb-true, eq-eqb}
use Rattle.numbers.specs.Sums.{Task}
use Rattle.numbers.specs.Lists.{mem}
use Rattle.tree.specs.Tree.{is_child, Valid, rank_in, Tree, up}
use Rattle.postorders.specs.FindHolds.{Together}
use Rattle.numbers.proofs.Tests.{decide, clash, fails, same_or_not}
use Rattle.tree.proofs.Orders.{mem-here, mem-more, mem-rest, mem-left, mem-right, mem-other, mem-split, distinct_cons, Apart, distinct_append, new-behind}
use Rattle.tree.proofs.Ranks.{stands, member-task, entry}
use Rattle.tree.proofs.Tree.{up-self, up-parent, not-above-itself}
use Rattle.postorders.proofs.Nested.{child-towards, siblings, one-child, below-parent, up_above}
use Rattle.postorders.proofs.Keeping.{keep, keep-yes, keep-no, keep_append, keep-none, keep_same, kept}
use Rattle.tree.proofs.Concatenated.{flatMap-cong}
use Rattle.postorders.proofs.TakenApart.{not_behind, once-behind, task-behind, behind-not-below, above-behind, between}

-- of a list: the tasks of the subtree of c, the tasks below i, and the children of i
abbrev pub subtree_in : (n : ℕ) (par : ℕ → ℕ) → List ℕ → ℕ → List ℕ
subtree_in n par l c = keep (λ k. up n par c k) l

abbrev pub below_in : (n : ℕ) (par : ℕ → ℕ) → List ℕ → ℕ → List ℕ
below_in n par l i = keep (λ k. up n par i (par k)) l

abbrev pub children_in : (par : ℕ → ℕ) → List ℕ → ℕ → List ℕ
children_in par l i = keep (is_child par i) l

module _ (n : ℕ) (par : ℕ → ℕ) (order : List ℕ) (valid : Valid n par order) (tree : Tree n par (rank_in order))
    (together : Together n par order) (i : ℕ) (task : Task n i) where
  -- a child of i is below it
  child-below : (x : ℕ) → is_child par i x ≡ true → up n par i (par x) ≡ true
  child-below x e = ap (λ (z : ℕ). up n par i z) (eqb-true (par x) i e) ∙ up-self n par (rank_in order) tree i task

  -- at x, once it is so behind it
  module _ (pre : List ℕ) (x : ℕ) (s : List ℕ) (e : order ≡ pre ++ x ∷ s)
      (rest : below_in n par s i ≡ flat_map (subtree_in n par s) (children_in par s i)) where
    -- in a subtree in which x does not stand nothing changes
    others :
        (l : List ℕ)
        → ((c : ℕ) → mem c l ≡ true → up n par c x ≡ false)
        → flat_map (subtree_in n par s) l ≡ flat_map (subtree_in n par (x ∷ s)) l
    others l h =
        flatMap-cong (subtree_in n par s) (subtree_in n par (x ∷ s)) l
        (λ c m. sym (keep-no (λ k. up n par c k) x s (h c m)))

    -- two children of i above x are one
    same-child : (c d : ℕ) → Task n c → Task n d → par c ≡ i → par d ≡ i → up n par c x ≡ true → up n par d x ≡ true → c ≡ d
    same-child c d u v p q =
        one-child n par (rank_in order) tree c d x u v (entry n par order valid pre x s e) (p ∙ sym q)

    -- x is not below i
    group-skip :
        up n par i (par x) ≡ false
        → below_in n par (x ∷ s) i ≡ flat_map (subtree_in n par (x ∷ s)) (children_in par (x ∷ s) i)
    group-skip b =
        let no : is_child par i x ≡ false = fails (is_child par i x) (λ c. clash (child-below x c) b) in
        keep-no (λ k. up n par i (par k)) x s b
        ∙ rest
        ∙ others (children_in par s i)
        (λ c m.
        let k = kept (is_child par i) s c m in
        fails (up n par c x)
        (λ h.
        clash
        (below-parent n par (rank_in order) tree i c x task (task-behind n par order valid pre x s e c k.0)
        (entry n par order valid pre x s e) (eqb-true (par c) i k.1) h)
        b))
        ∙ ap (flat_map (subtree_in n par (x ∷ s))) (sym (keep-no (is_child par i) x s no))

    -- x is a child of i
    group-child :
        is_child par i x ≡ true
        → below_in n par (x ∷ s) i ≡ flat_map (subtree_in n par (x ∷ s)) (children_in par (x ∷ s) i)
    unfolding flat_map
    group-child c =
        let t = entry n par order valid pre x s e in
        let q : par x ≡ i = eqb-true (par x) i c in
        let alone : subtree_in n par (x ∷ s) x ≡ x ∷ []
        = keep-yes (λ k. up n par x k) x s (up-self n par (rank_in order) tree x t)
        ∙ ap (λ (l : List ℕ). x ∷ l) (keep-none (λ k. up n par x k) s (behind-not-below n par order valid tree pre x s e)) in
        keep-yes (λ k. up n par i (par k)) x s (child-below x c)
        ∙ ap (λ (l : List ℕ). x ∷ l)
        (rest
        ∙ others (children_in par s i)
        (λ d m.
        let k = kept (is_child par i) s d m in
        fails (up n par d x)
        (λ h.
        mem-other d x s k.0 (not_behind n par order valid pre x s e)
        (same-child d x (task-behind n par order valid pre x s e d k.0) t (eqb-true (par d) i k.1) q h
        (up-self n par (rank_in order) tree x t)))))
        ∙ sym (ap (λ (l : List ℕ). l ++ flat_map (subtree_in n par (x ∷ s)) (children_in par s i)) alone)
        ∙ sym (ap (flat_map (subtree_in n par (x ∷ s))) (keep-yes (is_child par i) x s c))

    -- x is in the subtree of a child c of i that stands behind it
    module _ (c : ℕ) (u : Task n c) (p : par c ≡ i) (h : up n par c x ≡ true) (m later : List ℕ) (whole : s ≡ m ++ c ∷ later) where
      parts : Apart m (c ∷ later)
      parts = distinct_append m (c ∷ later) (rw whole at (once-behind n par order valid pre x s e))

      -- c is the first child of i behind x
      first-child : children_in par s i ≡ c ∷ children_in par later i
      first-child =
          ap (λ (l : List ℕ). children_in par l i) whole
          ∙ keep_append (is_child par i) m (c ∷ later)
          ∙ ap (λ (l : List ℕ). l ++ children_in par (c ∷ later) i)
          (keep-none (is_child par i) m
          (λ y k.
          fails (is_child par i y)
          (λ f.
          let v = task-behind n par order valid pre x s e y
          (ap (mem y) whole ∙ mem-left y m (c ∷ later) k) in
          let q : c ≡ y
          = siblings n par (rank_in order) tree c y u v (p ∙ sym (eqb-true (par y) i f))
          (between n par order valid tree pre x s e together c m later whole u h y k) in
          clash (mem-here y c later (sym q)) (parts.apart y k))))
          ∙ keep-yes (is_child par i) c later (eq-eqb (par c) i p)

      -- x is in the subtree of no later one
      later-children : (d : ℕ) → mem d (children_in par later i) ≡ true → up n par d x ≡ false
      later-children d k =
          let f = kept (is_child par i) later d k in
          let v = task-behind n par order valid pre x s e d
          (ap (mem d) whole ∙ mem-right d m (c ∷ later) (mem-more d c later f.0)) in
          fails (up n par d x)
          (λ g.
          mem-other d c later f.0 (distinct_cons c later parts.second).new
          (same-child d c v u (eqb-true (par d) i f.1) p g h))

      group-more :
          (c ≡ x → ⊥)
          → below_in n par (x ∷ s) i ≡ flat_map (subtree_in n par (x ∷ s)) (children_in par (x ∷ s) i)
      unfolding flat_map
      group-more d =
          let t = entry n par order valid pre x s e in
          let no : is_child par i x ≡ false
          = fails (is_child par i x) (λ f. d (siblings n par (rank_in order) tree c x u t (p ∙ sym (eqb-true (par x) i f)) h)) in
          keep-yes (λ k. up n par i (par k)) x s (below-parent n par (rank_in order) tree i c x task u t p h)
          ∙ ap (λ (l : List ℕ). x ∷ l) (rest ∙ ap (flat_map (subtree_in n par s)) first-child)
          ∙ ap (λ (l : List ℕ). x ∷ (subtree_in n par s c ++ l)) (others (children_in par later i) later-children)
          ∙ sym
          (ap (λ (l : List ℕ). l ++ flat_map (subtree_in n par (x ∷ s)) (children_in par later i))
          (keep-yes (λ k. up n par c k) x s h))
          ∙ sym (ap (flat_map (subtree_in n par (x ∷ s))) first-child)
          ∙ sym (ap (flat_map (subtree_in n par (x ∷ s))) (keep-no (is_child par i) x s no))

  -- what is below i falls apart into the subtrees of its children, from any place of the order on
  pub groups :
      (pre s : List ℕ)
      → order ≡ pre ++ s
      → below_in n par s i ≡ flat_map (subtree_in n par s) (children_in par s i)
  unfolding keep flat_map
  groups pre [] e = refl
  groups pre (x ∷ s) e =
      let rest = groups (pre ++ x ∷ []) s (e ∙ sym (append_assoc pre (x ∷ []) s)) in
      ⊎_elim
      (λ (b : up n par i (par x) ≡ true).
      let c = child-towards n par (rank_in order) tree i x (entry n par order valid pre x s e) b in
      ⊎_elim
      (λ (q : c.child ≡ x). group-child pre x s e rest (eq-eqb (par x) i (ap par (sym q) ∙ c.parent)))
      (λ (d : c.child ≡ x → ⊥).
      let split = mem-split c.child s (above-behind n par order valid tree pre x s e c.child c.above d) in
      group-more pre x s e rest c.child c.task c.parent c.above split.pre split.post split.whole d)
      (same_or_not c.child x))
      (λ (b : up n par i (par x) ≡ false). group-skip pre x s e rest b)
      (decide (up n par i (par x)))

module _ (n : ℕ) (par : ℕ → ℕ) (order : List ℕ) (valid : Valid n par order) (tree : Tree n par (rank_in order)) (i : ℕ) (task : Task n i) where
  -- the order taken apart at i
  module _ (pre s : List ℕ) (e : order ≡ pre ++ i ∷ s) where
    -- nobody from i on is below it, and in front of i those of its subtree are
    none_below : (y : ℕ) → mem y (i ∷ s) ≡ true → up n par i (par y) ≡ false
    none_below y k =
        ⊎_elim (λ q. ap (λ (z : ℕ). up n par i (par z)) q ∙ not-above-itself n par (rank_in order) tree i task)
        (λ d.
        let m : mem y s ≡ true = mem-rest y i s k d in
        fails (up n par i (par y))
        (λ h.
        clash (up_above n par (rank_in order) tree i y (task-behind n par order valid pre i s e y m) h)
        (behind-not-below n par order valid tree pre i s e y m)))
        (same_or_not y i)

    in-front : (y : ℕ) → mem y pre ≡ true → up n par i y ≡ up n par i (par y)
    in-front y k =
        let m : mem y order ≡ true = ap (mem y) e ∙ mem-left y pre (i ∷ s) k in
        up-parent n par (rank_in order) tree i y (member-task n par order valid y m)
        (λ q. mem-other y i pre k (new-behind pre i s (rw e at valid.once)) (sym q))

    -- the tasks of the subtree of i: those below it, and then i
    subtree-ends : subtree_in n par order i ≡ below_in n par order i ++ i ∷ []
    subtree-ends =
        ap (λ (l : List ℕ). subtree_in n par l i) e
        ∙ keep_append (λ k. up n par i k) pre (i ∷ s)
        ∙ ap (λ (l : List ℕ). subtree_in n par pre i ++ l)
        (keep-yes (λ k. up n par i k) i s (up-self n par (rank_in order) tree i task)
        ∙ ap (λ (l : List ℕ). i ∷ l) (keep-none (λ k. up n par i k) s (behind-not-below n par order valid tree pre i s e)))
        ∙ ap (λ (l : List ℕ). l ++ i ∷ [])
        (keep_same (λ k. up n par i k) (λ k. up n par i (par k)) pre in-front
        ∙ sym
        (ap (λ (l : List ℕ). below_in n par l i) e
        ∙ keep_append (λ k. up n par i (par k)) pre (i ∷ s)
        ∙ ap (λ (l : List ℕ). below_in n par pre i ++ l) (keep-none (λ k. up n par i (par k)) (i ∷ s) none_below)
        ∙ append-nil (below_in n par pre i)))

  pub subtree-last : subtree_in n par order i ≡ below_in n par order i ++ i ∷ []
  subtree-last =
      let split = mem-split i order (stands n par order valid i task) in
      subtree-ends split.pre split.post split.whole
