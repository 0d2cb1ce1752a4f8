-- What holds of an order that finishes each subtree, by the tree: it holds the tasks of the subtree, each once and before its parent.
use mathlib.Core.Path.{◌≡◌, refl, sym, ap, ◌∙◌}
use mathlib.Core.Bool.{Bool, true, false, ◌||◌}
use mathlib.Core.Logic.{⊎_elim}
use mathlib.Core.List.{List, [], ◌∷◌, ◌++◌}
use Prim.Native.Nat.{ℕ, zero, suc}
use Rattle.numbers.specs.Sums.{Task}
use Rattle.numbers.specs.Lists.{mem, distinct}
use Rattle.tree.specs.Tree.{roots, Valid, Tree, up}
use Rattle.postorders.specs.Postorder.{children_of}
use Rattle.numbers.proofs.Tests.{decide, clash, fails, same_or_not, or-none}
use Rattle.tree.proofs.Orders.{nobody, mem-one, mem-none, mem-here, mem-later, mem-rest, mem-more, mem-out, mem-append, mem-both, mem-left, mem-right, every-within, distinct_cons, distinct-join, distinct_snoc, place-ahead, length-all, Rises, rises-first, rises-second, rises-ordered}
use Rattle.tree.proofs.Turns.{Left}
use Rattle.tree.proofs.Tree.{up-self, up-parent, not-above-itself}
use Rattle.postorders.proofs.Sorting.{Permuted}
use Rattle.postorders.proofs.Siblings.{Child, child-of, child-there}
use Rattle.postorders.proofs.Subtrees.{FinishesEach, Finishes}
use Rattle.postorders.proofs.Nested.{up_above, child-towards, one-child, below-parent, root-above}

-- what holds of an order of the subtree of i: it holds the tasks of the subtree, each once, and but for i each before its parent
pub record Subtree (n : ℕ) (par : ℕ → ℕ) (i : ℕ) (l : List ℕ) : Type 0 where
  pub tasks : (k : ℕ) → mem k l ≡ true → Task n k
  pub holds : (k : ℕ) → Task n k → mem k l ≡ up n par i k
  pub once : distinct l ≡ true
  pub rises : (k : ℕ) → mem k l ≡ true → (k ≡ i → ⊥) → Rises par k l

-- some child that is k or stands above it
record Under (n : ℕ) (par : ℕ → ℕ) (cs : List ℕ) (k : ℕ) : Type 0 where
  child : ℕ
  member : mem child cs ≡ true
  above : up n par child k ≡ true

-- what holds of orders of the subtrees of some children of i, one after another
record Subtrees (n : ℕ) (par : ℕ → ℕ) (i : ℕ) (cs l : List ℕ) : Type 0 where
  tasks : (k : ℕ) → mem k l ≡ true → Task n k
  under : (k : ℕ) → mem k l ≡ true → Under n par cs k
  holds : (k : ℕ) → Task n k → Under n par cs k → mem k l ≡ true
  once : distinct l ≡ true
  rises : (k : ℕ) → mem k l ≡ true → mem k cs ≡ false → Rises par k l

module _ (n : ℕ) (par rank : ℕ → ℕ) (tree : Tree n par rank) (i : ℕ) (task : Task n i) where
  -- of no child
  none : Subtrees n par i [] []
  unfolding distinct
  none =
      record {
        tasks = λ k e. absurd (nobody k e);
        under = λ k e. absurd (nobody k e);
        holds = λ k t u. absurd (nobody u.child u.member);
        once = refl;
        rises = λ k e f. absurd (nobody k e);
      }

  -- one child more
  module _ (c : ℕ) (u : Task n c) (p : par c ≡ i) (cs : List ℕ) (kids : (d : ℕ) → mem d cs ≡ true → Child n par i d)
      (new : mem c cs ≡ false) (a b : List ℕ) (here : Subtree n par c a) (rest : Subtrees n par i cs b) where
    -- whoever stands in a is in the subtree of c
    in-subtree : (k : ℕ) → mem k a ≡ true → up n par c k ≡ true
    in-subtree k e = sym (here.holds k (here.tasks k e)) ∙ e

    -- the two lists share nobody
    share-none : (k : ℕ) → mem k a ≡ true → mem k b ≡ false
    share-none k e =
        fails (mem k b)
        (λ f.
        let d = rest.under k f in
        let kid = kids d.child d.member in
        let same : c ≡ d.child
        = one-child n par rank tree c d.child k u kid.task (here.tasks k e) (p ∙ sym kid.parent) (in-subtree k e) d.above in
        clash d.member (ap (λ (z : ℕ). mem z cs) (sym same) ∙ new))

    -- nor does one of b stand in a
    not-in-first : (k : ℕ) → mem k b ≡ true → mem k a ≡ false
    not-in-first k e = fails (mem k a) (λ f. clash e (share-none k f))

    join : Subtrees n par i (c ∷ cs) (a ++ b)
    join =
        record {
          tasks = λ k e. ⊎_elim (here.tasks k) (rest.tasks k) (mem-both k a b e);
          under =
              λ k e.
              ⊎_elim (λ f. record { child = c; member = mem-here c c cs refl; above = in-subtree k f })
              (λ f.
              let d = rest.under k f in
              record { child = d.child; member = mem-more d.child c cs d.member; above = d.above })
              (mem-both k a b e);
          holds =
              λ k t d.
              ⊎_elim
              (λ (q : d.child ≡ c).
              mem-left k a b (here.holds k t ∙ ap (λ (z : ℕ). up n par z k) (sym q) ∙ d.above))
              (λ (v : d.child ≡ c → ⊥).
              mem-right k a b
              (rest.holds k t
              (record { child = d.child; member = mem-rest d.child c cs d.member v; above = d.above })))
              (same_or_not d.child c);
          once = distinct-join a b here.once rest.once share-none;
          rises =
              λ k e f.
              let out = mem-out k c cs f in
              ⊎_elim (λ g. rises-first par k a b g (here.rises k g out.0))
              (λ g.
              let r = rest.rises k g out.1 in
              rises-second par k a b (not-in-first k g) (not-in-first (par k) r.member) r)
              (mem-both k a b e);
        }

  -- of several children
  each-subtree :
      (P : ℕ → List ℕ → Type 0)
      → ((c : ℕ) (l : List ℕ) → Child n par i c → P c l → Subtree n par c l)
      → (cs l : List ℕ)
      → ((d : ℕ) → mem d cs ≡ true → Child n par i d)
      → distinct cs ≡ true
      → FinishesEach P cs l
      → Subtrees n par i cs l
  unfolding FinishesEach
  each-subtree P each [] l kids once f = rw f none
  each-subtree P each (c ∷ cs) l kids once f =
      let fresh = distinct_cons c cs once in
      let kid = kids c (mem-here c c cs refl) in
      let later : (d : ℕ) → mem d cs ≡ true → Child n par i d = λ d e. kids d (mem-more d c cs e) in
      rw f.2
      (join c kid.task kid.parent cs later fresh.new f.0 f.1 (each c f.0 kid f.3)
      (each-subtree P each cs f.1 later fresh.later f.4))

  -- of all its children, and then i
  module _ (cs a : List ℕ) (permuted : Permuted (children_of n par i) cs) (parts : Subtrees n par i cs a) where
    -- whoever is below i stands in a
    below_in : (k : ℕ) → Task n k → mem k a ≡ up n par i (par k)
    below_in k t =
        ⊎_elim
        (λ (e : up n par i (par k) ≡ true).
        let c = child-towards n par rank tree i k t e in
        parts.holds k t
        (record {
          child = c.child;
          member = child-there n par i cs permuted c.child (record { task = c.task; parent = c.parent });
          above = c.above;
        })
        ∙ sym e)
        (λ (e : up n par i (par k) ≡ false).
        fails (mem k a)
        (λ f.
        let c = parts.under k f in
        let kid = child-of n par i cs permuted c.child c.member in
        clash (below-parent n par rank tree i c.child k task kid.task t kid.parent c.above) e)
        ∙ sym e)
        (decide (up n par i (par k)))

    not_in : mem i a ≡ false
    not_in = below_in i task ∙ not-above-itself n par rank tree i task

    whole-tasks : (k : ℕ) → mem k (a ++ i ∷ []) ≡ true → Task n k
    whole-tasks k e =
        ⊎_elim (parts.tasks k)
        (λ f. rw (mem-one k i f) task)
        (mem-both k a (i ∷ []) e)

    whole-holds : (k : ℕ) → Task n k → mem k (a ++ i ∷ []) ≡ up n par i k
    whole-holds k t =
        ⊎_elim
        (λ (q : k ≡ i).
        mem-right k a (i ∷ []) (mem-here k i [] q)
        ∙ sym (ap (λ (z : ℕ). up n par i z) q ∙ up-self n par rank tree i task))
        (λ (d : k ≡ i → ⊥).
        mem-append k a (i ∷ [])
        ∙ ap (λ (b : Bool). mem k a || b) (mem-later k i [] d ∙ mem-none k)
        ∙ or-none (mem k a)
        ∙ below_in k t
        ∙ sym (up-parent n par rank tree i k t (λ q. d (sym q))))
        (same_or_not k i)

    whole-once : distinct (a ++ i ∷ []) ≡ true
    whole-once = distinct_snoc a i parts.once not_in

    whole-rises : (k : ℕ) → mem k (a ++ i ∷ []) ≡ true → (k ≡ i → ⊥) → Rises par k (a ++ i ∷ [])
    whole-rises k e d =
        let m : mem k a ≡ true
        = ⊎_elim (λ f. f) (λ f. absurd (d (mem-one k i f))) (mem-both k a (i ∷ []) e) in
        ⊎_elim
        (λ (f : mem k cs ≡ true).
        let last : mem (par k) (i ∷ []) ≡ true = mem-here (par k) i [] (child-of n par i cs permuted k f).parent in
        record {
          member = mem-right (par k) a (i ∷ []) last;
          rises = place-ahead a (i ∷ []) k (par k) whole-once m last;
        })
        (λ (f : mem k cs ≡ false). rises-first par k a (i ∷ []) m (parts.rises k m f))
        (decide (mem k cs))

    whole : Subtree n par i (a ++ i ∷ [])
    whole =
        record {
          tasks = whole-tasks;
          holds = whole-holds;
          once = whole-once;
          rises = whole-rises;
        }

-- so it holds of an order that finishes each subtree
pub finishes-subtree :
    (n : ℕ) (par rank : ℕ → ℕ) (tree : Tree n par rank) (most i : ℕ) (l : List ℕ)
    → Task n i
    → Finishes most n par i l
    → Subtree n par i l
unfolding Finishes
finishes-subtree n par rank tree zero i l t f = absurd f
finishes-subtree n par rank tree (suc most) i l t f =
    rw f.4
    (whole n par rank tree i t f.0 f.1 f.2
    (each-subtree n par rank tree i t (Finishes most n par) (λ c m k g. finishes-subtree n par rank tree most c m k.task g) f.0
    f.1 (child-of n par i f.0 f.2) f.2.once f.3))

module _ (n : ℕ) (par rank : ℕ → ℕ) (tree : Tree n par rank) where
  -- in such an order each task has its children ahead of it
  pub subtree-left : (i : ℕ) (l : List ℕ) → Task n i → Subtree n par i l → Left n par [] l
  subtree-left i l t s =
      record {
        tasks = s.tasks;
        once = s.once;
        apart = λ k _. mem-none k;
        fed =
            λ c u e _.
            let above : up n par i (par c) ≡ true = sym (s.holds (par c) (s.tasks (par c) e)) ∙ e in
            (s.rises c (s.holds c u ∙ up_above n par rank tree i c u above)
            (λ q. clash above (ap (λ (k : ℕ). up n par i (par k)) q ∙ not-above-itself n par rank tree i t))).rises;
        closed = λ c _ _ e. absurd (nobody (par c) e);
      }

  -- that of the root is valid
  pub subtree-valid :
      roots n par ≡ 1 → (r : ℕ) → Task n r → par r ≡ 0 → (order : List ℕ) → Subtree n par r order → Valid n par order
  subtree-valid one r task root order s =
      let inside = every-within n order s.tasks in
      record {
        inside = inside;
        once = s.once;
        whole = length-all n order inside s.once (λ k t. s.holds k t ∙ root-above n par rank tree one r task root k t);
        upward =
            rises-ordered par order s.once
            (λ k e d. s.rises k e (λ q. d (ap par q ∙ root)));
      }
