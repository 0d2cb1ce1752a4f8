-- Laws of what a task holds with its children that do not wait: how it changes with each part of a command.
use mathlib.Core.Path.{◌≡◌, refl, sym, ap, ◌∙◌}
use mathlib.Core.Bool.{Bool, true, false, not, ◌&&◌, ◌||◌}
use mathlib.Core.Logic.{⊎_elim}
use Prim.Native.Nat.{ℕ, ◌+◌, ◌-◌, ◌≤◌}
use native.Mathlib.Omega.{arith}
use lib.Dec.{eqb}
use borrow.Author.Tests.{eqb-true, eqb-false, eq-eqb, ne_eqb, not-true}
use Rattle.numbers.specs.Sums.{Task, only}
use Rattle.books.specs.Standing.{waiting, activated, running, finished}
use Rattle.tree.specs.Tree.{figure, children, Tree, up}
use Rattle.books.specs.Booking.{total}
use Rattle.books.specs.Invariant.{Shape}
use Rattle.numbers.proofs.Tests.{decide, clash, fails, same_or_not, or_cases}
use Rattle.numbers.proofs.Sums.{sum-cong, sum-le, only-le, only-and, only-cong, only-add, only-true, only-false, only_zero}
use Rattle.tree.proofs.Children.{children-le, children-cong, children-change, children-zero, figure-children}
use Rattle.tree.proofs.Tree.{up-self, up_step, up-rank, up-nobody, parent-task, not-above-itself, figure-change}
use Rattle.books.proofs.Shape.{Moved}
use Rattle.store.specs.Cached.{partial_figure, partial_figure_with}

-- what a child that does not wait counts for
abbrev pub counts : (ℕ → ℕ) → ℕ → ℕ → ℕ
counts st c x = only (not (eqb (st c) waiting)) x

-- as a sum over the children
pub partial-is :
    (n : ℕ) (par st b : ℕ → ℕ) (i : ℕ)
    → partial_figure n par st b i ≡ b i + children n par (λ c. counts st c (figure n par b c)) i
unfolding partial_figure children
partial-is n par st b i =
    ap (λ (v : ℕ). b i + v)
    (sum-cong (λ c. only (eqb (par c) i && not (eqb (st c) waiting)) (figure n par b c))
    (λ c. only (eqb (par c) i) (counts st c (figure n par b c))) n
    (λ c _. only-and (eqb (par c) i) (not (eqb (st c) waiting)) (figure n par b c)))

pub partial-with-is :
    (n : ℕ) (par st b : ℕ → ℕ) (x r i : ℕ)
    → partial_figure_with n par st b x r i ≡ b i + children n par (λ c. counts st c (figure n par b c + only (up n par c x) r)) i
unfolding partial_figure_with children
partial-with-is n par st b x r i =
    ap (λ (v : ℕ). b i + v)
    (sum-cong
    (λ c. only (eqb (par c) i && not (eqb (st c) waiting)) (figure n par b c + only (up n par c x) r))
    (λ c. only (eqb (par c) i) (counts st c (figure n par b c + only (up n par c x) r))) n
    (λ c _. only-and (eqb (par c) i) (not (eqb (st c) waiting)) (figure n par b c + only (up n par c x) r)))

-- nothing in the air
pub partial-with-nothing :
    (n : ℕ) (par st b : ℕ → ℕ) (x i : ℕ) → partial_figure_with n par st b x 0 i ≡ partial_figure n par st b i
partial-with-nothing n par st b x i =
    partial-with-is n par st b x 0 i
    ∙ ap (λ (v : ℕ). b i + v)
    (children-cong n par (λ c. counts st c (figure n par b c + only (up n par c x) 0)) (λ c. counts st c (figure n par b c)) i
    (λ c _ _. ap (counts st c) (let z = only_zero (up n par c x) in omega arith)))
    ∙ sym (partial-is n par st b i)

module _ (n : ℕ) (par rank : ℕ → ℕ) (tree : Tree n par rank) where
  -- where no child waits it is the subtree figure
  pub partial-figure :
      (st b : ℕ → ℕ) (i : ℕ)
      → Task n i
      → ((c : ℕ) → Task n c → par c ≡ i → st c ≡ waiting → ⊥)
      → partial_figure n par st b i ≡ figure n par b i
  partial-figure st b i t busy =
      partial-is n par st b i
      ∙ ap (λ (v : ℕ). b i + v)
      (children-cong n par (λ c. counts st c (figure n par b c)) (λ c. figure n par b c) i
      (λ c u e.
      only-true (not (eqb (st c) waiting)) (figure n par b c) (ap (λ (v : Bool). not v) (ne_eqb (st c) waiting (busy c u e)))))
      ∙ sym (figure-children n par rank tree b i t)

  -- a child above x waits where x does
  above-waits :
      (st : ℕ → ℕ) (x c : ℕ)
      → Shape n par rank st
      → Task n x
      → Task n c
      → st x ≡ waiting
      → (c ≡ x → ⊥)
      → up n par c x ≡ true
      → st c ≡ waiting
  above-waits st x c shape t u w d h =
      ⊎_elim (λ (e : eqb c x ≡ true). absurd (d (eqb-true c x e)))
      (λ (above : up n par c (par x) ≡ true).
      let child : par x ≡ 0 → ⊥ = λ z. clash above (up-nobody n par c (par x) z) in
      let higher = tree.rises x t child in
      let most = (up-rank n par rank tree c (par x) (parent-task n par rank tree x t child) above).1 in
      shape.behind x c t u (omega arith) w)
      (or_cases (eqb c x) (up n par c (par x)) (sym (up_step n par rank tree c x t) ∙ h))

  -- booking x ahead: it holds m more, and its parent now counts it
  pub partial-booked :
      (st st' b b' : ℕ → ℕ) (x m i : ℕ)
      → Shape n par rank st
      → Task n x
      → st x ≡ waiting
      → Moved n st st' x activated
      → b' x ≡ b x + m
      → ((k : ℕ) → Task n k → (k ≡ x → ⊥) → b' k ≡ b k)
      → Task n i
      → partial_figure n par st' b' i
      ≡ partial_figure n par st b i + only (eqb x i) m + only (eqb (par x) i) (figure n par b x + m)
  partial-booked st st' b b' x m i shape t w moved granted others u =
      let old = partial-is n par st b i in
      let new = partial-is n par st' b' i in
      let own : b' i ≡ b i + only (eqb x i) m =
      ⊎_elim
      (λ e.
      let one = only-true (eqb x i) m (eq-eqb x i e) in
      let g : b' i ≡ b i + m = rw (← e) granted in
      omega arith)
      (λ d.
      let none = only-false (eqb x i) m (ne_eqb x i d) in
      let g = others i u (λ e. d (sym e)) in
      omega arith)
      (same_or_not x i)
      in
      let grows : (c : ℕ) → figure n par b' c ≡ figure n par b c + only (up n par c x) m =
      λ c. figure-change n par b b' x m c t granted others
      in
      let sum =
      children-change n par (λ c. counts st c (figure n par b c)) (λ c. counts st' c (figure n par b' c)) x
      (figure n par b x + m) i t
      (let was = only-false (not (eqb (st x) waiting)) (figure n par b x) (ap (λ (v : Bool). not v) (eq-eqb (st x) waiting w)) in
      let now =
      only-true (not (eqb (st' x) waiting)) (figure n par b' x)
      (ap (λ (v : Bool). not v) (ne_eqb (st' x) waiting (λ q. let z = moved.there in omega arith)))
      in
      let g = grows x in
      let one = only-true (up n par x x) m (up-self n par rank tree x t) in
      omega arith)
      (λ c v d.
      ap (λ (s : ℕ). only (not (eqb s waiting)) (figure n par b' c)) (moved.elsewhere c v d)
      ∙ only-cong (not (eqb (st c) waiting)) (figure n par b' c) (figure n par b c)
      (λ busy.
      let off : up n par c x ≡ false =
      fails (up n par c x)
      (λ h.
      eqb-false (st c) waiting (not-true (eqb (st c) waiting) busy) (above-waits st x c shape t v w d h))
      in
      let g = grows c in
      let z = only-false (up n par c x) m off in
      omega arith))
      in
      omega arith

  -- a task of the way gets g of the r trays in the air: r less are counted with it, and g more
  pub partial-offered :
      (st b b' : ℕ → ℕ) (x r g a : ℕ)
      → Task n x
      → (st x ≡ waiting → ⊥)
      → Task n (par x)
      → b' (par x) ≡ b (par x) + g
      → ((k : ℕ) → Task n k → (k ≡ par x → ⊥) → b' k ≡ b k)
      → g ≤ r
      → Task n a
      → partial_figure_with n par st b' (par x) (r - g) a + only (eqb (par x) a) r
      ≡ partial_figure_with n par st b x r a + only (eqb (par x) a) g
  partial-offered st b b' x r g a t busy u given others h v =
      let i : ℕ = par x in
      let old = partial-with-is n par st b x r a in
      let new = partial-with-is n par st b' (par x) (r - g) a in
      let own : b' a ≡ b a + only (eqb (par x) a) g =
      ⊎_elim
      (λ e.
      let one = only-true (eqb (par x) a) g (eq-eqb (par x) a e) in
      let w : b' a ≡ b a + g = rw (← e) given in
      omega arith)
      (λ d.
      let none = only-false (eqb (par x) a) g (ne_eqb (par x) a d) in
      let w = others a v (λ e. d (sym e)) in
      omega arith)
      (same_or_not (par x) a)
      in
      let middle :
      children n par (λ c. counts st c (figure n par b' c + only (up n par c (par x)) (r - g))) a
      ≡ children n par (λ c. counts st c (figure n par b c + only (up n par c (par x)) r)) a =
      children-cong n par (λ c. counts st c (figure n par b' c + only (up n par c (par x)) (r - g)))
      (λ c. counts st c (figure n par b c + only (up n par c (par x)) r)) a
      (λ c _ _.
      ap (counts st c)
      (let w = figure-change n par b b' (par x) g c u given others in
      let parts = only-add (up n par c (par x)) g (r - g) in
      let whole : only (up n par c (par x)) (g + (r - g)) ≡ only (up n par c (par x)) r =
      ap (only (up n par c (par x))) (omega arith)
      in
      omega arith))
      in
      let sum =
      children-change n par (λ c. counts st c (figure n par b c + only (up n par c (par x)) r))
      (λ c. counts st c (figure n par b c + only (up n par c x) r)) x r a t
      (let not-above = only-false (up n par x (par x)) r (not-above-itself n par rank tree x t) in
      let self = only-true (up n par x x) r (up-self n par rank tree x t) in
      let keeps : (v : ℕ) → counts st x v ≡ v =
      λ v. only-true (not (eqb (st x) waiting)) v (ap (λ (w : Bool). not w) (ne_eqb (st x) waiting busy))
      in
      let one = keeps (figure n par b x + only (up n par x x) r) in
      let two = keeps (figure n par b x + only (up n par x (par x)) r) in
      omega arith)
      (λ c w d.
      ap (λ (s : Bool). counts st c (figure n par b c + only s r))
      (up_step n par rank tree c x t ∙ ap (λ (s : Bool). s || up n par c (par x)) (ne_eqb c x d)))
      in
      omega arith

  -- past the root nothing is counted with anybody
  pub partial-past-root :
      (st b : ℕ → ℕ) (x r a : ℕ)
      → Task n x
      → par x ≡ 0
      → Task n a
      → partial_figure_with n par st b x r a ≡ partial_figure n par st b a
  partial-past-root st b x r a t z u =
      partial-with-is n par st b x r a
      ∙ ap (λ (v : ℕ). b a + v)
      (children-cong n par (λ c. counts st c (figure n par b c + only (up n par c x) r)) (λ c. counts st c (figure n par b c)) a
      (λ c w e.
      ap (counts st c)
      (let off : up n par c x ≡ false =
      up_step n par rank tree c x t
      ∙ ap (λ (s : Bool). s || up n par c (par x)) (ne_eqb c x (λ q. let y : par c ≡ par x = ap par q in omega arith))
      ∙ up-nobody n par c (par x) z
      in
      let none = only-false (up n par c x) r off in
      omega arith)))
      ∙ sym (partial-is n par st b a)

  -- a waiting task loses the r trays, and nobody above it counted them
  pub partial-at-waiting :
      (st b : ℕ → ℕ) (x r a : ℕ)
      → Shape n par rank st
      → Task n x
      → (st x ≡ waiting → ⊥)
      → Task n (par x)
      → st (par x) ≡ waiting
      → Task n a
      → partial_figure n par st b a + only (eqb (par x) a) r ≡ partial_figure_with n par st b x r a
  partial-at-waiting st b x r a shape t busy u w v =
      let old = partial-with-is n par st b x r a in
      let new = partial-is n par st b a in
      let sum =
      children-change n par (λ c. counts st c (figure n par b c)) (λ c. counts st c (figure n par b c + only (up n par c x) r)) x r
      a t
      (let self = only-true (up n par x x) r (up-self n par rank tree x t) in
      let keeps : (v : ℕ) → counts st x v ≡ v =
      λ v. only-true (not (eqb (st x) waiting)) v (ap (λ (w : Bool). not w) (ne_eqb (st x) waiting busy))
      in
      let one = keeps (figure n par b x + only (up n par x x) r) in
      let two = keeps (figure n par b x) in
      omega arith)
      (λ c y d.
      only-cong (not (eqb (st c) waiting)) (figure n par b c + only (up n par c x) r) (figure n par b c)
      (λ h.
      let awake = eqb-false (st c) waiting (not-true (eqb (st c) waiting) h) in
      let off : up n par c x ≡ false =
      fails (up n par c x)
      (λ m.
      let above : up n par c (par x) ≡ true =
      sym (ap (λ (s : Bool). s || up n par c (par x)) (ne_eqb c x d)) ∙ sym (up_step n par rank tree c x t) ∙ m
      in
      ⊎_elim (λ q. awake (ap st q ∙ w))
      (λ e. awake (above-waits st (par x) c shape u y w e above))
      (same_or_not c (par x)))
      in
      let none = only-false (up n par c x) r off in
      omega arith))
      in
      omega arith

  -- nobody counts itself among its children
  pub partial-with-own :
      (st b : ℕ → ℕ) (i r : ℕ) → Task n i → partial_figure_with n par st b i r i ≡ partial_figure n par st b i
  partial-with-own st b i r t =
      partial-with-is n par st b i r i
      ∙ ap (λ (v : ℕ). b i + v)
      (children-cong n par (λ c. counts st c (figure n par b c + only (up n par c i) r)) (λ c. counts st c (figure n par b c)) i
      (λ c w e.
      ap (counts st c)
      (let off : up n par c i ≡ false =
      ap (up n par c) (sym e) ∙ not-above-itself n par rank tree c w
      in
      let none = only-false (up n par c i) r off in
      omega arith)))
      ∙ sym (partial-is n par st b i)

  -- no more than the subtree figure
  pub partial-le-figure : (st b : ℕ → ℕ) (i : ℕ) → Task n i → partial_figure n par st b i ≤ figure n par b i
  partial-le-figure st b i t =
      let h = partial-is n par st b i in
      let f = figure-children n par rank tree b i t in
      let less =
      children-le n par (λ c. counts st c (figure n par b c)) (λ c. figure n par b c) i
      (λ c _ _. only-le (not (eqb (st c) waiting)) (figure n par b c))
      in
      omega arith

  -- task j has ended and its trays are taken: r of them are in the air, and its parent keeps the rest
  module _ (st st' b b₁ b' : ℕ → ℕ) (j r kept : ℕ) (shape : Shape n par rank st) (task : Task n j) (runs : st j ≡ running)
      (moved : Moved n st st' j finished) (taken : b₁ j ≡ 0) (others : (i : ℕ) → Task n i → (i ≡ j → ⊥) → b₁ i ≡ b i)
      (gave : (i : ℕ) → Task n i → b' i ≡ b₁ i + only (eqb (par j) i) kept) (parts : r + kept ≡ b j)
      (figure-before : (a : ℕ) → figure n par b a ≡ figure n par b₁ a + only (up n par a j) (b j))
      (figure-after : (a : ℕ) → figure n par b' a ≡ figure n par b₁ a + only (up n par a (par j)) kept)
      (below : (c : ℕ) → Task n c → par c ≡ j → figure n par b c ≡ 0) where
    -- who waits is the same
    same-waiting : (c : ℕ) → Task n c → eqb (st' c) waiting ≡ eqb (st c) waiting
    same-waiting c t =
        ⊎_elim
        (λ e.
        let new : st' c ≡ finished = ap st' e ∙ moved.there in
        let old : st c ≡ running = ap st e ∙ runs in
        ne_eqb (st' c) waiting (λ q. omega arith) ∙ sym (ne_eqb (st c) waiting (λ q. omega arith)))
        (λ d. ap (λ (v : ℕ). eqb v waiting) (moved.elsewhere c t d))
        (same_or_not c j)

    -- the trays in the air and those that the parent keeps are counted as before, but for those kept
    figure-in-air :
        (c : ℕ) → figure n par b' c + only (up n par c j) r + only (eqb c j) kept ≡ figure n par b c
    figure-in-air c =
        let before = figure-before c in
        let after = figure-after c in
        ⊎_elim
        (λ e.
        let self : up n par c j ≡ true = ap (λ (v : ℕ). up n par v j) e ∙ up-self n par rank tree j task in
        let off : up n par c (par j) ≡ false = ap (λ (v : ℕ). up n par v (par j)) e ∙ not-above-itself n par rank tree j task in
        let one = only-true (up n par c j) (b j) self in
        let two = only-true (up n par c j) r self in
        let three = only-false (up n par c (par j)) kept off in
        let four = only-true (eqb c j) kept (eq-eqb c j e) in
        omega arith)
        (λ d.
        let on : up n par c j ≡ up n par c (par j) =
        up_step n par rank tree c j task ∙ ap (λ (s : Bool). s || up n par c (par j)) (ne_eqb c j d)
        in
        let none = only-false (eqb c j) kept (ne_eqb c j d) in
        ⊎_elim
        (λ (h : up n par c (par j) ≡ true).
        let one = only-true (up n par c j) (b j) (on ∙ h) in
        let two = only-true (up n par c j) r (on ∙ h) in
        let three = only-true (up n par c (par j)) kept h in
        omega arith)
        (λ (h : up n par c (par j) ≡ false).
        let one = only-false (up n par c j) (b j) (on ∙ h) in
        let two = only-false (up n par c j) r (on ∙ h) in
        let three = only-false (up n par c (par j)) kept h in
        omega arith)
        (decide (up n par c (par j))))
        (same_or_not c j)

    -- everybody else holds what it held
    pub partial-taken :
        (a : ℕ) → Task n a → (a ≡ j → ⊥) → partial_figure_with n par st' b' j r a ≡ partial_figure n par st b a
    partial-taken a t d =
        let new = partial-with-is n par st' b' j r a in
        let old = partial-is n par st b a in
        let sum =
        children-change n par (λ c. counts st' c (figure n par b' c + only (up n par c j) r))
        (λ c. counts st c (figure n par b c)) j kept a task
        (let keeps : (v : ℕ) → counts st j v ≡ v =
        λ v. only-true (not (eqb (st j) waiting)) v (ap (λ (w : Bool). not w) (ne_eqb (st j) waiting (λ q. omega arith)))
        in
        let same : counts st' j (figure n par b' j + only (up n par j j) r) ≡ counts st j (figure n par b' j + only (up n par j j) r) =
        ap (λ (w : Bool). only (not w) (figure n par b' j + only (up n par j j) r)) (same-waiting j task)
        in
        let one = keeps (figure n par b' j + only (up n par j j) r) in
        let two = keeps (figure n par b j) in
        let air = figure-in-air j in
        let k = only-true (eqb j j) kept (eq-eqb j j refl) in
        omega arith)
        (λ c u v.
        ap (λ (w : Bool). only (not w) (figure n par b c)) (sym (same-waiting c u))
        ∙ ap (counts st' c)
        (let air = figure-in-air c in let k = only-false (eqb c j) kept (ne_eqb c j v) in omega arith))
        in
        let mine = gave a t in
        let was = others a t d in
        omega arith

    -- and j holds nothing
    pub partial-taken-there : partial_figure_with n par st' b' j r j ≡ 0
    partial-taken-there =
        let own = partial-with-own st' b' j r task in
        let new = partial-is n par st' b' j in
        let none =
        children-zero n par (λ c. counts st' c (figure n par b' c)) j
        (λ c u e.
        let low = tree.rises c u (λ z. omega arith) in
        let before = figure-before c in
        let after = figure-after c in
        let zero-figure = below c u e in
        let up-rank-j : (k : ℕ) → Task n k → rank j ≤ rank k → up n par c k ≡ false =
        λ k w h.
        fails (up n par c k)
        (λ m.
        let a = (up-rank n par rank tree c k w m).1 in
        let e' : rank (par c) ≡ rank j = ap rank e in
        omega arith)
        in
        let off : up n par c (par j) ≡ false =
        ⊎_elim (λ z. up-nobody n par c (par j) z)
        (λ d.
        let higher = tree.rises j task d in
        up-rank-j (par j) (parent-task n par rank tree j task d) (omega arith))
        (same_or_not (par j) 0)
        in
        let z = only-false (up n par c (par j)) kept off in
        let f : figure n par b' c ≡ 0 = omega arith in
        ap (counts st' c) f ∙ only_zero (not (eqb (st' c) waiting)))
        in
        let mine = gave j task in
        let self : only (eqb (par j) j) kept ≡ 0 =
        only-false (eqb (par j) j) kept
        (ne_eqb (par j) j
        (λ e.
        let up = tree.rises j task (λ z. omega arith) in
        let same : rank (par j) ≡ rank j = ap rank e in
        omega arith))
        in
        omega arith

-- no figure is above the total
pub figure-le-total : (n : ℕ) (par b : ℕ → ℕ) (i : ℕ) → figure n par b i ≤ total n b
unfolding figure total
figure-le-total n par b i = sum-le (λ k. only (up n par i k) (b k)) b n (λ k _. only-le (up n par i k) (b k))

-- what a task holds where the same tasks wait
pub partial-same :
    (n : ℕ) (par st st' b : ℕ → ℕ) (i : ℕ)
    → ((c : ℕ) → Task n c → eqb (st' c) waiting ≡ eqb (st c) waiting)
    → partial_figure n par st' b i ≡ partial_figure n par st b i
unfolding partial_figure
partial-same n par st st' b i same =
    ap (λ (v : ℕ). b i + v)
    (sum-cong (λ c. only (eqb (par c) i && not (eqb (st' c) waiting)) (figure n par b c))
    (λ c. only (eqb (par c) i && not (eqb (st c) waiting)) (figure n par b c)) n
    (λ c t. ap (λ (w : Bool). only (eqb (par c) i && not w) (figure n par b c)) (same c t)))
