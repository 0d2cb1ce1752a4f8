-- What an order that finishes each subtree costs: the largest of what its children's orders take one after the other, and of what
-- its task takes at the end.
use mathlib.Core.Path.{◌≡◌, refl, sym, ap, ◌∙◌}
use mathlib.Core.Bool.{true}
use mathlib.Core.List.{List, [], ◌∷◌, ◌++◌, flat_map, append-nil, append_assoc}
use Prim.Native.Nat.{ℕ, ◌+◌, ◌-◌, ◌≤◌, max}
use native.Mathlib.Omega.{arith}
use borrow.Author.Tests.{ne_eqb}
use Rattle.numbers.specs.Lists.{mem}
use Rattle.tree.specs.Tree.{children}
use Rattle.postorders.specs.Postorder.{children_of}
use Rattle.tree.proofs.Orders.{mem-here, mem-more, sum_over}
use Rattle.tree.proofs.Peaks.{kept, running}
use Rattle.postorders.proofs.Subtrees.{FinishesEach}
use Rattle.postorders.proofs.Exchange.{cost}
use Rattle.postorders.proofs.Sorting.{Permuted}
use Rattle.postorders.proofs.Siblings.{children-along}

-- along l the level rises by at most p above where it begins, and by o in the end, whatever comes after
abbrev pub Costs : (n : ℕ) (par work out : ℕ → ℕ) (l : List ℕ) (p o : ℕ) → Type 0
Costs n par work out l p o =
    (h : ℕ) (rest : List ℕ)
    → running n par work out h (l ++ rest) ≡ max (h + p) (running n par work out (h + o) rest)

-- the same where some task comes after, which a list with no task needs
abbrev pub CostsBefore : (n : ℕ) (par work out : ℕ → ℕ) (l : List ℕ) (p o : ℕ) → Type 0
CostsBefore n par work out l p o =
    (h x : ℕ) (rest : List ℕ)
    → running n par work out h (l ++ x ∷ rest) ≡ max (h + p) (running n par work out (h + o) (x ∷ rest))

-- a child leaves its out
pub kept-child : (par out : ℕ → ℕ) (c i : ℕ) → par c ≡ i → 1 ≤ i → kept par out c ≡ out c
unfolding kept
kept-child par out c i q t = rw (ne_eqb (par c) 0 (λ z. omega arith))

module _ (n : ℕ) (par work out : ℕ → ℕ) where
  -- by itself it costs p
  pub costs-alone : (l : List ℕ) (p o : ℕ) → Costs n par work out l p o → running n par work out 0 l ≡ p
  unfolding running
  costs-alone l p o c = ap (running n par work out 0) (sym (append-nil l)) ∙ c 0 [] ∙ omega arith

  -- nothing costs nothing
  costs-none : CostsBefore n par work out [] 0 0
  unfolding running
  costs-none h x rest =
      let same : running n par work out (h + 0 + kept par out x - children n par out x) rest
      ≡ running n par work out (h + kept par out x - children n par out x) rest
      = ap (λ k. running n par work out k rest) (omega arith) in
      omega arith

  -- one order, and others behind it
  costs-more :
      (a b : List ℕ) (p o q s : ℕ)
      → Costs n par work out a p o
      → CostsBefore n par work out b q s
      → CostsBefore n par work out (a ++ b) (max p (o + q)) (o + s)
  costs-more a b p o q s c d h x rest =
      let same : running n par work out (h + o + s) (x ∷ rest) ≡ running n par work out (h + (o + s)) (x ∷ rest)
      = ap (λ k. running n par work out k (x ∷ rest)) (omega arith) in
      ap (running n par work out h) (append_assoc a b (x ∷ rest))
      ∙ c h (b ++ x ∷ rest)
      ∙ ap (max (h + p)) (d (h + o) x rest)
      ∙ omega arith

  -- the orders of some children one after another: not less than the cost of lower peaks
  pub each-costs :
      (P : ℕ → List ℕ → Type 0) (best : ℕ → ℕ) (cs l : List ℕ)
      → ((c : ℕ) (a : List ℕ) → mem c cs ≡ true → P c a → (p : ℕ) × Costs n par work out a p (out c) × (best c ≤ p))
      → FinishesEach P cs l
      → (q : ℕ) × CostsBefore n par work out l q (sum_over out cs) × (cost best out cs ≤ q)
  unfolding FinishesEach sum_over cost
  each-costs P best [] l each f = (0, rw f costs-none, omega arith)
  each-costs P best (c ∷ cs) l each f =
      let one = each c f.0 (mem-here c c cs refl) f.3 in
      let rest = each-costs P best cs f.1 (λ d a e. each d a (mem-more d c cs e)) f.4 in (
        max one.0 (out c + rest.0),
        rw f.2 (costs-more f.0 f.1 one.0 (out c) rest.0 (sum_over out cs) one.1 rest.1),
        omega (arith, one.2, rest.2),
      )

  -- given orders, one for each: just their cost
  pub given-costs :
      (f : ℕ → List ℕ) (p : ℕ → ℕ) (cs : List ℕ)
      → ((c : ℕ) → mem c cs ≡ true → Costs n par work out (f c) (p c) (out c))
      → CostsBefore n par work out (flat_map f cs) (cost p out cs) (sum_over out cs)
  unfolding flat_map sum_over cost
  given-costs f p [] each = costs-none
  given-costs f p (c ∷ cs) each =
      costs-more (f c) (flat_map f cs) (p c) (out c) (cost p out cs) (sum_over out cs) (each c (mem-here c c cs refl))
      (given-costs f p cs (λ d e. each d (mem-more d c cs e)))

  -- and then i
  pub node-costs :
      (i : ℕ) (cs a : List ℕ) (q : ℕ)
      → Permuted (children_of n par i) cs
      → CostsBefore n par work out a q (sum_over out cs)
      → Costs n par work out (a ++ i ∷ []) (max q (children n par out i + work i + out i)) (kept par out i)
  unfolding running
  node-costs i cs a q permuted c h rest =
      let all : sum_over out cs ≡ children n par out i = children-along n par i cs permuted out in
      let same : running n par work out (h + sum_over out cs + kept par out i - children n par out i) rest
      ≡ running n par work out (h + kept par out i) rest
      = ap (λ k. running n par work out k rest) (omega arith) in
      ap (running n par work out h) (append_assoc a (i ∷ []) rest)
      ∙ c h i rest
      ∙ omega arith
