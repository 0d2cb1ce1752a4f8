-- Laws of BEGIN's figures: needs and children, summed up task by task.
use mathlib.Core.Path.{◌≡◌, refl, ap, ◌∙◌}
use mathlib.Core.List.{List}
use Prim.Native.Nat.{ℕ, ◌+◌, ◌*◌, ◌≤◌, ◌<◌}
use native.Mathlib.Numerals.{add-one}
use native.Mathlib.Omega.{arith}
use mathlib.Core.Logic.{⊎_elim}
use lib.Dec.{eqb}
use lib.ListN.{length, length-set}
use borrow.Author.Tests.{ne_eqb}
use Rattle.books.specs.Kind.{chilled}
use Rattle.numbers.specs.Sums.{Task, only, sum_to, count_to}
use Rattle.numbers.specs.Lists.{at}
use Rattle.tree.specs.Tree.{children}
use Rattle.tree.specs.Need.{need}
use Rattle.numbers.proofs.Sums.{sum-add, sum-zero, sum-single, sum-most, count-le, only-le, only-false}
use Rattle.numbers.proofs.Tests.{same_or_not, le-or-lt}
use Rattle.words.specs.Layout.{rows}
use Rattle.words.specs.Contents.{Contents}
use Rattle.store.proofs.Entries.{set_more}
use Rattle.numbers.specs.Limits.{max_count}
use Rattle.survey.specs.Prepare.{with_needs, with_figures, plus, weighed, MayWeigh, MayPrepare}

-- a sum with its last term apart
sum-last : (f : ℕ → ℕ) (k : ℕ) → sum_to f (k + 1) ≡ sum_to f k + f (k + 1)
unfolding sum_to
sum-last f k = rw (add-one k)

-- what task c adds to the need of i: its out where it is a child, its work and its out where it is i
abbrev pub adds : (par work out : ℕ → ℕ) → ℕ → ℕ → ℕ
adds par work out i c = only (eqb c i) (work c + out c) + only (eqb (par c) i) (out c)

-- the two columns once the first k of the tasks of a plan are weighed
pub record Partly (c : Contents) (k : ℕ) (needs unended : List ℕ) : Type 0 where
  pub long : (length needs ≡ rows) × (length unended ≡ rows)
  pub within : k ≤ c.size
  pub needed : (i : ℕ) → at needs i ≡ sum_to (adds (at c.parents) (at c.stores.chilled.works) (at c.stores.chilled.outs) i) k
  pub counted : (i : ℕ) → at unended i ≡ count_to (λ j. eqb (at c.parents j) i) k

-- what is left of a plan then
pub record WeighedTo (c : Contents) (k : ℕ) (c' : Contents) : Type 0 where
  pub needs : List ℕ
  pub unended : List ℕ
  pub same : c' ≡ with_figures needs unended c
  pub partly : Partly c k needs unended

module _ (c : Contents) (may : MayPrepare c) where
  abbrev par : ℕ → ℕ
  par = at c.parents

  abbrev work : ℕ → ℕ
  work = at c.stores.chilled.works

  abbrev out : ℕ → ℕ
  out = at c.stores.chilled.outs

  -- nothing is weighed
  pub weighed-none : length c.stores.chilled.needs ≡ rows → length c.unended ≡ rows → WeighedTo c 0 c
  unfolding with_figures with_needs sum_to count_to
  weighed-none long-needs long-unended =
      record {
        needs = c.stores.chilled.needs;
        unended = c.unended;
        same = refl;
        partly =
            record {
              long = (long-needs, long-unended);
              within = omega arith;
              needed = may.rest.needs chilled;
              counted = may.rest.unended;
            };
      }

  module _ (k : ℕ) (needs unended : List ℕ) (partly : Partly c k needs unended) where
    needs-most : (i : ℕ) → at needs i ≤ 3 * max_count * k
    needs-most i =
        let here = partly.needed i in
        let most =
        sum-most (adds par work out i) k (3 * max_count)
        (λ j t.
        let work-light = may.works.light j in
        let out-light = may.outs.light j in
        let own = only-le (eqb j i) (work j + out j) in
        let up = only-le (eqb (par j) i) (out j) in
        omega arith)
        in
        omega arith

    module _ (rest : k < c.size) where
      -- the need of i after its own part
      after-own :
          (i : ℕ) → at (plus needs (k + 1) (work (k + 1) + out (k + 1))) i ≡ at needs i + only (eqb (k + 1) i) (work (k + 1) + out (k + 1))
      after-own i =
          let small = may.small in
          let long = partly.long in
          set_more needs (k + 1) (work (k + 1) + out (k + 1)) i (omega arith)

      -- the stores of task k + 1 are in bounds
      may-weigh : MayWeigh (k + 1) (with_figures needs unended c)
      unfolding with_figures with_needs
      may-weigh =
          let small = may.small in
          let parent = may.parents (k + 1) in
          let work-light = may.works.light (k + 1) in
          let out-light = may.outs.light (k + 1) in
          let mine = needs-most (k + 1) in
          let its = needs-most (par (k + 1)) in
          let after = after-own (par (k + 1)) in
          let most = only-le (eqb (k + 1) (par (k + 1))) (work (k + 1) + out (k + 1)) in
          let counted = partly.counted (par (k + 1)) in
          let few = count-le (λ j. eqb (par j) (par (k + 1))) k in
          record {
            long = may.long;
            here = omega arith;
            parent_in = omega arith;
            own_fits = omega arith;
            parent_fits = omega arith;
            children_fit = omega arith;
          }

      -- and leave it weighed
      one_more :
          Partly c (k + 1) (plus (plus needs (k + 1) (work (k + 1) + out (k + 1))) (par (k + 1)) (out (k + 1)))
          (plus unended (par (k + 1)) 1)
      unfolding count_to
      one_more =
          let small = may.small in
          let parent = may.parents (k + 1) in
          let long = partly.long in
          let wide = length-set needs (k + 1) (at needs (k + 1) + (work (k + 1) + out (k + 1))) in
          record {
            long = (simp length-set long.0, simp length-set long.1);
            within = omega arith;
            needed = λ i.
                (let before = partly.needed i in
                let mine = after-own i in
                let its =
                set_more (plus needs (k + 1) (work (k + 1) + out (k + 1))) (par (k + 1)) (out (k + 1)) i (omega arith)
                in
                let sum = sum-last (adds par work out i) k in
                omega arith);
            counted = λ i.
                (let before = partly.counted i in
                let its = set_more unended (par (k + 1)) 1 i (omega arith) in
                let sum = sum-last (λ j. only (eqb (par j) i) 1) k in
                omega arith);
          }

  -- one task more
  pub weigh-may : (k : ℕ) (c' : Contents) → WeighedTo c k c' → k < c.size → MayWeigh (k + 1) c'
  weigh-may k c' to rest = rw to.same (may-weigh k to.needs to.unended to.partly rest)

  pub weighed-next :
      (k : ℕ) (c' c'' : Contents)
      → WeighedTo c k c'
      → k < c.size
      → c'' ≡ weighed (k + 1) c'
      → WeighedTo c (k + 1) c''
  unfolding weighed with_figures with_needs
  weighed-next k c' c'' to rest e =
      record {
        needs = plus (plus to.needs (k + 1) (work (k + 1) + out (k + 1))) (par (k + 1)) (out (k + 1));
        unended = plus to.unended (par (k + 1)) 1;
        same = e ∙ ap (weighed (k + 1)) to.same;
        partly = one_more k to.needs to.unended to.partly rest;
      }

  -- all tasks: the columns have the needs of the rules, and the numbers of children
  module _ (k : ℕ) (needs unended : List ℕ) (partly : Partly c k needs unended) (end : c.size ≤ k) where
    last : k ≡ c.size
    last = omega (arith, partly.within)

    pub counts-are : (i : ℕ) → at unended i ≡ count_to (λ j. eqb (par j) i) c.size
    counts-are i = rw last at (partly.counted i)

    pub needs-are : (i : ℕ) → at needs i ≡ need c.size par work out i
    unfolding need children
    needs-are i =
        let n = c.size in
        let here = rw last at (partly.needed i) in
        let apart = sum-add (λ j. only (eqb j i) (work j + out j)) (λ j. only (eqb (par j) i) (out j)) n in
        let nobody : ((j : ℕ) → Task n j → j ≡ i → ⊥) → sum_to (λ j. only (eqb j i) (work j + out j)) n ≡ 0 =
        λ other. sum-zero (λ j. only (eqb j i) (work j + out j)) n (λ j t. only-false (eqb j i) (work j + out j) (ne_eqb j i (other j t)))
        in
        ⊎_elim
        (λ (z : i ≡ 0).
        let w = ap work z ∙ may.works.nobody in
        let o = ap out z ∙ may.outs.nobody in
        let none = nobody (λ j t e. omega arith) in
        omega arith)
        (λ (d : i ≡ 0 → ⊥).
        ⊎_elim
        (λ (h : i ≤ n). let own = sum-single (λ j. work j + out j) n i (omega arith) in omega arith)
        (λ (h : n < i).
        let w = may.works.past i h in
        let o = may.outs.past i h in
        let none = nobody (λ j t e. omega arith) in
        omega arith)
        (le-or-lt i n))
        (same_or_not i 0)
