-- The three words to which a task adds, as contents of the plan.
use mathlib.Core.Path.{◌≡◌, ap, ap₂, ◌∙◌}
use mathlib.Core.List.{List}
use Prim.Native.Nat.{ℕ, ◌+◌, ◌*◌, ◌<◌}
use native.Mathlib.Omega.{arith}
use lib.ListN.{length, set, length-set}
use Rattle.numbers.specs.Lists.{at}
use Rattle.words.specs.Layout.{row, rows, words}
use Rattle.words.specs.Contents.{Contents, contents, store_contents, store_with_cell, with_cell}
use Rattle.words.proofs.Views.{column-at}
use Rattle.words.proofs.Contents.{contents-cell}
use Rattle.survey.specs.Prepare.{with_needs, with_figures, plus, own_need, weighed, MayAdd, MayWeigh}

-- the words of a row
abbrev need_column : ℕ
need_column = 7

abbrev unended_column : ℕ
unended_column = 3

-- more in a need, and in a number of children
module _ (w : List ℕ) (i more : ℕ) (long : length w ≡ words) (h : i < rows) where
  need-at : at w (row * i + need_column) ≡ at (contents w).stores.chilled.needs i
  unfolding contents store_contents
  need-at = column-at need_column w i h

  children-at : at w (row * i + unended_column) ≡ at (contents w).unended i
  unfolding contents
  children-at = column-at unended_column w i h

  need-plus :
      contents (set w (row * i + need_column) (at w (row * i + need_column) + more))
      ≡ with_figures (plus (contents w).stores.chilled.needs i more) (contents w).unended (contents w)
  unfolding with_cell store_with_cell with_figures with_needs
  need-plus =
      contents-cell w long need_column i (at w (row * i + need_column) + more) (omega arith) h
      ∙ ap
      (λ (x : ℕ). with_figures (set (contents w).stores.chilled.needs i (x + more)) (contents w).unended (contents w))
      need-at

  children-plus :
      contents (set w (row * i + unended_column) (at w (row * i + unended_column) + more))
      ≡ with_figures (contents w).stores.chilled.needs (plus (contents w).unended i more) (contents w)
  unfolding with_cell store_with_cell with_figures with_needs
  children-plus =
      contents-cell w long unended_column i (at w (row * i + unended_column) + more) (omega arith) h
      ∙ ap
      (λ (x : ℕ). with_figures (contents w).stores.chilled.needs (set (contents w).unended i (x + more)) (contents w))
      children-at

-- task i adds to its own need, then to its parent's, then to its parent's children
module _ (w : List ℕ) (i p work out : ℕ) (may : MayWeigh i (contents w)) (parent : p ≡ at (contents w).parents i)
    (works : work ≡ at (contents w).stores.chilled.works i) (outs : out ≡ at (contents w).stores.chilled.outs i) where
  long : length w ≡ words
  unfolding contents
  long = may.long

  pub may-own : MayAdd i need_column (work + out) w
  may-own =
      let here = need-at w i 0 long may.here in
      let fits = may.own_fits in
      record { line_in = may.here; column_in = omega arith; fits = omega arith }

  module _ (w₁ : List ℕ) (own : w₁ ≡ set w (row * i + need_column) (at w (row * i + need_column) + (work + out))) where
    long₁ : length w₁ ≡ words
    long₁ = ap length own ∙ length-set w (row * i + need_column) (at w (row * i + need_column) + (work + out)) ∙ long

    after-own : contents w₁ ≡ with_figures (own_need (contents w) i) (contents w).unended (contents w)
    after-own =
        ap contents own
        ∙ need-plus w i (work + out) long may.here
        ∙ ap₂
        (λ (a b : ℕ). with_figures (plus (contents w).stores.chilled.needs i (a + b)) (contents w).unended (contents w))
        works
        outs

    p-in : p < rows
    p-in = let in_rows = may.parent_in in omega arith

    pub may-parent : MayAdd p need_column out w₁
    unfolding with_figures with_needs
    may-parent =
        let here : at w₁ (row * p + need_column) ≡ at (own_need (contents w) i) (at (contents w).parents i) =
        need-at w₁ p 0 long₁ p-in ∙ ap₂ (λ (k : Contents) (q : ℕ). at k.stores.chilled.needs q) after-own parent
        in
        let fits = may.parent_fits in
        record { line_in = p-in; column_in = omega arith; fits = omega arith }

    module _ (w₂ : List ℕ) (up : w₂ ≡ set w₁ (row * p + need_column) (at w₁ (row * p + need_column) + out)) where
      long₂ : length w₂ ≡ words
      long₂ = ap length up ∙ length-set w₁ (row * p + need_column) (at w₁ (row * p + need_column) + out) ∙ long₁

      after-parent :
          contents w₂
          ≡ with_figures (plus (own_need (contents w) i) (at (contents w).parents i) (at (contents w).stores.chilled.outs i))
          (contents w).unended (contents w)
      unfolding with_figures with_needs
      after-parent =
          ap contents up
          ∙ need-plus w₁ p out long₁ p-in
          ∙ ap (λ (k : Contents). with_figures (plus k.stores.chilled.needs p out) k.unended k) after-own
          ∙ ap₂ (λ (q x : ℕ). with_figures (plus (own_need (contents w) i) q x) (contents w).unended (contents w)) parent outs

      pub may-child : MayAdd p unended_column 1 w₂
      unfolding with_figures
      may-child =
          let here : at w₂ (row * p + unended_column) ≡ at (contents w).unended (at (contents w).parents i) =
          children-at w₂ p 0 long₂ p-in ∙ ap₂ (λ (k : Contents) (q : ℕ). at k.unended q) after-parent parent
          in
          let fits = may.children_fit in
          record { line_in = p-in; column_in = omega arith; fits = omega arith }

      pub weighed-is :
          (w₃ : List ℕ)
          → w₃ ≡ set w₂ (row * p + unended_column) (at w₂ (row * p + unended_column) + 1)
          → contents w₃ ≡ weighed i (contents w)
      unfolding weighed with_figures with_needs
      weighed-is w₃ child =
          ap contents child
          ∙ children-plus w₂ p 1 long₂ p-in
          ∙ ap (λ (k : Contents). with_figures k.stores.chilled.needs (plus k.unended p 1) k) after-parent
          ∙ ap
          (λ (q : ℕ).
          with_figures (plus (own_need (contents w) i) (at (contents w).parents i) (at (contents w).stores.chilled.outs i))
          (plus (contents w).unended q 1) (contents w))
          parent
