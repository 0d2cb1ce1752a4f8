-- Words of a task and of the head as they are read and written, by the contents of the plan.
use mathlib.Core.Path.{◌≡◌, refl, ap, ◌∙◌}
use mathlib.Core.List.{List}
use Prim.Native.Nat.{ℕ, ◌+◌, ◌*◌, ◌<◌}
use lib.ListN.{length, set}
use Rattle.numbers.specs.Lists.{at}
use Rattle.words.specs.Layout.{row, rows, words, standing}
use Rattle.words.specs.Contents.{Contents, contents, with_cell, with_head}
use Rattle.words.proofs.Views.{column-at}
use Rattle.words.proofs.Contents.{contents-cell, contents-head}

-- columns of a task beside its standing, and words of the head: how many tasks run, and how many have ended
abbrev pub parent_column : ℕ
parent_column = 0

abbrev pub place_column : ℕ
place_column = 2

abbrev pub unended_column : ℕ
unended_column = 3

abbrev pub active_word : ℕ
active_word = 13

abbrev pub ended_word : ℕ
ended_word = 14

-- what is read of task i
pub record RowRead (w : List ℕ) (i : ℕ) : Type 0 where
  pub parent : at w (row * i + parent_column) ≡ at (contents w).parents i
  pub place : at w (row * i + place_column) ≡ at (contents w).places i
  pub unended : at w (row * i + unended_column) ≡ at (contents w).unended i
  pub standing : at w (row * i + standing) ≡ at (contents w).standings i

pub row_read : (w : List ℕ) (i : ℕ) → i < rows → RowRead w i
unfolding contents
row_read w i h =
    record {
      parent = column-at parent_column w i h;
      place = column-at place_column w i h;
      unended = column-at unended_column w i h;
      standing = column-at standing w i h;
    }

-- and of the head
pub record HeadRead (w : List ℕ) : Type 0 where
  pub active : at w (row * rows + active_word) ≡ (contents w).active
  pub ended : at w (row * rows + ended_word) ≡ (contents w).ended

pub head_read : (w : List ℕ) → HeadRead w
unfolding contents
head_read w = record { active = refl; ended = refl }

-- the words w hold c, and become w' by a write
module _ (w : List ℕ) {c : Contents} (holds : contents w ≡ c) (long : c.extent ≡ words) where
  length-is : length w ≡ words
  unfolding contents
  length-is = ap (λ (d : Contents). d.extent) holds ∙ long

  module _ (k : ℕ) (in_row : k < row) {x y : ℕ} (value : x ≡ y) {w' : List ℕ} where
    pub cell-written : (i : ℕ) → i < rows → w' ≡ set w (row * i + k) x → contents w' ≡ with_cell k i y c
    cell-written i h e =
        ap contents e ∙ contents-cell w length-is k i x in_row h ∙ (λ z. with_cell k i (value z) (holds z))

    pub head-written : w' ≡ set w (row * rows + k) x → contents w' ≡ with_head k y c
    head-written e = ap contents e ∙ contents-head w length-is k x in_row ∙ (λ z. with_head k (value z) (holds z))
