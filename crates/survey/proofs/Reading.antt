-- A word of a plan as an entry of its contents.
use mathlib.Core.Path.{◌≡◌}
use mathlib.Core.List.{List}
use Prim.Native.Nat.{ℕ, ◌+◌, ◌*◌, ◌<◌}
use native.Mathlib.Numerals.{unary_clauses}
use Rattle.numbers.specs.Lists.{at}
use Rattle.words.specs.Layout.{row, rows, entries, activation_base}
use Rattle.words.specs.Contents.{contents, store_contents}
use Rattle.words.proofs.Views.{column-at, part_at}

module _ (w : List ℕ) (i : ℕ) (h : i < rows) where
  pub parent-at : at w (row * i + 0) ≡ at (contents w).parents i
  unfolding contents
  parent-at = column-at 0 w i h

  pub rank-at : at w (row * i + 1) ≡ at (contents w).ranks i
  unfolding contents
  rank-at = column-at 1 w i h

  pub work-at : (store : ℕ) → at w (row * i + (store + 0)) ≡ at (store_contents store w).works i
  unfolding store_contents
  work-at store = simp unary_clauses (column-at store w i h)

  pub out_at : (store : ℕ) → at w (row * i + (store + 1)) ≡ at (store_contents store w).outs i
  unfolding store_contents
  out_at store = column-at (store + 1) w i h

pub activation-at : (w : List ℕ) (e : ℕ) → e < entries → at w (activation_base + e) ≡ at (contents w).activation e
unfolding contents
activation-at w e h = part_at activation_base entries w e h
