-- What a write leaves of the contents of a plan.
use mathlib.Core.Path.{◌≡◌, sym, ap, ◌∙◌}
use mathlib.Core.Bool.{Bool, cond}
use mathlib.Core.Logic.{◌⊎◌, inl, inr, ⊎_elim}
use mathlib.Core.List.{List}
use Prim.Native.Nat.{ℕ, ◌+◌, ◌*◌, ◌≤◌, ◌<◌}
use native.Mathlib.Omega.{arith}
use lib.ListN.{length, set, length-set}
use lib.Seq.{get_or-set_same, get_or-set_other}
use borrow.Author.Tests.{eq-eqb, ne_eqb}
use Rattle.books.specs.Kind.{Kind, of, each}
use Rattle.numbers.specs.Lists.{at}
use Rattle.numbers.proofs.Tests.{same_or_not}
use Rattle.books.proofs.EachStore.{of-each}
use Rattle.words.specs.Layout.{row, rows, words, head_base, entries, activation_base, execution_base, blocks, ready_base, filled_word, offset}
use Rattle.words.specs.Views.{column, part}
use Rattle.words.specs.Contents.{Contents, head_word, store_contents, contents, renewed, edited, store_with_cell, with_cell, store_with_head, with_head, with_orders, with_ready}
use Rattle.words.proofs.Views.{view-other, column-length, column-set, part_length, part-set}

-- the columns of a store are in the row
pub offset-in : (k : Kind) → offset k + 5 ≤ row
offset-in Kind.chilled = omega arith

-- a word of a row of a task is written
module _ (w : List ℕ) (long : length w ≡ words) (j i x : ℕ) (in_row : j < row) (in_rows : i < rows) where
  column-edited : (k : ℕ) → k < row → column k (set w (row * i + j) x) ≡ edited k j i x (column k w)
  column-edited k h =
      ⊎_elim
      (λ (e : k ≡ j).
      ap (λ (m : ℕ). column k (set w (row * i + m) x)) (sym e)
      ∙ column-set k w i x in_rows (omega arith)
      ∙ sym (ap (λ (b : Bool). cond b (set (column k w) i x) (column k w)) (eq-eqb k j e)))
      (λ d.
      view-other rows (λ m. row * m + k) w (row * i + j) x (λ m _ f. d (omega arith))
      ∙ sym (ap (λ (b : Bool). cond b (set (column k w) i x) (column k w)) (ne_eqb k j d)))
      (same_or_not k j)

  beside-rows : (base count : ℕ) → head_base ≤ base → part base count (set w (row * i + j) x) ≡ part base count w
  beside-rows base count h = view-other count (λ m. base + m) w (row * i + j) x (λ m _ f. omega arith)

  word-beside : (q : ℕ) → head_base ≤ q → at (set w (row * i + j) x) q ≡ at w q
  word-beside q h = get_or-set_other w (row * i + j) q x 0 (λ e. omega arith)

  store-cell :
      (store : ℕ)
      → store + 5 ≤ row
      → store_contents store (set w (row * i + j) x) ≡ store_with_cell store j i x (store_contents store w)
  unfolding store_contents store_with_cell
  store-cell store h =
      λ z.
      record {
        bound = word-beside (head_base + store) (omega arith) z;
        total = word-beside (head_base + (store + 1)) (omega arith) z;
        used = word-beside (head_base + (store + 2)) (omega arith) z;
        works = column-edited store (omega arith) z;
        outs = column-edited (store + 1) (omega arith) z;
        needs = column-edited (store + 2) (omega arith) z;
        booked = column-edited (store + 3) (omega arith) z;
        figures = column-edited (store + 4) (omega arith) z;
      }

  pub contents-cell : contents (set w (row * i + j) x) ≡ with_cell j i x (contents w)
  unfolding contents with_cell
  contents-cell =
      λ z.
      record {
        extent = length-set w (row * i + j) x z;
        phase = word-beside head_base (omega arith) z;
        size = word-beside (head_base + 1) (omega arith) z;
        processors = word-beside (head_base + 2) (omega arith) z;
        given = word-beside (head_base + 3) (omega arith) z;
        ranked = word-beside (head_base + 4) (omega arith) z;
        placed = word-beside (head_base + 8) (omega arith) z;
        next = word-beside (head_base + 9) (omega arith) z;
        active = word-beside (head_base + 13) (omega arith) z;
        ended = word-beside (head_base + 14) (omega arith) z;
        parents = column-edited 0 (omega arith) z;
        ranks = column-edited 1 (omega arith) z;
        places = column-edited 2 (omega arith) z;
        unended = column-edited 3 (omega arith) z;
        standings = column-edited 4 (omega arith) z;
        stores = each (λ k. store-cell (offset k) (offset-in k) z);
        activation = beside-rows activation_base entries (omega arith) z;
        execution = beside-rows execution_base entries (omega arith) z;
        ready = beside-rows ready_base blocks (omega arith) z;
        filled = word-beside filled_word (omega arith) z;
      }

-- a word of the head is written
module _ (w : List ℕ) (long : length w ≡ words) (j x : ℕ) (in_row : j < row) where
  word-renewed : (k : ℕ) → head_word k (set w (head_base + j) x) ≡ renewed k j x (head_word k w)
  word-renewed k =
      ⊎_elim
      (λ (e : k ≡ j).
      ap (λ (m : ℕ). head_word k (set w (head_base + m) x)) (sym e)
      ∙ get_or-set_same w (head_base + k) x 0 (omega arith)
      ∙ sym (ap (λ (b : Bool). cond b x (head_word k w)) (eq-eqb k j e)))
      (λ d.
      get_or-set_other w (head_base + j) (head_base + k) x 0 (λ e. d (omega arith))
      ∙ sym (ap (λ (b : Bool). cond b x (head_word k w)) (ne_eqb k j d)))
      (same_or_not k j)

  column-beside-head : (k : ℕ) → k < row → column k (set w (head_base + j) x) ≡ column k w
  column-beside-head k h = view-other rows (λ m. row * m + k) w (head_base + j) x (λ m b f. omega arith)

  part-beside-head : (base count : ℕ) → activation_base ≤ base → part base count (set w (head_base + j) x) ≡ part base count w
  part-beside-head base count h = view-other count (λ m. base + m) w (head_base + j) x (λ m _ f. omega arith)

  store-head :
      (store : ℕ)
      → store + 5 ≤ row
      → store_contents store (set w (head_base + j) x) ≡ store_with_head store j x (store_contents store w)
  unfolding store_contents store_with_head
  store-head store h =
      λ z.
      record {
        bound = word-renewed store z;
        total = word-renewed (store + 1) z;
        used = word-renewed (store + 2) z;
        works = column-beside-head store (omega arith) z;
        outs = column-beside-head (store + 1) (omega arith) z;
        needs = column-beside-head (store + 2) (omega arith) z;
        booked = column-beside-head (store + 3) (omega arith) z;
        figures = column-beside-head (store + 4) (omega arith) z;
      }

  pub contents-head : contents (set w (head_base + j) x) ≡ with_head j x (contents w)
  unfolding contents with_head
  contents-head =
      λ z.
      record {
        extent = length-set w (head_base + j) x z;
        phase = word-renewed 0 z;
        size = word-renewed 1 z;
        processors = word-renewed 2 z;
        given = word-renewed 3 z;
        ranked = word-renewed 4 z;
        placed = word-renewed 8 z;
        next = word-renewed 9 z;
        active = word-renewed 13 z;
        ended = word-renewed 14 z;
        parents = column-beside-head 0 (omega arith) z;
        ranks = column-beside-head 1 (omega arith) z;
        places = column-beside-head 2 (omega arith) z;
        unended = column-beside-head 3 (omega arith) z;
        standings = column-beside-head 4 (omega arith) z;
        stores = each (λ k. store-head (offset k) (offset-in k) z);
        activation = part-beside-head activation_base entries (omega arith) z;
        execution = part-beside-head execution_base entries (omega arith) z;
        ready = part-beside-head ready_base blocks (omega arith) z;
        filled = get_or-set_other w (head_base + j) filled_word x 0 (λ e. omega arith) z;
      }

-- a word behind the rows is written
module _ (w : List ℕ) (q x : ℕ) (behind : activation_base ≤ q) where
  word-before : (k : ℕ) → k < row → head_word k (set w q x) ≡ head_word k w
  word-before k h = get_or-set_other w q (head_base + k) x 0 (λ e. omega arith)

  column-before : (k : ℕ) → k < row → column k (set w q x) ≡ column k w
  column-before k h = view-other rows (λ m. row * m + k) w q x (λ m b f. omega arith)

  store-before : (store : ℕ) → store + 5 ≤ row → store_contents store (set w q x) ≡ store_contents store w
  unfolding store_contents
  store-before store h =
      λ z.
      record {
        bound = word-before store (omega arith) z;
        total = word-before (store + 1) (omega arith) z;
        used = word-before (store + 2) (omega arith) z;
        works = column-before store (omega arith) z;
        outs = column-before (store + 1) (omega arith) z;
        needs = column-before (store + 2) (omega arith) z;
        booked = column-before (store + 3) (omega arith) z;
        figures = column-before (store + 4) (omega arith) z;
      }

  contents-behind :
      contents (set w q x)
      ≡ with_ready (part ready_base blocks (set w q x)) (at (set w q x) filled_word)
      (with_orders (part activation_base entries (set w q x)) (part execution_base entries (set w q x)) (contents w))
  unfolding contents with_ready with_orders
  contents-behind =
      λ z.
      record {
        extent = length-set w q x z;
        phase = word-before 0 (omega arith) z;
        size = word-before 1 (omega arith) z;
        processors = word-before 2 (omega arith) z;
        given = word-before 3 (omega arith) z;
        ranked = word-before 4 (omega arith) z;
        placed = word-before 8 (omega arith) z;
        next = word-before 9 (omega arith) z;
        active = word-before 13 (omega arith) z;
        ended = word-before 14 (omega arith) z;
        parents = column-before 0 (omega arith) z;
        ranks = column-before 1 (omega arith) z;
        places = column-before 2 (omega arith) z;
        unended = column-before 3 (omega arith) z;
        standings = column-before 4 (omega arith) z;
        stores = each (λ k. store-before (offset k) (offset-in k) z);
        activation = part activation_base entries (set w q x);
        execution = part execution_base entries (set w q x);
        ready = part ready_base blocks (set w q x);
        filled = at (set w q x) filled_word;
      }

module _ (w : List ℕ) (long : length w ≡ words) (e x : ℕ) where
  other-part :
      (base count q : ℕ) → (q < base) ⊎ (base + count ≤ q) → part base count (set w q x) ≡ part base count w
  other-part base count q out =
      view-other count (λ m. base + m) w q x
      (λ m h f. ⊎_elim (λ (l : q < base). omega arith) (λ (l : base + count ≤ q). omega arith) out)

  -- an entry of the activation order
  pub contents-activation :
      e < entries
      → contents (set w (activation_base + e) x) ≡ with_orders (set (contents w).activation e x) (contents w).execution (contents w)
  unfolding contents with_orders with_ready
  contents-activation h =
      contents-behind w (activation_base + e) x (omega arith)
      ∙ (λ z.
      with_ready (other-part ready_base blocks (activation_base + e) (inl (omega arith)) z)
      (get_or-set_other w (activation_base + e) filled_word x 0 (λ f. omega arith) z)
      (with_orders (part-set activation_base entries w e x h (omega arith) z)
      (other-part execution_base entries (activation_base + e) (inl (omega arith)) z) (contents w)))

  -- an entry of the execution order
  pub contents-execution :
      e < entries
      → contents (set w (execution_base + e) x) ≡ with_orders (contents w).activation (set (contents w).execution e x) (contents w)
  unfolding contents with_orders with_ready
  contents-execution h =
      contents-behind w (execution_base + e) x (omega arith)
      ∙ (λ z.
      with_ready (other-part ready_base blocks (execution_base + e) (inl (omega arith)) z)
      (get_or-set_other w (execution_base + e) filled_word x 0 (λ f. omega arith) z)
      (with_orders (other-part activation_base entries (execution_base + e) (inr (omega arith)) z)
      (part-set execution_base entries w e x h (omega arith) z) (contents w)))

  -- a word of the ready set
  pub contents-ready :
      e < blocks
      → contents (set w (ready_base + e) x) ≡ with_ready (set (contents w).ready e x) (contents w).filled (contents w)
  unfolding contents with_orders with_ready
  contents-ready h =
      contents-behind w (ready_base + e) x (omega arith)
      ∙ (λ z.
      with_ready (part-set ready_base blocks w e x h (omega arith) z)
      (get_or-set_other w (ready_base + e) filled_word x 0 (λ f. omega arith) z)
      (with_orders (other-part activation_base entries (ready_base + e) (inr (omega arith)) z)
      (other-part execution_base entries (ready_base + e) (inr (omega arith)) z) (contents w)))

-- the word that says which words of the ready set are not 0
pub contents-filled :
    (w : List ℕ)
    → length w ≡ words
    → (x : ℕ)
    → contents (set w filled_word x) ≡ with_ready (contents w).ready x (contents w)
unfolding contents with_orders with_ready
contents-filled w long x =
    contents-behind w filled_word x (omega arith)
    ∙ (λ z.
    with_ready (other-part w long 0 x ready_base blocks filled_word (inr (omega arith)) z)
    (get_or-set_same w filled_word x 0 (omega arith) z)
    (with_orders (other-part w long 0 x activation_base entries filled_word (inr (omega arith)) z)
    (other-part w long 0 x execution_base entries filled_word (inr (omega arith)) z) (contents w)))

-- the lengths of the columns and of the parts
pub record Lengths (c : Contents) : Type 0 where
  pub parents : length c.parents ≡ rows
  pub ranks : length c.ranks ≡ rows
  pub places : length c.places ≡ rows
  pub unended : length c.unended ≡ rows
  pub standings : length c.standings ≡ rows
  pub works : (k : Kind) → length (of c.stores k).works ≡ rows
  pub outs : (k : Kind) → length (of c.stores k).outs ≡ rows
  pub needs : (k : Kind) → length (of c.stores k).needs ≡ rows
  pub booked : (k : Kind) → length (of c.stores k).booked ≡ rows
  pub figures : (k : Kind) → length (of c.stores k).figures ≡ rows
  pub activation : length c.activation ≡ entries
  pub execution : length c.execution ≡ entries
  pub ready : length c.ready ≡ blocks

pub lengths : (w : List ℕ) → Lengths (contents w)
unfolding contents store_contents
lengths w =
    record {
      parents = column-length 0 w;
      ranks = column-length 1 w;
      places = column-length 2 w;
      unended = column-length 3 w;
      standings = column-length 4 w;
      works = λ k. rw (of-each (λ d. store_contents (offset d) w) k) (column-length (offset k) w);
      outs = λ k. rw (of-each (λ d. store_contents (offset d) w) k) (column-length (offset k + 1) w);
      needs = λ k. rw (of-each (λ d. store_contents (offset d) w) k) (column-length (offset k + 2) w);
      booked = λ k. rw (of-each (λ d. store_contents (offset d) w) k) (column-length (offset k + 3) w);
      figures = λ k. rw (of-each (λ d. store_contents (offset d) w) k) (column-length (offset k + 4) w);
      activation = part_length activation_base entries w;
      execution = part_length execution_base entries w;
      ready = part_length ready_base blocks w;
    }

-- a word was written, by what a contract says of it; the number of words stays
pub wrote-cell :
    (w : List ℕ) {w' : List ℕ} (j i x : ℕ)
    → length w ≡ words
    → j < row
    → i < rows
    → w' ≡ set w (row * i + j) x
    → (contents w' ≡ with_cell j i x (contents w)) × (length w' ≡ words)
wrote-cell w j i x long h b e =
    (ap contents e ∙ contents-cell w long j i x h b, ap length e ∙ length-set w (row * i + j) x ∙ long)

pub wrote-head :
    (w : List ℕ) {w' : List ℕ} (j x : ℕ)
    → length w ≡ words
    → j < row
    → w' ≡ set w (head_base + j) x
    → (contents w' ≡ with_head j x (contents w)) × (length w' ≡ words)
wrote-head w j x long h e =
    (ap contents e ∙ contents-head w long j x h, ap length e ∙ length-set w (head_base + j) x ∙ long)
