-- A word of a store as it is read and written, by the contents of the plan. The store is left open.
use mathlib.Core.Path.{◌≡◌, refl, sym, ap, ◌∙◌}
use mathlib.Core.Bool.{Bool, true, false, cond}
use mathlib.Core.List.{List}
use Prim.Native.Nat.{ℕ, ◌+◌, ◌*◌, ◌<◌}
use native.Mathlib.Omega.{arith}
use lib.Dec.{eqb}
use lib.ListN.{length, set, length-set}
use Rattle.books.specs.Kind.{Kind, of}
use Rattle.numbers.specs.Lists.{at}
use Rattle.books.proofs.EachStore.{of-each}
use Rattle.words.specs.Layout.{row, rows, words, offset, kind_at}
use Rattle.words.specs.Views.{column}
use Rattle.words.specs.Contents.{StoreContents, Contents, head_word, store_contents, contents, store_with_cell, with_cell, store_with_head, with_head}
use Rattle.words.proofs.Views.{column-at}
use Rattle.words.proofs.Contents.{offset-in, contents-cell, contents-head}
use Rattle.store.specs.Store.{store_at, with_store, with_holdings, grown, AtTask, Grown}

-- the plan c whose store of kind k holds other totals, booked trays and figures
abbrev pub holding : Kind → (total used : ℕ) (booked figures : List ℕ) → Contents → Contents
holding k total used booked figures c = with_store k (with_holdings total used booked figures (of c.stores k)) c

-- the words hold the plan c, but for what its store of kind k holds, and are all there
pub record Held (w : List ℕ) (c : Contents) (k : Kind) (t u : ℕ) (b f : List ℕ) : Type 0 where
  pub same : contents w ≡ holding k t u b f c
  pub long : length w ≡ words

-- what a store holds itself
own : (k : Kind) (c : Contents)
    → c ≡ holding k (of c.stores k).total (of c.stores k).used (of c.stores k).booked (of c.stores k).figures c
unfolding with_store with_holdings
own Kind.chilled c = refl

pub holds :
    (w : List ℕ) (k : Kind)
    → (contents w).extent ≡ words
    → Held w (contents w) k (of (contents w).stores k).total (of (contents w).stores k).used (of (contents w).stores k).booked
    (of (contents w).stores k).figures
unfolding contents
holds w k long = record { same = own k (contents w); long = long }

-- the store that is there then
there :
    (k : Kind) (t u : ℕ) (b f : List ℕ) (c : Contents)
    → of (holding k t u b f c).stores k ≡ with_holdings t u b f (of c.stores k)
unfolding with_store
there Kind.chilled t u b f c = refl

-- what a write to a word of a row of the store makes of it
booked-cell :
    (k : Kind) (t u : ℕ) (b f : List ℕ) (c : Contents) (i y : ℕ)
    → with_cell (offset k + 3) i y (holding k t u b f c) ≡ holding k t u (set b i y) f c
unfolding with_cell store_with_cell with_store with_holdings
booked-cell Kind.chilled t u b f c i y = refl

figure-cell :
    (k : Kind) (t u : ℕ) (b f : List ℕ) (c : Contents) (i y : ℕ)
    → with_cell (offset k + 4) i y (holding k t u b f c) ≡ holding k t u b (set f i y) c
unfolding with_cell store_with_cell with_store with_holdings
figure-cell Kind.chilled t u b f c i y = refl

-- and of the head
total_head :
    (k : Kind) (t u : ℕ) (b f : List ℕ) (c : Contents) (y : ℕ)
    → with_head (offset k + 1) y (holding k t u b f c) ≡ holding k y u b f c
unfolding with_head store_with_head with_store with_holdings
total_head Kind.chilled t u b f c y = refl

used-head :
    (k : Kind) (t u : ℕ) (b f : List ℕ) (c : Contents) (y : ℕ)
    → with_head (offset k + 2) y (holding k t u b f c) ≡ holding k t y b f c
unfolding with_head store_with_head with_store with_holdings
used-head Kind.chilled t u b f c y = refl

-- what is read of task i
pub record RowRead (w : List ℕ) (c : Contents) (k : Kind) (b f : List ℕ) (store i : ℕ) : Type 0 where
  pub parent : at w (row * i + 0) ≡ at c.parents i
  pub work : at w (row * i + (store + 0)) ≡ at (of c.stores k).works i
  pub out : at w (row * i + (store + 1)) ≡ at (of c.stores k).outs i
  pub need : at w (row * i + (store + 2)) ≡ at (of c.stores k).needs i
  pub booked : at w (row * i + (store + 3)) ≡ at b i
  pub figure : at w (row * i + (store + 4)) ≡ at f i

module _ {w : List ℕ} {c : Contents} {k : Kind} {t u : ℕ} {b f : List ℕ} (held : Held w c k t u b f) {store : ℕ}
    (here : store ≡ offset k) where
  -- the store in the words
  store_is : store_contents (offset k) w ≡ with_holdings t u b f (of c.stores k)
  unfolding contents
  store_is =
      sym (of-each (λ d. store_contents (offset d) w) k)
      ∙ ap (λ (d : Contents). of d.stores k) held.same
      ∙ there k t u b f c

  pub row_read : (i : ℕ) → i < rows → RowRead w c k b f store i
  unfolding contents store_contents with_holdings with_store
  row_read i h =
      record {
        parent = column-at 0 w i h ∙ ap (λ (d : Contents). at d.parents i) held.same;
        work = ap (at w) (omega arith) ∙ column-at (offset k) w i h ∙ ap (λ (s : StoreContents). at s.works i) store_is;
        out = word 1 ∙ ap (λ (s : StoreContents). at s.outs i) store_is;
        need = word 2 ∙ ap (λ (s : StoreContents). at s.needs i) store_is;
        booked = word 3 ∙ ap (λ (s : StoreContents). at s.booked i) store_is;
        figure = word 4 ∙ ap (λ (s : StoreContents). at s.figures i) store_is;
      }
    where
      word : (j : ℕ) → at w (row * i + (store + j)) ≡ at (column (offset k + j) w) i
      word j = ap (λ (s : ℕ). at w (row * i + (s + j))) here ∙ column-at (offset k + j) w i h

-- and of the head
pub record HeadRead (w : List ℕ) (k : Kind) (store : ℕ) : Type 0 where
  pub bound : at w (row * rows + (store + 0)) ≡ (of (contents w).stores k).bound
  pub total : at w (row * rows + (store + 1)) ≡ (of (contents w).stores k).total
  pub used : at w (row * rows + (store + 2)) ≡ (of (contents w).stores k).used

pub head_read : (w : List ℕ) (k : Kind) (store : ℕ) → store ≡ offset k → HeadRead w k store
unfolding contents store_contents
head_read w k store here =
    record {
      bound = ap (at w) (omega arith) ∙ ap (λ (s : StoreContents). s.bound) lies;
      total = word 1 ∙ ap (λ (s : StoreContents). s.total) lies;
      used = word 2 ∙ ap (λ (s : StoreContents). s.used) lies;
    }
  where
    lies : store_contents (offset k) w ≡ of (contents w).stores k
    lies = sym (of-each (λ d. store_contents (offset d) w) k)

    word : (j : ℕ) → at w (row * rows + (store + j)) ≡ head_word (offset k + j) w
    word j = ap (at w) (omega arith)

-- the same of the store at an offset, as it lies in the words
abbrev pub RowAt : (w : List ℕ) (store i : ℕ) → Type 0
RowAt w store i =
    RowRead w (contents w) (kind_at store) (store_at store (contents w)).booked (store_at store (contents w)).figures store i

pub row_at : (w : List ℕ) {store i : ℕ} → AtTask store i (contents w) → RowAt w store i
row_at w {store} {i} h = row_read (holds w (kind_at store) h.long) h.offset i h.task_in

abbrev pub HeadAt : (w : List ℕ) (store : ℕ) → Type 0
HeadAt w store = HeadRead w (kind_at store) store

pub head_at : (w : List ℕ) {store : ℕ} → store ≡ offset (kind_at store) → HeadAt w store
head_at w {store} h = head_read w (kind_at store) store h

-- the words become w' by a write of y
module _ {w w' : List ℕ} {c : Contents} {k : Kind} {t u : ℕ} {b f : List ℕ} (held : Held w c k t u b f) {store : ℕ}
    (here : store ≡ offset k) {x : ℕ} (y : ℕ) (value : x ≡ y) where
  -- to a word of a row, and of the head
  cell-written :
      (j i : ℕ)
      → j < 5
      → i < rows
      → w' ≡ set w (row * i + (store + j)) x
      → contents w' ≡ with_cell (offset k + j) i y (holding k t u b f c)
  cell-written j i column_in h e =
      let inside = offset-in k in
      ap contents e
      ∙ ap (λ (s : ℕ). contents (set w (row * i + (s + j)) x)) here
      ∙ contents-cell w held.long (offset k + j) i x (omega arith) h
      ∙ (λ z. with_cell (offset k + j) i (value z) (held.same z))

  same_length : (q : ℕ) → w' ≡ set w q x → length w' ≡ words
  same_length q e = ap length e ∙ length-set w q x ∙ held.long

  head-written :
      (j : ℕ)
      → j < 5
      → w' ≡ set w (row * rows + (store + j)) x
      → contents w' ≡ with_head (offset k + j) y (holding k t u b f c)
  head-written j column_in e =
      let inside = offset-in k in
      ap contents e
      ∙ ap (λ (q : ℕ). contents (set w q x)) (omega arith)
      ∙ contents-head w held.long (offset k + j) x (omega arith)
      ∙ (λ z. with_head (offset k + j) (value z) (held.same z))

  pub total-written : w' ≡ set w (row * rows + (store + 1)) x → Held w' c k y u b f
  total-written e =
      record {
        same = head-written 1 (omega arith) e ∙ total_head k t u b f c y;
        long = same_length (row * rows + (store + 1)) e;
      }

  pub used-written : w' ≡ set w (row * rows + (store + 2)) x → Held w' c k t y b f
  used-written e =
      record {
        same = head-written 2 (omega arith) e ∙ used-head k t u b f c y;
        long = same_length (row * rows + (store + 2)) e;
      }

  module _ (i : ℕ) (task_in : i < rows) where
    pub booked-written : w' ≡ set w (row * i + (store + 3)) x → Held w' c k t u (set b i y) f
    booked-written e =
        record {
          same = cell-written 3 i (omega arith) task_in e ∙ booked-cell k t u b f c i y;
          long = same_length (row * i + (store + 3)) e;
        }

    pub figure-written : w' ≡ set w (row * i + (store + 4)) x → Held w' c k t u b (set f i y)
    figure-written e =
        record {
          same = cell-written 4 i (omega arith) task_in e ∙ figure-cell k t u b f c i y;
          long = same_length (row * i + (store + 4)) e;
        }

-- an entry of task i grows, where there is such a task
module _ {w w' : List ℕ} {c : Contents} {k : Kind} {t u : ℕ} {b f : List ℕ} (held : Held w c k t u b f) {store : ℕ}
    (here : store ≡ offset k) {p x : ℕ} (i more : ℕ) (task : p ≡ i) (value : x ≡ more) (in_rows : i < rows) where
  -- by whether there is: b' and f' say what the store holds then
  by-task :
      (j : ℕ) (b' f' : Bool → List ℕ)
      → b ≡ b' true
      → f ≡ f' true
      → (w' ≡ set w (row * i + (store + j)) (at w (row * i + (store + j)) + more) → Held w' c k t u (b' false) (f' false))
      → Grown p (store + j) x w w'
      → Held w' c k t u (b' (eqb i 0)) (f' (eqb i 0))
  by-task j b' f' same-b same-f somebody e =
      go (eqb i 0)
      (e
      ∙ (λ z.
      cond (eqb (task z) 0) w (set w (row * task z + (store + j)) (at w (row * task z + (store + j)) + value z))))
    where
      go :
          (q : Bool)
          → w' ≡ cond q w (set w (row * i + (store + j)) (at w (row * i + (store + j)) + more))
          → Held w' c k t u (b' q) (f' q)
      go true g =
          record {
            same = ap contents g ∙ held.same ∙ (λ z. holding k t u (same-b z) (same-f z) c);
            long = ap length g ∙ held.long;
          }
      go false g = somebody g

  pub booked-grown : Grown p (store + 3) x w w' → Held w' c k t u (grown b i more) f
  booked-grown =
      by-task 3 (λ q. cond q b (set b i (at b i + more))) (λ _. f) refl refl
      (booked-written held here (at b i + more) (ap (λ (v : ℕ). v + more) (row_read held here i in_rows).booked) i in_rows)

  pub figures-grown : Grown p (store + 4) x w w' → Held w' c k t u b (grown f i more)
  figures-grown =
      by-task 4 (λ _. b) (λ q. cond q f (set f i (at f i + more))) refl refl
      (figure-written held here (at f i + more) (ap (λ (v : ℕ). v + more) (row_read held here i in_rows).figure) i in_rows)
