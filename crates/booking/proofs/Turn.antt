-- One turn of booking ahead: the first waiting task is booked with what it misses, where that fits.
use mathlib.Core.Path.{◌≡◌, refl, sym, ap, ap₂, subst, ◌∙◌}
use mathlib.Core.Bool.{Bool, true, false, ◌&&◌}
use mathlib.Core.Logic.{inl, inr, ⊎_elim}
use mathlib.Core.List.{List, [], ◌∷◌, ◌++◌}
use Prim.Native.Nat.{ℕ, suc, ◌+◌, ◌-◌, ◌^◌, ◌<◌}
use native.Mathlib.Omega.{arith}
use lib.Dec.{eqb, leb}
use lib.ListN.{length, take, drop, set, length-set, take-append-drop}
use lib.Seq.{get_or-set_same, drop-cons, get_or-take, length-take-le}
use borrow.Author.Tests.{eq-eqb, ne_eqb}
use Rattle.numbers.specs.Sums.{Task, only, within}
use Rattle.books.specs.Kind.{Kind, each, all}
use Rattle.numbers.specs.Lists.{at}
use Rattle.books.specs.Standing.{waiting, activated, finished}
use Rattle.books.specs.Booking.{Terms, Books, booked_in, total, missing, misses, allows_in, allows, book, ready, fed}
use Rattle.tree.specs.Tree.{rank_in, Tree}
use Rattle.books.specs.Invariant.{FirstWaiting, StockedBy, Good}
use Rattle.numbers.proofs.Tests.{same_or_not}
use Rattle.books.proofs.EachStore.{of-each, all_same, each_same}
use Rattle.numbers.proofs.Sums.{term-le, sum-change, only-true}
use Rattle.tree.proofs.Orders.{within-task, every-mem, mem-at, place-lt, place_at, place_of}
use Rattle.tree.proofs.Ranks.{tree_of, in-front}
use Rattle.tree.proofs.Tree.{parent-task}
use Rattle.books.proofs.Shape.{Moved, child-before, same_ended}
use Rattle.books.proofs.Balance.{missing-is}
use Rattle.books.proofs.Entries.{moved-by-set}
use Rattle.books.proofs.Ahead.{book-good}
use Rattle.words.specs.Layout.{rows}
use Rattle.store.specs.Rows.{rows_of, books_in}
use Rattle.store.specs.Cached.{Figured, Counted, Reached}
use Rattle.store.specs.Store.{grown}
use Rattle.store.specs.Kept.{DayInvariant}
use Rattle.store.proofs.Rows.{at_rows, rows-set, rows-length}
use Rattle.store.proofs.Figures.{partial-figure, partial-le-figure, partial-booked, figure-le-total}
use Rattle.store.proofs.Entries.{set_more, grown-at}
use Rattle.store.proofs.Unended.{unended-same, fed-is, ready-same}
use Rattle.store.proofs.Idle.{Idle}

-- a task waits still: what is kept of the tasks, as lists
pub record Turn (n : ℕ) (par : ℕ → ℕ) (terms : Kind → Terms) (order unended standings : List ℕ) (booked figures : Kind → List ℕ) (next : ℕ)
    (sum : Kind → ℕ) : Type 0 where
  pub invariant : DayInvariant n par terms order (books_in n standings booked)
  pub figured : (k : Kind) → Figured n par (at (rows_of n standings)) (at (rows_of n (booked k))) (figures k)
  pub counted : Counted n par (books_in n standings booked) unended
  pub reached : Reached n order (books_in n standings booked) next
  pub totals : (k : Kind) → sum k ≡ total n (at (rows_of n (booked k)))
  pub standings-long : length standings ≡ rows
  pub booked-long : (k : Kind) → length (booked k) ≡ rows
  pub figures-long : (k : Kind) → length (figures k) ≡ rows
  pub more : next < n

module _ {n : ℕ} {par : ℕ → ℕ} {terms : Kind → Terms} {order unended standings : List ℕ} {booked figures : Kind → List ℕ} {next : ℕ}
    {sum : Kind → ℕ} (turn : Turn n par terms order unended standings booked figures next sum) where
  -- the task, and what it misses by its figure
  abbrev x : ℕ
  x = at order next

  abbrev m : Kind → ℕ
  m k = (terms k).need x - at (figures k) x

  in_order : next < length order
  in_order = let size = turn.invariant.valid.whole in let more = turn.more in omega arith

  entry-task : (e : ℕ) → e < n → Task n (at order e)
  entry-task e h =
      within-task n (at order e)
      (every-mem (λ i. within i n) order (at order e) turn.invariant.valid.inside
      (mem-at order e (let size = turn.invariant.valid.whole in omega arith)))

  pub task : Task n x
  task = entry-task next turn.more

  pub task_in : x < rows
  task_in = let s = turn.invariant.small in let h = task.high in omega arith

  tree : Tree n par (rank_in order)
  tree = tree_of n par order turn.invariant.valid (λ i _. turn.invariant.parents i)

  pub parent_in : par x < rows
  parent_in = let h = turn.invariant.parents x in let s = turn.invariant.small in omega arith

  -- what is to come
  pub rest : drop next order ≡ x ∷ drop (suc next) order
  rest = drop-cons order next 0 in_order

  whole : order ≡ take next order ++ x ∷ drop (suc next) order
  whole = sym (take-append-drop next order) ∙ ap (λ (l : List ℕ). take next order ++ l) rest

  -- it is the first that waits
  pub next-is-first : FirstWaiting n (rank_in order) (at (rows_of n standings)) x
  next-is-first =
      record {
        task = task;
        waits = turn.reached.from_next next (omega arith) turn.more;
        first =
            λ j _ h w.
            let f = in-front n par order turn.invariant.valid (take next order) x (drop (suc next) order) whole j h in
            let size = length-take-le next order (let l = in_order in omega arith) in
            let low = place-lt j (take next order) f in
            let found : at order (rank_in (take next order) j) ≡ j =
            sym (get_or-take next order (rank_in (take next order) j) 0 (omega arith)) ∙ place_at j (take next order) f
            in
            turn.reached.before_next (rank_in (take next order) j) (omega arith) (ap (at (rows_of n standings)) found ∙ w);
      }

  pub waits : at (rows_of n standings) x ≡ waiting
  waits = next-is-first.waits

  no-child-waits : (c : ℕ) → Task n c → par c ≡ x → at (rows_of n standings) c ≡ waiting → ⊥
  no-child-waits c t e =
      next-is-first.first c t
      (child-before n par (rank_in order) tree (at (rows_of n standings)) turn.invariant.good.shape x c task t e)

  -- a store as it is kept
  stock : (k : Kind) → StockedBy n par (terms k) (at (rows_of n standings)) (rows_of n (booked k))
  stock k = rw (of-each (λ d. rows_of n (booked d)) k) at (turn.invariant.good.stock k)

  -- what it misses by the rules
  pub misses-it : (k : Kind) → misses n par terms (books_in n standings booked) k x ≡ m k
  unfolding misses
  misses-it k =
      ap (λ (b : List ℕ). missing n par (terms k).need (at (rows_of n standings)) (at b) x) (of-each (λ d. rows_of n (booked d)) k)
      ∙ missing-is n par (rank_in order) tree (terms k).need (terms k).out (at (rows_of n standings)) (at (rows_of n (booked k)))
      turn.invariant.good.shape [] 0 (stock k).books x task
      ∙ ap (λ (v : ℕ). (terms k).need x - v)
      (sym (partial-figure n par (rank_in order) tree (at (rows_of n standings)) (at (rows_of n (booked k))) x task no-child-waits)
      ∙ sym (turn.figured k x task))

  -- whether it may be booked
  pub allowed-is : all (λ k. leb (sum k + m k) (terms k).bound) ≡ allows n par terms (books_in n standings booked) x
  unfolding allows allows_in
  allowed-is =
      all_same _ _
      (λ k.
      ap₂ (λ (a b : ℕ). leb (a + b) (terms k).bound)
      (turn.totals k ∙ ap (λ (b : List ℕ). total n (at b)) (sym (of-each (λ d. rows_of n (booked d)) k))) (sym (misses-it k)))

  module _ (fits : all (λ k. leb (sum k + m k) (terms k).bound) ≡ true) where
    -- the columns once it is booked
    abbrev standings' : List ℕ
    standings' = set standings x activated

    abbrev booked' : Kind → List ℕ
    booked' k = set (booked k) x (at (booked k) x + m k)

    abbrev figures' : Kind → List ℕ
    figures' k = grown (set (figures k) x (at (figures k) x + m k)) (par x) (at (figures k) x + m k)

    allowed : allows n par terms (books_in n standings booked) x ≡ true
    allowed = sym allowed-is ∙ fits

    -- the books of the rules are those of the columns
    pub books-are : books_in n standings' booked' ≡ book n par terms (books_in n standings booked) x
    unfolding book
    books-are =
        let high = task.high in
        let same : each (λ k. rows_of n (booked' k)) ≡ each (λ k. set (booked_in (books_in n standings booked) k) x (at (booked_in (books_in n standings booked) k) x + misses n par terms (books_in n standings booked) k x)) =
        each_same _ _
        (λ k.
        rows-set n (booked k) x (at (booked k) x + m k) high
        ∙ ap₂ (λ (a b : ℕ). set (rows_of n (booked k)) x (a + b)) (sym (at_rows n (booked k) x high)) (sym (misses-it k))
        ∙ ap (λ (l : List ℕ). set l x (at l x + misses n par terms (books_in n standings booked) k x)) (sym (of-each (λ d. rows_of n (booked d)) k)))
        in
        λ i. record { standings = rows-set n standings x activated high i; booked = same i }

    pub invariant-then : DayInvariant n par terms order (books_in n standings' booked')
    invariant-then =
        let g = turn.invariant in
        record {
          small = g.small;
          bounded = g.bounded;
          valid = g.valid;
          parents = g.parents;
          roomy = g.roomy;
          good =
              subst (λ (b : Books). Good n par (rank_in order) terms b) (sym books-are)
              (book-good n par order g.valid tree terms g.roomy (books_in n standings booked) x g.good next-is-first allowed);
        }

    pub stock-then : (k : Kind) → StockedBy n par (terms k) (at (rows_of n standings')) (rows_of n (booked' k))
    stock-then k = rw (of-each (λ d. rows_of n (booked' d)) k) at (invariant-then.good.stock k)

    -- the standings
    moved : Moved n (at (rows_of n standings)) (at (rows_of n standings')) x activated
    moved =
        subst (λ (l : List ℕ). Moved n (at (rows_of n standings)) (at l) x activated) (sym (rows-set n standings x activated task.high))
        (moved-by-set n (rows_of n standings) x activated
        (rows-length n standings (let z = turn.standings-long in let s = turn.invariant.small in omega arith)) task)

    pub idle : Idle n (at (rows_of n standings)) (at (rows_of n standings'))
    idle i t =
        ⊎_elim
        (λ e.
        let w = waits in
        let old : at (rows_of n standings) i ≡ waiting = ap (at (rows_of n standings)) e ∙ w in
        let new : at (rows_of n standings') i ≡ activated = ap (at (rows_of n standings')) e ∙ moved.there in
        inr (omega arith, omega arith))
        (λ d. inl (moved.elsewhere i t d))
        (same_or_not i x)

    -- nobody ends
    ended_same : (c : ℕ) → Task n c → eqb (at (rows_of n standings') c) finished ≡ eqb (at (rows_of n standings) c) finished
    ended_same = same_ended moved (λ e. let w = waits in omega arith) (λ e. omega arith)

    pub counted-then : Counted n par (books_in n standings' booked') unended
    counted-then i t =
        turn.counted i t ∙ sym (unended-same n par (at (rows_of n standings)) (at (rows_of n standings')) i ended_same)

    -- whether it is ready, before and after, and the others
    pub not_ready : ready n par (rows_of n standings) x ≡ false
    unfolding ready
    not_ready =
        ap (λ (b : Bool). b && fed n par (at (rows_of n standings)) x)
        (ne_eqb (at (rows_of n standings) x) activated (λ e. let w = waits in omega arith))

    pub ready-then : ready n par (rows_of n standings') x ≡ eqb (at unended x) 0
    unfolding ready
    ready-then =
        ap (λ (b : Bool). b && fed n par (at (rows_of n standings')) x) (eq-eqb (at (rows_of n standings') x) activated moved.there)
        ∙ fed-is n par (at (rows_of n standings')) x
        ∙ ap (λ (v : ℕ). eqb v 0) (sym (counted-then x task))

    pub ready-others : (i : ℕ) → Task n i → (i ≡ x → ⊥) → ready n par (rows_of n standings') i ≡ ready n par (rows_of n standings) i
    ready-others i t d = ready-same n par (rows_of n standings) (rows_of n standings') i ended_same (moved.elsewhere i t d)

    -- the booked trays
    gets : (k : Kind) → Moved n (at (rows_of n (booked k))) (at (rows_of n (booked' k))) x (at (rows_of n (booked k)) x + m k)
    gets k =
        let same : rows_of n (booked' k) ≡ set (rows_of n (booked k)) x (at (rows_of n (booked k)) x + m k) =
        rows-set n (booked k) x (at (booked k) x + m k) task.high
        ∙ ap (λ (v : ℕ). set (rows_of n (booked k)) x (v + m k)) (sym (at_rows n (booked k) x task.high))
        in
        subst (λ (l : List ℕ). Moved n (at (rows_of n (booked k))) (at l) x (at (rows_of n (booked k)) x + m k)) (sym same)
        (moved-by-set n (rows_of n (booked k)) x (at (rows_of n (booked k)) x + m k)
        (rows-length n (booked k) (let z = turn.booked-long k in let s = turn.invariant.small in omega arith)) task)

    pub totals-then : (k : Kind) → sum k + m k ≡ total n (at (rows_of n (booked' k)))
    unfolding total
    totals-then k =
        let all = turn.totals k in
        let same = sum-change (at (rows_of n (booked k))) (at (rows_of n (booked' k))) n x (m k) task (gets k).there (gets k).elsewhere in
        omega arith

    -- the figures
    long : (k : Kind) → length (set (figures k) x (at (figures k) x + m k)) ≡ rows
    long k = length-set (figures k) x (at (figures k) x + m k) ∙ turn.figures-long k

    pub figured-then : (k : Kind) → Figured n par (at (rows_of n standings')) (at (rows_of n (booked' k))) (figures' k)
    figured-then k i t =
        let z = turn.figures-long k in
        let here = task_in in
        let q = parent_in in
        let l = long k in
        let outer = grown-at (set (figures k) x (at (figures k) x + m k)) (par x) (at (figures k) x + m k) i (omega arith) t.low in
        let inner = set_more (figures k) x (m k) i (omega arith) in
        let was = turn.figured k i t in
        let holds =
        partial-booked n par (rank_in order) tree (at (rows_of n standings)) (at (rows_of n standings')) (at (rows_of n (booked k)))
        (at (rows_of n (booked' k))) x (m k) i turn.invariant.good.shape task waits moved (gets k).there (gets k).elsewhere t
        in
        let own =
        turn.figured k x task
        ∙ partial-figure n par (rank_in order) tree (at (rows_of n standings)) (at (rows_of n (booked k))) x task no-child-waits
        in
        let up = ap (λ (v : ℕ). only (eqb (par x) i) (v + m k)) own in
        omega arith

    -- how far the order has been booked
    pub reached_then : Reached n order (books_in n standings' booked') (next + 1)
    reached_then =
        let r = turn.reached in
        let v = turn.invariant.valid in
        let own = place_of order next v.once in_order in
        let more = turn.more in
        record {
          within = omega arith;
          before_next =
              λ e h w.
              ⊎_elim (λ q. let z = ap (at (rows_of n standings')) q ∙ moved.there in omega arith)
              (λ d.
              let low : e < next =
              ⊎_elim (λ (q : e ≡ next). absurd (d (ap (at order) q))) (λ q. omega arith) (same_or_not e next)
              in
              r.before_next e low (sym (moved.elsewhere (at order e) (entry-task e (omega arith)) d) ∙ w))
              (same_or_not (at order e) x);
          from_next =
              λ e h l.
              let d : at order e ≡ x → ⊥ =
              λ q.
              let z = place_of order e v.once (let size = v.whole in omega arith) in
              let p : rank_in order (at order e) ≡ rank_in order x = ap (rank_in order) q in
              omega arith
              in
              moved.elsewhere (at order e) (entry-task e l) d ∙ r.from_next e (omega arith) l;
        }

    -- all of it is within 32 bits
    within-bound : (k : Kind) → total n (at (rows_of n (booked' k))) < 2 ^ 32
    within-bound k = let w = (stock-then k).within in let most = turn.invariant.bounded k in omega arith

    pub total_fits : (k : Kind) → sum k + m k < 2 ^ 32
    total_fits k = let e = totals-then k in let w = within-bound k in omega arith

    pub booked_fits : (k : Kind) → at (booked k) x + m k < 2 ^ 32
    unfolding total
    booked_fits k =
        let one = term-le (at (rows_of n (booked' k))) n x task in
        let new = (gets k).there in
        let same = at_rows n (booked k) x task.high in
        let w = within-bound k in
        omega arith

    figure-small : (k : Kind) (i : ℕ) → Task n i → at (figures' k) i < 2 ^ 32
    figure-small k i t =
        let is = figured-then k i t in
        let less = partial-le-figure n par (rank_in order) tree (at (rows_of n standings')) (at (rows_of n (booked' k))) i t in
        let all = figure-le-total n par (at (rows_of n (booked' k))) i in
        let w = within-bound k in
        omega arith

    pub figure_fits : (k : Kind) → at (figures k) x + m k < 2 ^ 32
    figure_fits k =
        let z = turn.figures-long k in
        let here = task_in in
        let q = parent_in in
        let l = long k in
        let outer = grown-at (set (figures k) x (at (figures k) x + m k)) (par x) (at (figures k) x + m k) x (omega arith) task.low in
        let inner = get_or-set_same (figures k) x (at (figures k) x + m k) 0 (omega arith) in
        let most = figure-small k x task in
        omega arith

    pub parent_fits :
        (k : Kind) → (par x ≡ 0 → ⊥) → at (set (figures k) x (at (figures k) x + m k)) (par x) + (at (figures k) x + m k) < 2 ^ 32
    parent_fits k d =
        let u = parent-task n par (rank_in order) tree x task d in
        let q = parent_in in
        let l = long k in
        let outer = grown-at (set (figures k) x (at (figures k) x + m k)) (par x) (at (figures k) x + m k) (par x) (omega arith) u.low in
        let one = only-true (eqb (par x) (par x)) (at (figures k) x + m k) (eq-eqb (par x) (par x) refl) in
        let most = figure-small k (par x) u in
        omega arith
