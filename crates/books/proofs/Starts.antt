-- Starting: each task of the list is booked and fed when it starts, and starting stops when no processor is free or nobody is ready.
use mathlib.Core.Path.{◌≡◌, refl, sym, ap, ◌∙◌}
use mathlib.Core.Bool.{Bool, true, false, not, ◌&&◌}
use mathlib.Core.Logic.{◌⊎◌, inl, inr, ⊎_elim}
use mathlib.Core.List.{List, [], ◌∷◌}
use Prim.Native.Nat.{ℕ, zero, suc, ◌+◌, ◌≤◌, ◌<◌}
use native.Mathlib.Omega.{arith}
use lib.Dec.{eqb}
use lib.ListN.{length, set, length-set}
use borrow.Author.Tests.{eqb-true, eq-eqb, ne_eqb, not-false}
use Rattle.numbers.specs.Sums.{count_to, within}
use Rattle.books.specs.Kind.{Kind, Each, of}
use Rattle.numbers.specs.Lists.{at, mem, every, first}
use Rattle.books.specs.Standing.{activated, running, finished, count}
use Rattle.books.specs.Booking.{Terms, fed, ready, starts, start}
use Rattle.books.specs.Invariant.{Shape, Stocked, Good}
use Rattle.numbers.proofs.Tests.{decide, clash, same_or_not, and-true, and-false}
use Rattle.numbers.proofs.Sums.{Task, none-counted, count_none}
use Rattle.numbers.proofs.Counts.{count-change}
use Rattle.tree.proofs.Orders.{mem-here, mem-more, mem-rest, nobody, within-task, every-mem}
use Rattle.books.proofs.Shape.{Moved}
use Rattle.books.proofs.Starting.{starting-shape, starting-balanced}
use Rattle.books.proofs.Branches.{starts_none, starts-one, first-here, first-later}
use Rattle.books.proofs.Entries.{at_set, at_other, moved-by-set}

-- who is found first passes the test, and stands in the list
pub first_passes : (test : ℕ → Bool) (l : List ℕ) (i : ℕ) → first test l ≡ suc i → (mem (suc i) l ≡ true) × (test (suc i) ≡ true)
unfolding first
first_passes test [] i e = absurd (omega arith)
first_passes test (x ∷ l) i e =
    ⊎_elim
    (λ (h : test x ≡ true).
    let same : suc i ≡ x = sym e ∙ first-here test x l h in
    (mem-here (suc i) x l same, ap test same ∙ h))
    (λ (h : test x ≡ false).
    let k = first_passes test l i (sym (first-later test x l h) ∙ e) in
    (mem-more (suc i) x l k.0, k.1))
    (decide (test x))

-- where nobody is found, nobody passes
pub first-none :
    (test : ℕ → Bool) (n : ℕ) (l : List ℕ)
    → every (λ i. within i n) l ≡ true
    → first test l ≡ 0
    → (x : ℕ)
    → mem x l ≡ true
    → test x ≡ false
unfolding first every
first-none test n [] inside e x m = absurd (nobody x m)
first-none test n (y ∷ l) inside e x m =
    let both = and-true (within y n) (every (λ i. within i n) l) inside in
    ⊎_elim
    (λ (h : test y ≡ true).
    let zero-found : y ≡ 0 = sym (first-here test y l h) ∙ e in
    let t = within-task n y both.0 in
    absurd (omega arith))
    (λ (h : test y ≡ false).
    ⊎_elim (λ q. ap test q ∙ h)
    (λ d. first-none test n l both.1 (sym (first-later test y l h) ∙ e) x (mem-rest x y l m d)) (same_or_not x y))
    (decide (test y))

-- a fed task: its children have ended, and the other way round
pub fed-children :
    (n : ℕ) (par st : ℕ → ℕ) (i : ℕ) → fed n par st i ≡ true → (c : ℕ) → Task n c → par c ≡ i → st c ≡ finished
unfolding fed
fed-children n par st i h c t e =
    let none =
    none-counted (λ c. eqb (par c) i && not (eqb (st c) finished)) n
    (eqb-true (count_to (λ c. eqb (par c) i && not (eqb (st c) finished)) n) 0 h) c t
    in
    ⊎_elim (λ (q : eqb (par c) i ≡ false). absurd (clash (eq-eqb (par c) i e) q))
    (λ (q : not (eqb (st c) finished) ≡ false). eqb-true (st c) finished (not-false (eqb (st c) finished) q))
    (and-false (eqb (par c) i) (not (eqb (st c) finished)) none)

pub children-fed :
    (n : ℕ) (par st : ℕ → ℕ) (i : ℕ) → ((c : ℕ) → Task n c → par c ≡ i → st c ≡ finished) → fed n par st i ≡ true
unfolding fed
children-fed n par st i h =
    eq-eqb (count_to (λ c. eqb (par c) i && not (eqb (st c) finished)) n) 0
    (count_none (λ c. eqb (par c) i && not (eqb (st c) finished)) n
    (λ c t.
    ⊎_elim
    (λ (q : eqb (par c) i ≡ true).
    let ended = eq-eqb (st c) finished (h c t (eqb-true (par c) i q)) in
    rw (q, ended) refl)
    (λ (q : eqb (par c) i ≡ false). rw q refl)
    (decide (eqb (par c) i))))

-- tasks that may start one after the other: each is booked and fed when its turn comes
unfoldable pub Startable : (n : ℕ) (par : ℕ → ℕ) → List ℕ → List ℕ → Type 0
Startable n par st [] = Unit {0}
Startable n par st (i ∷ l) =
    Task n i
    × (at st i ≡ activated)
    × ((c : ℕ) → Task n c → par c ≡ i → at st c ≡ finished)
    × Startable n par (set st i running) l

-- a ready task is booked and fed
pub ready-parts :
    (n : ℕ) (par : ℕ → ℕ) (st : List ℕ) (x : ℕ)
    → ready n par st x ≡ true
    → (at st x ≡ activated) × (fed n par (at st) x ≡ true)
unfolding ready
ready-parts n par st x h =
    let both = and-true (eqb (at st x) activated) (fed n par (at st) x) h in
    (eqb-true (at st x) activated both.0, both.1)

module _ (n : ℕ) (par : ℕ → ℕ) (execution : List ℕ) (inside : every (λ i. within i n) execution ≡ true) where
  -- what holds of the tasks started: where no processor is free, where nobody is ready, and with one more in front
  starts-induct :
      (P : ℕ → List ℕ → List ℕ → Type 0)
      → ((st : List ℕ) → P 0 st [])
      → ((free : ℕ) (st : List ℕ) → first (ready n par st) execution ≡ 0 → P (suc free) st [])
      → ((free : ℕ) (st : List ℕ) (i : ℕ) (l : List ℕ)
      → first (ready n par st) execution ≡ suc i
      → P free (set st (suc i) running) l
      → P (suc free) st (suc i ∷ l))
      → (free : ℕ) (st : List ℕ)
      → P free st (starts n par execution free st)
  unfolding starts
  starts-induct P busy none one zero st = busy st
  starts-induct P busy none one (suc free) st =
      go (first (ready n par st) execution) refl (λ s. starts-induct P busy none one free s)
    where
      go :
          (found : ℕ)
          → first (ready n par st) execution ≡ found
          → ((s : List ℕ) → P free s (starts n par execution free s))
          → P (suc free) st (starts n par execution (suc free) st)
      go zero e later = rw (starts_none n par execution free st e) (none free st e)
      go (suc i) e later = rw (starts-one n par execution free st i e) (one free st i _ e (later (set st (suc i) running)))

  -- the rules start such tasks
  pub starts-startable : (free : ℕ) (st : List ℕ) → Startable n par st (starts n par execution free st)
  unfolding Startable
  starts-startable =
      starts-induct (λ _ st l. Startable n par st l) (λ _. tt) (λ _ _ _. tt)
      (λ free st i l e later.
      let k = first_passes (ready n par st) execution i e in
      let both = ready-parts n par st (suc i) k.1 in (
        within-task n (suc i) (every-mem (λ i. within i n) execution (suc i) inside k.0),
        both.0,
        fed-children n par (at st) (suc i) both.1,
        later,
      ))

  -- no more than there are processors
  pub starts-length : (free : ℕ) (st : List ℕ) → length (starts n par execution free st) ≤ free
  starts-length =
      starts-induct (λ free _ l. length l ≤ free) (λ _. omega arith) (λ _ _ _. omega arith)
      (λ free st i l e later. omega arith)

  -- where a processor stays free, nobody is ready any more
  pub starts-halt :
      (free : ℕ) (st : List ℕ)
      → length (starts n par execution free st) < free
      → (x : ℕ)
      → mem x execution ≡ true
      → ready n par (start (starts n par execution free st) st) x ≡ false
  unfolding start
  starts-halt =
      starts-induct
      (λ free st l. length l < free → (x : ℕ) → mem x execution ≡ true → ready n par (start l st) x ≡ false)
      (λ st h. absurd (omega arith))
      (λ free st e h x m. first-none (ready n par st) n execution inside e x m)
      (λ free st i l e later h. later (omega arith))

-- the standings once such tasks run
module _ (n : ℕ) (par : ℕ → ℕ) where
  one_more :
      (st : List ℕ) (x : ℕ)
      → length st ≡ suc n
      → Task n x
      → at st x ≡ activated
      → count n (at (set st x running)) running ≡ count n (at st) running + 1
  unfolding count
  one_more st x e t a =
      count-change (λ i. eqb (at st i) running) (λ i. eqb (at (set st x running) i) running) n x t
      (ne_eqb (at st x) running (λ q. omega arith)) (eq-eqb (at (set st x running) x) running (at_set n st x running e t))
      (λ i _ d. ap (λ (v : ℕ). eqb v running) (at_other st x running i d))

  -- so many more run
  pub start-count :
      (l st : List ℕ)
      → length st ≡ suc n
      → Startable n par st l
      → count n (at (start l st)) running ≡ count n (at st) running + length l
  unfolding start Startable
  start-count [] st e s = omega arith
  start-count (x ∷ l) st e s =
      let more = start-count l (set st x running) (length-set st x running ∙ e) s.3 in
      let one = one_more st x e s.0 s.1 in
      omega arith

  -- a store keeps what holds of it where x starts: its booked trays stay
  start-stocked :
      (rank st st' : ℕ → ℕ) (shape : Shape n par rank st) (x : ℕ)
      → st x ≡ activated
      → ((c : ℕ) → Task n c → par c ≡ x → st c ≡ finished)
      → Moved n st st' x running
      → (need out : ℕ → ℕ) (bound : ℕ) (b : List ℕ)
      → Stocked n par need out bound st b
      → Stocked n par need out bound st' b
  start-stocked rank st st' shape x booked fed moved need out bound b stock =
      record {
        sized = stock.sized;
        books = starting-balanced n par rank st st' shape x booked fed moved need out (at b) [] 0 stock.books;
        within = stock.within;
      }

  -- and what holds of the day is kept
  pub start-good :
      (rank : ℕ → ℕ) (terms : Kind → Terms) (l st : List ℕ) (b : Each (List ℕ))
      → Startable n par st l
      → Good n par rank terms (record { standings = st; booked = b })
      → Good n par rank terms (record { standings = start l st; booked = b })
  unfolding start Startable
  start-good rank terms [] st b s good = good
  start-good rank terms (x ∷ l) st b s good =
      let moved = moved-by-set n st x running good.sized s.0 in
      start-good rank terms l (set st x running) b s.3
      (record {
        sized = length-set st x running ∙ good.sized;
        shape = starting-shape n par rank (at st) (at (set st x running)) good.shape x s.1 s.2 moved;
        stock =
            λ d.
            start-stocked rank (at st) (at (set st x running)) good.shape x s.1 s.2 moved (terms d).need (terms d).out
            (terms d).bound (of b d) (good.stock d);
      })

-- who is started was booked, and all others stay as they were
pub start-kind :
    (n : ℕ) (par : ℕ → ℕ) (l st : List ℕ)
    → length st ≡ suc n
    → Startable n par st l
    → (i : ℕ)
    → (at (start l st) i ≡ at st i) ⊎ ((at st i ≡ activated) × (at (start l st) i ≡ running))
unfolding start Startable
start-kind n par [] st e s i = inl refl
start-kind n par (x ∷ l) st e s i =
    let later = start-kind n par l (set st x running) (length-set st x running ∙ e) s.3 i in
    ⊎_elim
    (λ q.
    let was : at st i ≡ activated = ap (at st) q ∙ s.1 in
    let then : at (set st x running) i ≡ running = ap (at (set st x running)) q ∙ at_set n st x running e s.0 in
    inr (was, ⊎_elim (λ k. k ∙ then) (λ k. k.1) later))
    (λ d.
    let same = at_other st x running i d in
    ⊎_elim (λ k. inl (k ∙ same)) (λ k. inr (sym same ∙ k.0, k.1)) later)
    (same_or_not i x)
