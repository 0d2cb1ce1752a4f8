-- Booking ahead keeps what holds of the day, and stops where the first waiting task does not fit.
use mathlib.Core.Path.{◌≡◌, refl, sym, ap, ◌∙◌}
use mathlib.Core.Bool.{true, false}
use mathlib.Core.Logic.{⊎_elim}
use mathlib.Core.List.{List, [], ◌∷◌, ◌++◌, append-nil, append_assoc}
use Prim.Native.Nat.{ℕ, ◌+◌, ◌≤◌, ◌<◌}
use native.Mathlib.Omega.{arith}
use lib.Dec.{eqb}
use lib.ListN.{set, length-set}
use borrow.Author.Tests.{eqb-true, eqb-false, leb-true}
use Rattle.books.specs.Kind.{Kind}
use Rattle.numbers.specs.Lists.{at, mem}
use Rattle.books.specs.Standing.{waiting, activated}
use Rattle.books.specs.Booking.{Terms, Books, booked_in, total, missing, misses, allows_in, allows, book, activate}
use Rattle.tree.specs.Tree.{Valid, rank_in, Tree}
use Rattle.books.specs.Invariant.{Shape, FirstWaiting, Roomy, Stocked, Good}
use Rattle.books.proofs.EachStore.{of-each, all-each}
use Rattle.numbers.proofs.Tests.{decide, same_or_not, or_cases}
use Rattle.numbers.proofs.Sums.{Task}
use Rattle.tree.proofs.Orders.{mem-append, mem-one}
use Rattle.tree.proofs.Ranks.{stands, entry, same_rank, in-front}
use Rattle.books.proofs.Shape.{Moved}
use Rattle.books.proofs.Balance.{missing-is}
use Rattle.books.proofs.Giving.{Given, gains}
use Rattle.books.proofs.Activating.{activating-shape, activating-balanced}
use Rattle.books.proofs.Branches.{activate-pass, activate-book, activate-stop}
use Rattle.books.proofs.Entries.{at_set, at_other, moved-by-set, given-by-set}

-- what booking ahead makes of the books k
pub record Activated (n : ℕ) (par rank : ℕ → ℕ) (terms : Kind → Terms) (k k' : Books) : Type 0 where
  pub good : Good n par rank terms k'
  -- only waiting tasks change, and become booked
  pub kept : (i : ℕ) → Task n i → (at k.standings i ≡ waiting → ⊥) → at k'.standings i ≡ at k.standings i
  pub waited : (i : ℕ) → Task n i → at k.standings i ≡ waiting → at k'.standings i ≤ activated
  -- the first that still waits is not allowed
  pub halted : (x : ℕ) → FirstWaiting n rank (at k'.standings) x → allows n par terms k' x ≡ false

-- two tasks that are first to wait are one
pub first-waiting-one :
    (n : ℕ) (par : ℕ → ℕ) (order : List ℕ) (valid : Valid n par order) (st : ℕ → ℕ) (x y : ℕ)
    → FirstWaiting n (rank_in order) st x
    → FirstWaiting n (rank_in order) st y
    → x ≡ y
first-waiting-one n par order valid st x y v w =
    let low : rank_in order x < rank_in order y → ⊥ = λ h. w.first x v.task h v.waits in
    let high : rank_in order y < rank_in order x → ⊥ = λ h. v.first y w.task h w.waits in
    same_rank n par order valid x y v.task w.task (omega arith)

-- one store in which x gets what it misses, where that is within the bound
pub book-stocked :
    (n : ℕ) (par rank : ℕ → ℕ) (tree : Tree n par rank) (st st' : ℕ → ℕ) (shape : Shape n par rank st) (x : ℕ)
    → FirstWaiting n rank st x
    → Moved n st st' x activated
    → (need out : ℕ → ℕ) (bound : ℕ) (b : List ℕ)
    → Roomy n par need out
    → Stocked n par need out bound st b
    → total n (at b) + missing n par need st (at b) x ≤ bound
    → Stocked n par need out bound st' (set b x (at b x + missing n par need st (at b) x))
unfolding total
book-stocked n par rank tree st st' shape x w moved need out bound b roomy stock fits =
    let t = w.task in
    let is = missing-is n par rank tree need out st (at b) shape [] 0 stock.books x t in
    let given : Given n par need (at b) (at (set b x (at b x + missing n par need st (at b) x))) x =
    rw is (given-by-set n par need b x stock.sized t)
    in
    record {
      sized = length-set b x (at b x + missing n par need st (at b) x) ∙ stock.sized;
      books =
          activating-balanced n par rank tree st st' shape x t w.waits w.first moved need out (at b) _ roomy stock.books
          given;
      within = (let sum = gains tree t given in omega arith);
    }

module _ (n : ℕ) (par : ℕ → ℕ) (order : List ℕ) (valid : Valid n par order) (tree : Tree n par (rank_in order))
    (terms : Kind → Terms) (roomy : (k : Kind) → Roomy n par (terms k).need (terms k).out) where
  -- one task booked
  pub book-good :
      (k : Books) (x : ℕ)
      → Good n par (rank_in order) terms k
      → FirstWaiting n (rank_in order) (at k.standings) x
      → allows n par terms k x ≡ true
      → Good n par (rank_in order) terms (book n par terms k x)
  unfolding book misses allows_in allows
  book-good k x good w a =
      let moved = moved-by-set n k.standings x activated good.sized w.task in
      record {
        sized = length-set k.standings x activated ∙ good.sized;
        shape =
            activating-shape n par (rank_in order) tree (at k.standings) _ good.shape x w.task w.waits w.first moved;
        stock =
            λ d.
            rw (of-each (λ e. set (booked_in k e) x (at (booked_in k e) x + misses n par terms k e x)) d)
            (book-stocked n par (rank_in order) tree (at k.standings) _ good.shape x w moved (terms d).need (terms d).out
            (terms d).bound (booked_in k d) (roomy d) (good.stock d)
            (leb-true _ (terms d).bound (all-each (allows_in n par terms k x) a d)));
      }

  -- who stands in front of the rest of the order, with one more
  one_more :
      (pre : List ℕ) (x : ℕ) (k : Books)
      → ((j : ℕ) → mem j pre ≡ true → at k.standings j ≡ waiting → ⊥)
      → (at k.standings x ≡ waiting → ⊥)
      → (j : ℕ)
      → mem j (pre ++ (x ∷ [])) ≡ true
      → at k.standings j ≡ waiting
      → ⊥
  one_more pre x k busy d j m w =
      ⊎_elim (λ (e : mem j pre ≡ true). busy j e w)
      (λ (e : mem j (x ∷ []) ≡ true).
      d (ap (at k.standings) (sym (mem-one j x e)) ∙ w))
      (or_cases (mem j pre) (mem j (x ∷ [])) (sym (mem-append j pre (x ∷ [])) ∙ m))

  -- once x is booked nobody in front of the rest waits
  booked-busy :
      (pre : List ℕ) (x : ℕ) (k : Books)
      → Task n x
      → ((j : ℕ) → mem j pre ≡ true → at k.standings j ≡ waiting → ⊥)
      → Good n par (rank_in order) terms k
      → (j : ℕ)
      → mem j (pre ++ (x ∷ [])) ≡ true
      → at (book n par terms k x).standings j ≡ waiting
      → ⊥
  unfolding book
  booked-busy pre x k t busy good =
      let there = at_set n k.standings x activated good.sized t in
      one_more pre x (book n par terms k x)
      (λ j m w.
      ⊎_elim
      (λ q. let z : at (set k.standings x activated) j ≡ activated = ap (at (set k.standings x activated)) q ∙ there in omega arith)
      (λ d. busy j m (sym (at_other k.standings x activated j d) ∙ w))
      (same_or_not j x))
      (λ w. omega arith)

  -- what is made of the books with x booked is made of the books before
  after-book :
      (x : ℕ) (k : Books) {k' : Books}
      → FirstWaiting n (rank_in order) (at k.standings) x
      → Good n par (rank_in order) terms k
      → Activated n par (rank_in order) terms (book n par terms k x) k'
      → Activated n par (rank_in order) terms k k'
  unfolding book
  after-book x k first good done =
      let there = at_set n k.standings x activated good.sized first.task in
      record {
        good = done.good;
        kept =
            λ i t d.
            let i-not : i ≡ x → ⊥ = λ q. d (ap (at k.standings) q ∙ first.waits) in
            let same = at_other k.standings x activated i i-not in
            done.kept i t (λ w. d (sym same ∙ w)) ∙ same;
        waited =
            λ i t w.
            ⊎_elim
            (λ q.
            let now : at (set k.standings x activated) i ≡ activated =
            ap (at (set k.standings x activated)) q ∙ there
            in
            let end = done.kept i t (λ z. omega arith) in
            omega arith)
            (λ d. done.waited i t (at_other k.standings x activated i d ∙ w))
            (same_or_not i x);
        halted = done.halted;
      }

  -- along what is left of the order, where nobody in front waits
  pub activates :
      (pre later : List ℕ) (k : Books)
      → order ≡ pre ++ later
      → ((j : ℕ) → mem j pre ≡ true → at k.standings j ≡ waiting → ⊥)
      → Good n par (rank_in order) terms k
      → Activated n par (rank_in order) terms k (activate n par terms later k)
  unfolding activate
  activates pre [] k e busy good =
      record {
        good = good;
        kept = λ i t d. refl;
        waited = λ i t w. omega arith;
        halted =
            λ x w.
            absurd (busy x (rw (append-nil pre) at (rw e at (stands n par order valid x w.task))) w.waits);
      }
  activates pre (x ∷ later) k e busy good =
      let rest : order ≡ (pre ++ (x ∷ [])) ++ later = e ∙ sym (append_assoc pre (x ∷ []) later) in
      ⊎_elim
      (λ (w : eqb (at k.standings x) waiting ≡ true).
      let waits = eqb-true (at k.standings x) waiting w in
      let t = entry n par order valid pre x later e in
      let first : FirstWaiting n (rank_in order) (at k.standings) x =
      record {
        task = t;
        waits = waits;
        first = λ j _ h. busy j (in-front n par order valid pre x later e j h);
      }
      in
      ⊎_elim
      (λ (a : allows n par terms k x ≡ true).
      rw (activate-book n par terms x later k w a)
      (after-book x k first good
      (activates (pre ++ (x ∷ [])) later (book n par terms k x) rest (booked-busy pre x k t busy good)
      (book-good k x good first a))))
      (λ (a : allows n par terms k x ≡ false).
      rw (activate-stop n par terms x later k w a)
      (record {
        good = good;
        kept = λ i u d. refl;
        waited = λ i u z. omega arith;
        halted = λ y v. ap (allows n par terms k) (first-waiting-one n par order valid (at k.standings) y x v first) ∙ a;
      }))
      (decide (allows n par terms k x)))
      (λ (w : eqb (at k.standings x) waiting ≡ false).
      rw (activate-pass n par terms x later k w)
      (activates (pre ++ (x ∷ [])) later k rest
      (one_more pre x k busy (eqb-false (at k.standings x) waiting w)) good))
      (decide (eqb (at k.standings x) waiting))
