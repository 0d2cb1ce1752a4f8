-- Booking one task ahead keeps what holds of the day.
use mathlib.Core.Path.{◌≡◌, sym, ap, ◌∙◌}
use mathlib.Core.Logic.{⊎_elim}
use Prim.Native.Nat.{ℕ, ◌+◌, ◌≤◌, ◌<◌}
use native.Mathlib.Omega.{arith}
use lib.Dec.{eqb}
use Rattle.numbers.specs.Lists.{mem}
use Rattle.tree.specs.Tree.{figure, Tree}
use Rattle.books.specs.Standing.{waiting, activated, finished}
use Rattle.books.specs.Invariant.{Shape, Active, Balanced, Roomy, arrived, pending}
use Rattle.numbers.proofs.Tests.{same_or_not}
use Rattle.numbers.proofs.Sums.{Task}
use Rattle.books.proofs.Shape.{Moved, was, stays, four-still, same_ended, child-before}
use Rattle.books.proofs.Balance.{settled, arrived-pending, arrived-same, pending-same}
use Rattle.books.proofs.Giving.{Given, more, grows, filled, room}

-- x is the first waiting task in rank, and becomes booked
module _ (n : ℕ) (par rank : ℕ → ℕ) (tree : Tree n par rank) (st st' : ℕ → ℕ) (shape : Shape n par rank st) (x : ℕ)
    (task : Task n x) (waits : st x ≡ waiting) (first : (j : ℕ) → Task n j → rank j < rank x → st j ≡ waiting → ⊥)
    (moved : Moved n st st' x activated) where
  -- the standings keep their shape
  pub activating-shape : Shape n par rank st'
  activating-shape =
      record {
        behind =
            λ i j t u h w.
            let old : st i ≡ waiting = sym (was moved i t (λ q. omega arith)).1 ∙ w in
            ⊎_elim (λ e. absurd (first i t (rw e at h) old))
            (λ d. moved.elsewhere j u d ∙ shape.behind i j t u h old) (same_or_not j x);
        fed =
            λ i c t u e r.
            let old = was moved i t (λ q. omega arith) in
            let ended = shape.fed i c t u e (omega (arith, old.1)) in
            stays moved c u (λ q. omega arith) ∙ ended;
        four = four-still moved (omega arith) shape.four;
      }

  -- it gets what it misses
  module _ (need out b b' : ℕ → ℕ) (roomy : Roomy n par need out) (books : Balanced n par need out st b)
      (given : Given n par need b b' x) where
    -- nobody ends by it
    ended : (c : ℕ) → Task n c → eqb (st' c) finished ≡ eqb (st c) finished
    ended = same_ended moved (λ q. omega arith) (λ q. omega arith)

    -- what arrived is kept, at x too
    kept : (i : ℕ) → Task n i → Active st' i → arrived n par out st i ≤ b i
    kept i t a =
        ⊎_elim (λ e. let h = books.waits i t (ap st e ∙ waits) in omega arith)
        (λ d. let old = moved.elsewhere i t d in books.keeps i t (omega arith)) (same_or_not i x)

    -- none of the children of x waits, so that each that has not ended holds its need
    held : (c : ℕ) → Task n c → par c ≡ x → (st c ≡ finished → ⊥) → need c ≤ figure n par b c
    held c u e unended =
        let busy : st c ≡ waiting → ⊥ = first c u (child-before n par rank tree st shape x c task u e) in
        let four = shape.four c u in
        settled n par need out st b books c u (omega arith)

    -- x has room for what is to come
    capped-there : b' x + pending n par out st' x ≤ need x
    capped-there =
        let all = books.waits x task waits in
        let parts = arrived-pending n par out st x in
        let space = roomy x task in
        let same = pending-same n par out st st' ended x in
        let k = room tree task given out st roomy held (omega arith) in
        omega arith

    pub activating-balanced : Balanced n par need out st' b'
    unfolding mem
    activating-balanced =
        record {
          waits =
              λ i t w.
              let old = was moved i t (λ q. omega arith) in
              given.elsewhere i t old.0
              ∙ books.waits i t (sym old.1 ∙ w)
              ∙ sym (arrived-same n par out st st' ended i);
          keeps =
              λ i t a.
              let same = arrived-same n par out st st' ended i in
              let k = kept i t a in
              let m = more tree task given i t in
              omega arith;
          covered =
              λ i t a.
              ⊎_elim (λ e. rw e (let k = filled tree task given in omega arith))
              (λ d.
              let old = moved.elsewhere i t d in
              let k = settled n par need out st b books i t (omega arith) in
              let g = grows tree task given i in
              omega arith)
              (same_or_not i x);
          capped =
              λ i t a.
              ⊎_elim (λ e. rw e capped-there)
              (λ d.
              let old = moved.elsewhere i t d in
              let k = books.capped i t (omega arith) in
              let same = pending-same n par out st st' ended i in
              let new = given.elsewhere i t d in
              omega arith)
              (same_or_not i x);
          empty =
              λ i t e.
              let old = was moved i t (λ q. omega arith) in
              given.elsewhere i t old.0 ∙ books.empty i t (sym old.1 ∙ e);
        }
