-- Starting one task keeps what holds of the day: only its standing changes.
use mathlib.Core.Path.{◌≡◌, sym, ap, ◌∙◌}
use mathlib.Core.Logic.{⊎_elim}
use mathlib.Core.List.{List}
use Prim.Native.Nat.{ℕ}
use native.Mathlib.Omega.{arith}
use Rattle.books.specs.Standing.{activated, running, finished}
use Rattle.books.specs.Invariant.{Shape, Active, Balance}
use Rattle.numbers.proofs.Tests.{same_or_not}
use Rattle.numbers.proofs.Sums.{Task}
use Rattle.books.proofs.Shape.{Moved, was, stays, behind-still, four-still, same_ended}
use Rattle.books.proofs.Balance.{arrived-same, pending-same}

-- x is booked, its children have ended, and it runs
module _ (n : ℕ) (par rank st st' : ℕ → ℕ) (shape : Shape n par rank st) (x : ℕ)
    (booked : st x ≡ activated) (fed : (c : ℕ) → Task n c → par c ≡ x → st c ≡ finished)
    (moved : Moved n st st' x running) where
  pub starting-shape : Shape n par rank st'
  starting-shape =
      record {
        behind = behind-still moved shape (λ q. omega arith) (λ q. omega arith);
        fed =
            λ i c t u e r.
            let ended : st c ≡ finished =
            ⊎_elim (λ q. fed c u (e ∙ q)) (λ d. let old = moved.elsewhere i t d in shape.fed i c t u e (omega arith))
            (same_or_not i x)
            in
            stays moved c u (λ q. omega arith) ∙ ended;
        four = four-still moved (omega arith) shape.four;
      }

  -- who is booked or runs was so before
  was-active : (i : ℕ) → Task n i → Active st' i → Active st i
  was-active i t a =
      ⊎_elim (λ e. let o : st i ≡ activated = ap st e ∙ booked in omega arith)
      (λ d. let o = moved.elsewhere i t d in omega arith) (same_or_not i x)

  pub starting-balanced :
      (need out b : ℕ → ℕ) (path : List ℕ) (r : ℕ)
      → Balance n par need out st b path r
      → Balance n par need out st' b path r
  starting-balanced need out b path r books =
      let ended = same_ended moved (λ q. omega arith) (λ q. omega arith) in
      record {
        waits =
            λ i t w.
            let old = was moved i t (λ q. omega arith) in
            books.waits i t (sym old.1 ∙ w) ∙ sym (arrived-same n par out st st' ended i);
        keeps =
            λ i t a.
            let same = arrived-same n par out st st' ended i in
            let held = books.keeps i t (was-active i t a) in
            omega arith;
        covered = λ i t a. books.covered i t (was-active i t a);
        capped =
            λ i t a.
            let same = pending-same n par out st st' ended i in
            let held = books.capped i t (was-active i t a) in
            omega arith;
        empty =
            λ i t e. let old = was moved i t (λ q. omega arith) in books.empty i t (sym old.1 ∙ e);
      }
