-- One offer of a climb keeps the books: what is given to the first task of the path is no longer owed to those behind it.
use mathlib.Core.Path.{◌≡◌, sym, ap, ◌∙◌}
use mathlib.Core.Bool.{true, false}
use mathlib.Core.Logic.{⊎_elim}
use mathlib.Core.List.{List}
use Prim.Native.Nat.{ℕ, ◌+◌, ◌-◌, ◌≤◌}
use native.Mathlib.Omega.{arith}
use lib.Dec.{eqb}
use borrow.Author.Tests.{eqb-true}
use Rattle.numbers.specs.Sums.{only, sum_to}
use Rattle.numbers.specs.Lists.{mem}
use Rattle.tree.specs.Tree.{chain, figure, Tree, up}
use Rattle.books.specs.Standing.{waiting, finished}
use Rattle.books.specs.Invariant.{Shape, Active, Balance, Balanced, Roomy}
use Rattle.numbers.proofs.Tests.{decide, fails, clash, same_or_not, or_cases}
use Rattle.numbers.proofs.Sums.{Task, only-true, only-false, only_zero}
use Rattle.tree.proofs.Tree.{up-nobody, up-self, up_step, up-parent, up-rank, parent-task}
use Rattle.books.proofs.Shape.{child-before, child-not-waiting}
use Rattle.books.proofs.Balance.{cleared}
use Rattle.books.proofs.Giving.{Given, more, gains, grows, filled, room}

-- a climb that has nothing left, or has come to a waiting task, owes nothing
pub nothing_left :
    (n : ℕ) (par need out st b : ℕ → ℕ) (path : List ℕ) (r : ℕ)
    → r ≡ 0
    → Balance n par need out st b path r
    → Balanced n par need out st b
nothing_left n par need out st b path r e books =
    cleared n par need out st b path r books (λ i _ _. ap (only (mem i path)) e ∙ only_zero (mem i path))

module _ (n : ℕ) (par rank : ℕ → ℕ) (tree : Tree n par rank) (st : ℕ → ℕ) (shape : Shape n par rank st)
    (need out : ℕ → ℕ) where
  pub at-waiting :
      (b : ℕ → ℕ) (x r : ℕ)
      → Task n x
      → st x ≡ waiting
      → Balance n par need out st b (chain n par x) r
      → Balanced n par need out st b
  at-waiting b x r t w books =
      cleared n par need out st b (chain n par x) r books
      (λ i u a.
      only-false (up n par i x) r
      (fails (up n par i x)
      (λ h.
      ⊎_elim (λ (e : eqb i x ≡ true). let z : st i ≡ waiting = ap st (eqb-true i x e) ∙ w in omega arith)
      (λ (above : up n par i (par x) ≡ true).
      let d : par x ≡ 0 → ⊥ = λ z. clash above (up-nobody n par i (par x) z) in
      let higher = tree.rises x t d in
      let most = (up-rank n par rank tree i (par x) (parent-task n par rank tree x t d) above).1 in
      let z = shape.behind x i t u (omega arith) w in
      omega arith)
      (or_cases (eqb i x) (up n par i (par x)) (sym (up_step n par rank tree i x t) ∙ h)))))

  -- x is the first task of the path, and does not wait: it is offered what it lacks
  module _ (roomy : Roomy n par need out) (x : ℕ) (task : Task n x) (active : Active st x) (r : ℕ) (b b' : ℕ → ℕ)
      (books : Balance n par need out st b (chain n par x) r) (given : Given n par need b b' x) where
    -- the gift is within what is left
    pub gift-within : need x - figure n par b x ≤ r
    gift-within =
        let h = books.covered x task active in
        let z : only (up n par x x) r ≡ r = only-true (up n par x x) r (up-self n par rank tree x task) in
        omega arith

    -- all trays are still there, booked or left
    pub offer-total : sum_to b' n + (r - (need x - figure n par b x)) ≡ sum_to b n + r
    offer-total = let h = gains tree task given in let g = gift-within in omega arith

    -- no child of x waits, and none is on the path, so that each that has not ended holds its need
    held : (c : ℕ) → Task n c → par c ≡ x → (st c ≡ finished → ⊥) → need c ≤ figure n par b c
    held c u e unended =
        let busy = child-not-waiting n par rank tree st shape x c task u e (λ w. omega arith) in
        let four = shape.four c u in
        let before = child-before n par rank tree st shape x c task u e in
        let off : up n par c x ≡ false =
        fails (up n par c x) (λ h. let k = (up-rank n par rank tree c x task h).1 in omega arith)
        in
        let k = books.covered c u (omega arith) in
        let nothing = only-false (up n par c x) r off in
        omega arith

    pub offer-balance : Balance n par need out st b' (chain n par (par x)) (r - (need x - figure n par b x))
    offer-balance =
        record {
          waits =
              λ i t w.
              let i-not : i ≡ x → ⊥ = λ e. let q : st x ≡ waiting = ap st (sym e) ∙ w in omega arith in
              given.elsewhere i t i-not ∙ books.waits i t w;
          keeps = λ i t a. let k = books.keeps i t a in let m = more tree task given i t in omega arith;
          covered =
              λ i t a.
              let g = gift-within in
              ⊎_elim (λ e. rw e (let k = filled tree task given in omega arith))
              (λ d.
              let k = books.covered i t a in
              let m = grows tree task given i in
              let on = up-parent n par rank tree i x task d in
              ⊎_elim
              (λ (h : up n par i (par x) ≡ true).
              let was = only-true (up n par i x) r (on ∙ h) in
              let got = only-true (up n par i x) (need x - figure n par b x) (on ∙ h) in
              let owes = only-true (up n par i (par x)) (r - (need x - figure n par b x)) h in
              omega arith)
              (λ (h : up n par i (par x) ≡ false). let was = only-false (up n par i x) r (on ∙ h) in omega arith)
              (decide (up n par i (par x))))
              (same_or_not i x);
          capped =
              λ i t a.
              ⊎_elim (λ e. rw e (room tree task given out st roomy held (books.capped x task active)))
              (λ d. let k = books.capped i t a in let new = given.elsewhere i t d in omega arith) (same_or_not i x);
          empty =
              λ i t e.
              let i-not : i ≡ x → ⊥ = λ q. let z : st x ≡ finished = ap st (sym q) ∙ e in omega arith in
              given.elsewhere i t i-not ∙ books.empty i t e;
        }
