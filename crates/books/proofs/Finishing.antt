-- A task with a parent ends: its trays are taken, its parent keeps its out, and the rest is owed to those above it.
use mathlib.Core.Path.{◌≡◌, refl, sym, ap, ◌∙◌}
use mathlib.Core.Bool.{true, false, not}
use mathlib.Core.Logic.{⊎_elim}
use Prim.Native.Nat.{ℕ, ◌+◌, ◌-◌, ◌≤◌}
use native.Mathlib.Omega.{arith}
use lib.Dec.{eqb}
use borrow.Author.Tests.{eq-eqb, ne_eqb}
use Rattle.numbers.specs.Sums.{only, sum_to}
use Rattle.tree.specs.Tree.{chain, figure, Tree, up}
use Rattle.books.specs.Standing.{activated, running, finished}
use Rattle.books.specs.Invariant.{Shape, Active, Balance, Balanced, Roomy, arrived, pending}
use Rattle.numbers.proofs.Tests.{decide, same_or_not}
use Rattle.numbers.proofs.Sums.{Task, sum-change, only-true, only-false}
use Rattle.tree.proofs.Tree.{up-self, up-parent, parent-task, figure-change}
use Rattle.tree.proofs.Children.{children-change}
use Rattle.books.proofs.Shape.{Moved, was, behind-still, four-still, not-begun-above}
use Rattle.books.proofs.Balance.{settled, running-holds-need}

-- the trays of j are taken, its parent keeps its out, and r is left
pub record Taken (n : ℕ) (par out b b₁ b' : ℕ → ℕ) (j r : ℕ) : Type 0 where
  pub taken : Moved n b b₁ j 0
  pub gave : (i : ℕ) → Task n i → b' i ≡ b₁ i + only (eqb (par j) i) (out j)
  pub rest : r ≡ b j - out j

-- j runs, and ends
module _ (n : ℕ) (par rank : ℕ → ℕ) (tree : Tree n par rank) (st st' : ℕ → ℕ) (shape : Shape n par rank st) (j : ℕ)
    (task : Task n j) (runs : st j ≡ running) (moved : Moved n st st' j finished) where
  pub finishing-shape : Shape n par rank st'
  finishing-shape =
      record {
        behind = behind-still moved shape (λ q. omega arith) (λ q. omega arith);
        fed =
            λ i c t u e r.
            let begun : running ≤ st i =
            ⊎_elim (λ q. let o : st i ≡ running = ap st q ∙ runs in omega arith)
            (λ d. let o = moved.elsewhere i t d in omega arith) (same_or_not i j)
            in
            ⊎_elim (λ q. ap st' q ∙ moved.there) (λ d. moved.elsewhere c u d ∙ shape.fed i c t u e begun) (same_or_not c j);
        four = four-still moved (omega arith) shape.four;
      }

  -- who is booked or runs now is not j, and was so before
  was-active : (i : ℕ) → Task n i → Active st' i → (i ≡ j → ⊥) × Active st i
  was-active i t a = let old = was moved i t (λ q. omega arith) in (old.0, omega (arith, old.1))

  -- the parent has not begun
  parent-not-begun : (i : ℕ) → Task n i → par j ≡ i → st i ≤ activated
  parent-not-begun i t e =
      not-begun-above n par rank tree st shape i j task
      (ap (up n par i) e ∙ up-self n par rank tree i t)
      (λ q. omega arith)

  -- it has a parent
  module _ (higher : par j ≡ 0 → ⊥) (need out b b₁ b' : ℕ → ℕ) (r : ℕ) (roomy : Roomy n par need out)
      (books : Balanced n par need out st b) (ends : Taken n par out b b₁ b' j r) where
    -- j holds its need, and so its out
    pub out_within : out j ≤ b j
    out_within =
        let exact = running-holds-need n par rank tree need out st b shape books j task runs in
        let room = roomy j task in
        omega arith

    -- the parent keeps it, and nobody else is given anything
    gave-parent : b' (par j) ≡ b₁ (par j) + out j
    gave-parent =
        let g = ends.gave (par j) (parent-task n par rank tree j task higher) in
        let one = only-true (eqb (par j) (par j)) (out j) (eq-eqb (par j) (par j) refl) in
        omega arith

    gave-nothing : (i : ℕ) → Task n i → (i ≡ par j → ⊥) → b' i ≡ b₁ i
    gave-nothing i t d =
        let g = ends.gave i t in
        let none = only-false (eqb (par j) i) (out j) (ne_eqb (par j) i (λ e. d (sym e))) in
        omega arith

    -- what another task holds then: the parent has the out besides
    holds : (i : ℕ) → Task n i → (i ≡ j → ⊥) → b' i ≡ b i + only (eqb (par j) i) (out j)
    holds i t d = let old = ends.taken.elsewhere i t d in let new = ends.gave i t in omega arith

    -- the figures before: j's trays count for those at or above it
    pub figure-taken : (a : ℕ) → figure n par b a ≡ figure n par b₁ a + only (up n par a j) (b j)
    figure-taken a =
        let none = ends.taken.there in
        figure-change n par b₁ b j (b j) a task (omega arith) (λ i t d. sym (ends.taken.elsewhere i t d))

    -- and after: what the parent keeps counts for those at or above the parent
    pub figure-kept : (a : ℕ) → figure n par b' a ≡ figure n par b₁ a + only (up n par a (par j)) (out j)
    figure-kept a =
        figure-change n par b₁ b' (par j) (out j) a (parent-task n par rank tree j task higher) gave-parent gave-nothing

    -- all trays are still there, booked or left
    pub finishing-total : sum_to b' n + r ≡ sum_to b n
    finishing-total =
        let none = ends.taken.there in
        let before = sum-change b₁ b n j (b j) task (omega arith) (λ i t d. sym (ends.taken.elsewhere i t d)) in
        let left = ends.rest in
        let w = out_within in
        let after =
        sum-change b₁ b' n (par j) (out j) (parent-task n par rank tree j task higher) gave-parent gave-nothing
        in
        omega arith

    -- the out of j has arrived at its parent, and is no longer to come
    out-arrived : (i : ℕ) → arrived n par out st' i ≡ arrived n par out st i + only (eqb (par j) i) (out j)
    unfolding arrived
    out-arrived i =
        children-change n par (λ c. only (eqb (st c) finished) (out c)) (λ c. only (eqb (st' c) finished) (out c)) j (out j) i
        task (rw (ne_eqb (st j) finished (λ q. omega arith), eq-eqb (st' j) finished moved.there) (omega arith))
        (λ c u d. ap (λ (s : ℕ). only (eqb s finished) (out c)) (moved.elsewhere c u d))

    out-pending : (i : ℕ) → pending n par out st i ≡ pending n par out st' i + only (eqb (par j) i) (out j)
    unfolding pending
    out-pending i =
        children-change n par (λ c. only (not (eqb (st' c) finished)) (out c)) (λ c. only (not (eqb (st c) finished)) (out c)) j
        (out j) i task (rw (ne_eqb (st j) finished (λ q. omega arith), eq-eqb (st' j) finished moved.there) (omega arith))
        (λ c u d. ap (λ (s : ℕ). only (not (eqb s finished)) (out c)) (sym (moved.elsewhere c u d)))

    -- a booked or running task and all below it still hold its need, with what is owed to it
    still-covered : (i : ℕ) → Task n i → Active st' i → need i ≤ figure n par b' i + only (up n par i (par j)) r
    still-covered i t a =
        let old = was-active i t a in
        let held = settled n par need out st b books i t old.1 in
        let before = figure-taken i in
        let after = figure-kept i in
        let on = up-parent n par rank tree i j task old.0 in
        ⊎_elim
        (λ (h : up n par i (par j) ≡ true).
        let left = ends.rest in
        let had = only-true (up n par i j) (b j) (on ∙ h) in
        let has = only-true (up n par i (par j)) (out j) h in
        let owes = only-true (up n par i (par j)) r h in
        let w = out_within in
        omega arith)
        (λ (h : up n par i (par j) ≡ false). let had = only-false (up n par i j) (b j) (on ∙ h) in omega arith)
        (decide (up n par i (par j)))

    -- who has begun is not the parent, which waits for j
    not-given : (i : ℕ) → Task n i → running ≤ st i → b' i ≡ b₁ i
    not-given i t h = gave-nothing i t (λ e. let l = parent-not-begun i t (sym e) in omega arith)

    pub finishing-balance : Balance n par need out st' b' (chain n par (par j)) r
    finishing-balance =
        record {
          waits =
              λ i t w.
              let old = was moved i t (λ q. omega arith) in
              let held = books.waits i t (sym old.1 ∙ w) in
              let now = holds i t old.0 in
              let new = out-arrived i in
              omega arith;
          keeps =
              λ i t a.
              let old = was-active i t a in
              let held = books.keeps i t old.1 in
              let now = holds i t old.0 in
              let new = out-arrived i in
              omega arith;
          covered = still-covered;
          capped =
              λ i t a.
              let old = was-active i t a in
              let held = books.capped i t old.1 in
              let now = holds i t old.0 in
              let new = out-pending i in
              omega arith;
          empty =
              λ i t e.
              ⊎_elim
              (λ q.
              let ran : st i ≡ running = ap st q ∙ runs in
              not-given i t (omega arith) ∙ ap b₁ q ∙ ends.taken.there)
              (λ d.
              let old : st i ≡ finished = sym (moved.elsewhere i t d) ∙ e in
              not-given i t (omega arith) ∙ ends.taken.elsewhere i t d ∙ books.empty i t old)
              (same_or_not i j);
        }

    pub finishing : Balance n par need out st' b' (chain n par (par j)) r × (sum_to b' n + r ≡ sum_to b n)
    finishing = (finishing-balance, finishing-total)
