-- A task is given what it lacks: what grows by it, and that the task still has room for what is to come.
use mathlib.Core.Path.{◌≡◌}
use mathlib.Core.Logic.{⊎_elim}
use Prim.Native.Nat.{ℕ, ◌+◌, ◌-◌, ◌≤◌, ◌<◌}
use native.Mathlib.Omega.{arith}
use Rattle.numbers.specs.Sums.{only, sum_to}
use Rattle.tree.specs.Tree.{figure, Tree, up}
use Rattle.books.specs.Standing.{finished}
use Rattle.books.specs.Invariant.{Roomy, pending}
use Rattle.numbers.proofs.Tests.{same_or_not, le-or-lt}
use Rattle.numbers.proofs.Sums.{Task, sum-change, only-true}
use Rattle.tree.proofs.Tree.{up-self, figure-change}
use Rattle.tree.proofs.Children.{figure-children}
use Rattle.books.proofs.Balance.{pending-covered}

-- x is given its need less its subtree figure, and the others keep what they have
pub record Given (n : ℕ) (par need b b' : ℕ → ℕ) (x : ℕ) : Type 0 where
  pub there : b' x ≡ b x + (need x - figure n par b x)
  pub elsewhere : (i : ℕ) → Task n i → (i ≡ x → ⊥) → b' i ≡ b i

module _ {n : ℕ} {par rank need b b' : ℕ → ℕ} {x : ℕ} (tree : Tree n par rank) (task : Task n x)
    (given : Given n par need b b' x) where
  -- nobody loses anything
  pub more : (i : ℕ) → Task n i → b i ≤ b' i
  more i t =
      ⊎_elim (λ e. rw e (let h = given.there in omega arith)) (λ d. let h = given.elsewhere i t d in omega arith)
      (same_or_not i x)

  -- so much more is booked
  pub gains : sum_to b' n ≡ sum_to b n + (need x - figure n par b x)
  gains = sum-change b b' n x (need x - figure n par b x) task given.there given.elsewhere

  -- the figures of x and of those above it grow by as much
  pub grows : (i : ℕ) → figure n par b' i ≡ figure n par b i + only (up n par i x) (need x - figure n par b x)
  grows i = figure-change n par b b' x (need x - figure n par b x) i task given.there given.elsewhere

  grows-there : figure n par b' x ≡ figure n par b x + (need x - figure n par b x)
  grows-there =
      let own = only-true (up n par x x) (need x - figure n par b x) (up-self n par rank tree x task) in
      let all = grows x in
      omega arith

  -- with all below it x holds its need
  pub filled : need x ≤ figure n par b' x
  filled = let all = grows-there in omega arith

  -- x has room for what is to come: it was given nothing and had room, or it holds just its need, and each child that has not
  -- ended holds its own
  pub room :
      (out st : ℕ → ℕ)
      → Roomy n par need out
      → ((c : ℕ) → Task n c → par c ≡ x → (st c ≡ finished → ⊥) → need c ≤ figure n par b c)
      → b x + pending n par out st x ≤ need x
      → b' x + pending n par out st x ≤ need x
  room out st roomy held before =
      ⊎_elim (λ (nothing : need x ≤ figure n par b x). let h = given.there in omega arith)
      (λ (something : figure n par b x < need x).
      let split = figure-children n par rank tree b' x task in
      let full = grows-there in
      let come =
      pending-covered n par out st b' x
      (λ c u e d. let h = held c u e d in let g = grows c in let r = roomy c u in omega arith)
      in
      omega arith)
      (le-or-lt (need x) (figure n par b x))
