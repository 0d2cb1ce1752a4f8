-- What follows from the shape of the standings, over functions: waiting tasks come last in rank, and who has begun is fed.
use mathlib.Core.Path.{◌≡◌, refl, sym, ap, ◌∙◌}
use mathlib.Core.Bool.{true}
use mathlib.Core.Logic.{⊎_elim}
use Prim.Native.Nat.{ℕ, zero, suc, ◌+◌, ◌≤◌, ◌<◌}
use native.Mathlib.Omega.{arith}
use lib.Dec.{eqb}
use borrow.Author.Tests.{eqb-true, ne_eqb}
use Rattle.books.specs.Standing.{waiting, activated, running, finished}
use Rattle.books.specs.Invariant.{Shape}
use Rattle.tree.specs.Tree.{Tree, up, roots}
use Rattle.numbers.proofs.Tests.{clash, same_or_not, le-or-lt, or_cases}
use Rattle.numbers.proofs.Sums.{Task}
use Rattle.tree.proofs.Tree.{up-nobody, up_step, parent-task}
use Rattle.tree.proofs.Roots.{one-root}

-- one standing changed, the others kept
pub record Moved (n : ℕ) (st st' : ℕ → ℕ) (x new : ℕ) : Type 0 where
  pub there : st' x ≡ new
  pub elsewhere : (i : ℕ) → Task n i → (i ≡ x → ⊥) → st' i ≡ st i

module _ {n : ℕ} {st st' : ℕ → ℕ} {x new : ℕ} (moved : Moved n st st' x new) where
  -- whoever has not the new standing is not x, and has the standing that it had
  pub was : (i : ℕ) → Task n i → (st' i ≡ new → ⊥) → (i ≡ x → ⊥) × (st' i ≡ st i)
  was i t d = let off : i ≡ x → ⊥ = λ e. d (ap st' e ∙ moved.there) in (off, moved.elsewhere i t off)

  -- whoever had another standing than x keeps it
  pub stays : (i : ℕ) → Task n i → (st i ≡ st x → ⊥) → st' i ≡ st i
  stays i t d = moved.elsewhere i t (λ e. d (ap st e))

  -- where x did not wait and does not, whoever ranks behind a waiting task still waits
  pub behind-still :
      {par rank : ℕ → ℕ}
      → Shape n par rank st
      → (st x ≡ waiting → ⊥)
      → (new ≡ waiting → ⊥)
      → (i j : ℕ)
      → Task n i
      → Task n j
      → rank i < rank j
      → st' i ≡ waiting
      → st' j ≡ waiting
  behind-still shape old now i j t u h w =
      let before : st i ≡ waiting = sym (was i t (λ q. now (sym q ∙ w))).1 ∙ w in
      let later = shape.behind i j t u h before in
      stays j u (λ q. old (sym q ∙ later)) ∙ later

  -- there are four standings still
  pub four-still : new ≤ finished → ((i : ℕ) → Task n i → st i ≤ finished) → (i : ℕ) → Task n i → st' i ≤ finished
  four-still h four i t =
      ⊎_elim (λ e. let a : st' i ≡ new = ap st' e ∙ moved.there in omega arith)
      (λ d. let a = moved.elsewhere i t d in let f = four i t in omega arith) (same_or_not i x)

  -- where x had not ended and has not, the same tasks have ended
  pub same_ended :
      (st x ≡ finished → ⊥)
      → (new ≡ finished → ⊥)
      → (c : ℕ)
      → Task n c
      → eqb (st' c) finished ≡ eqb (st c) finished
  same_ended old now c u =
      ⊎_elim
      (λ e.
      ne_eqb (st' c) finished (λ q. now (sym (ap st' e ∙ moved.there) ∙ q))
      ∙ sym (ne_eqb (st c) finished (λ q. old (sym (ap st e) ∙ q))))
      (λ d. ap (λ (v : ℕ). eqb v finished) (moved.elsewhere c u d)) (same_or_not c x)

module _ (n : ℕ) (par rank : ℕ → ℕ) (tree : Tree n par rank) (st : ℕ → ℕ) (shape : Shape n par rank st) where
  -- a child ranks before its parent
  pub child-before : (i c : ℕ) → Task n i → Task n c → par c ≡ i → rank c < rank i
  child-before i c t u e =
      let d : par c ≡ 0 → ⊥ = λ z. omega arith in
      rw e at (tree.rises c u d)

  -- a child of a task that does not wait does not wait
  pub child-not-waiting :
      (i c : ℕ) → Task n i → Task n c → par c ≡ i → (st i ≡ waiting → ⊥) → st c ≡ waiting → ⊥
  child-not-waiting i c t u e d w = d (shape.behind c i u t (child-before i c t u e) w)

  -- whoever is strictly below a task that has begun has ended; m is how far k may rank from the last
  begun-within : (m i k : ℕ) → Task n k → n ≤ m + rank k → up n par i (par k) ≡ true → running ≤ st i → st k ≡ finished
  begun-within zero i k t far h r = let b = tree.below k t in absurd (omega arith)
  begun-within (suc m) i k t far h r =
      let d : par k ≡ 0 → ⊥ = λ z. clash h (up-nobody n par i (par k) z) in
      let u = parent-task n par rank tree k t d in
      let higher = tree.rises k t d in
      ⊎_elim (λ e. shape.fed (par k) k u t refl (rw (eqb-true i (par k) e) at r))
      (λ a.
      let parent : st (par k) ≡ finished = begun-within m i (par k) u (omega arith) a r in
      shape.fed (par k) k u t refl (omega arith))
      (or_cases (eqb i (par k)) (up n par i (par (par k))) (sym (up_step n par rank tree i (par k) u) ∙ h))

  pub begun-above : (i k : ℕ) → Task n k → up n par i (par k) ≡ true → running ≤ st i → st k ≡ finished
  begun-above i k t h r = begun-within n i k t (omega arith) h r

  -- whoever is below an ended task has ended
  pub finished-below : (i k : ℕ) → Task n k → up n par i k ≡ true → st i ≡ finished → st k ≡ finished
  finished-below i k t h e =
      ⊎_elim (λ q. ap st (sym (eqb-true i k q)) ∙ e) (λ a. begun-above i k t a (omega arith))
      (or_cases (eqb i k) (up n par i (par k)) (sym (up_step n par rank tree i k t) ∙ h))

  -- nobody above a task that has not ended has begun
  pub not-begun-above : (i k : ℕ) → Task n k → up n par i (par k) ≡ true → (st k ≡ finished → ⊥) → st i ≤ activated
  not-begun-above i k t h d =
      ⊎_elim (λ l. l) (λ l. absurd (d (begun-above i k t h l))) (le-or-lt (st i) activated)

-- when the root has ended all have
module _ (n : ℕ) (par rank : ℕ → ℕ) (tree : Tree n par rank) (st : ℕ → ℕ) (shape : Shape n par rank st)
    (one : roots n par ≡ 1) (r : ℕ) (task : Task n r) (root : par r ≡ 0) (ends : st r ≡ finished) where
  -- by how far a task may rank from the last
  ended-within : (m i : ℕ) → Task n i → n ≤ m + rank i → st i ≡ finished
  ended-within zero i t h = let b = tree.below i t in absurd (omega arith)
  ended-within (suc m) i t h =
      ⊎_elim (λ z. ap st (one-root n par one i r t task z root) ∙ ends)
      (λ d.
      let higher = tree.rises i t d in
      let u = parent-task n par rank tree i t d in
      let parent = ended-within m (par i) u (omega arith) in
      shape.fed (par i) i u t refl (omega arith))
      (same_or_not (par i) 0)

  pub root-last : (i : ℕ) → Task n i → st i ≡ finished
  root-last i t = ended-within n i t (omega arith)
