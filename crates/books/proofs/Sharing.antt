-- Sharing out what an ended task with a parent held keeps what holds of the day.
use mathlib.Core.Path.{◌≡◌, refl, sym, ap, subst, ◌∙◌}
use mathlib.Core.Bool.{true, false, ◌||◌}
use mathlib.Core.Logic.{◌⊎◌, inl, inr, ⊎_elim}
use mathlib.Core.List.{List, [], ◌∷◌}
use Prim.Native.Nat.{ℕ, suc, ◌+◌, ◌-◌, ◌≤◌}
use native.Mathlib.Omega.{arith}
use lib.Dec.{eqb}
use lib.ListN.{length, set, length-set}
use borrow.Author.Tests.{eqb-true, eqb-false, ne_eqb}
use Rattle.books.specs.Kind.{Kind, Each, of, each}
use Rattle.numbers.specs.Lists.{at, mem}
use Rattle.books.specs.Standing.{waiting, activated, running, finished}
use Rattle.books.specs.Booking.{Terms, Books, booked_in, Share, total, spent, gift, pass, release, offer, pass_each, climb, dispatch}
use Rattle.tree.specs.Tree.{chain, Tree, up}
use Rattle.books.specs.Invariant.{Shape, Active, Balance, Balanced, Roomy, Good}
use Rattle.books.proofs.EachStore.{of-each, all-each}
use Rattle.numbers.proofs.Tests.{decide, clash, same_or_not, or_cases, or_right, or-false}
use Rattle.numbers.proofs.Sums.{Task, only-false}
use Rattle.tree.proofs.Tree.{up-self, up_step, chain-none, chain-step, parent-task, not-above-itself}
use Rattle.books.proofs.Shape.{Moved, not-begun-above}
use Rattle.books.proofs.Balance.{cleared}
use Rattle.books.proofs.Climbing.{nothing_left, at-waiting, offer-balance, offer-total}
use Rattle.books.proofs.Finishing.{Taken, finishing-shape, finishing}
use Rattle.books.proofs.Branches.{climb-stop, climb-offer, release-child}
use Rattle.books.proofs.Entries.{at_other, moved-by-set, given-by-set, grown-by-set}

-- all trays of a store while they are shared out: booked, or left
abbrev pub held : ℕ → Share → ℕ
held n s = total n (at s.booked) + s.left

-- a store while what is left is owed to the tasks of a path
pub record Owing (n : ℕ) (par need out st : ℕ → ℕ) (path : List ℕ) (s : Share) : Type 0 where
  pub sized : length s.booked ≡ suc n
  pub books : Balance n par need out st (at s.booked) path s.left

-- a store once s is shared out: nothing is owed, and all trays are still there
pub record SharedOut (n : ℕ) (par need out st : ℕ → ℕ) (s s' : Share) : Type 0 where
  pub sized : length s'.booked ≡ suc n
  pub books : Balanced n par need out st (at s'.booked)
  pub all : held n s' ≡ held n s

-- one store, in a climb
module _ (n : ℕ) (par rank : ℕ → ℕ) (tree : Tree n par rank) (st : ℕ → ℕ) (shape : Shape n par rank st)
    (need out : ℕ → ℕ) (s : Share) where
  -- past the root nobody is owed anything
  past-root : (k : ℕ) → chain n par k ≡ [] → Owing n par need out st (chain n par k) s → SharedOut n par need out st s s
  unfolding mem
  past-root k e owing =
      record {
        sized = owing.sized;
        books =
            cleared n par need out st (at s.booked) (chain n par k) s.left owing.books
            (λ i _ _. only-false (up n par i k) s.left (ap (mem i) e));
        all = refl;
      }

  -- nor is anybody above a waiting task, or where nothing is left
  at-stop :
      (x : ℕ)
      → Task n x
      → (st x ≡ waiting) ⊎ (s.left ≡ 0)
      → Owing n par need out st (chain n par x) s
      → SharedOut n par need out st s s
  at-stop x t stop owing =
      record {
        sized = owing.sized;
        books =
            ⊎_elim
            (λ w. at-waiting n par rank tree st shape need out (at s.booked) x s.left t w owing.books)
            (λ z. nothing_left n par need out st (at s.booked) (chain n par x) s.left z owing.books)
            stop;
        all = refl;
      }

  -- one offer, also where nothing is left: the rest is owed to those above
  module _ (roomy : Roomy n par need out) (x : ℕ) (t : Task n x) (a : Active st x) (owing : Owing n par need out st (chain n par x) s) where
    passed : Owing n par need out st (chain n par (par x)) (pass n par need x s)
    unfolding pass gift
    passed =
        record {
          sized = length-set s.booked x (at s.booked x + gift n par need s.booked x) ∙ owing.sized;
          books =
              offer-balance n par rank tree st shape need out roomy x t a s.left (at s.booked) _ owing.books
              (given-by-set n par need s.booked x owing.sized t);
        }

    passed-all : held n (pass n par need x s) ≡ held n s
    unfolding pass gift total
    passed-all =
        offer-total n par rank tree st shape need out roomy x t a s.left (at s.booked) _ owing.books
        (given-by-set n par need s.booked x owing.sized t)

-- one store, in which the trays of j are taken, and its parent keeps its out
module _ (n : ℕ) (par rank : ℕ → ℕ) (tree : Tree n par rank) (st st' : ℕ → ℕ) (shape : Shape n par rank st) (j : ℕ)
    (task : Task n j) (runs : st j ≡ running) (moved : Moved n st st' j finished) (higher : par j ≡ 0 → ⊥) (need out : ℕ → ℕ)
    (roomy : Roomy n par need out) (b : List ℕ) (sized : length b ≡ suc n) (books : Balanced n par need out st (at b)) where
  taken : Moved n (at b) (at (set b j 0)) j 0
  taken = moved-by-set n b j 0 sized task

  sized-taken : length (set b j 0) ≡ suc n
  sized-taken = length-set b j 0 ∙ sized

  released :
      Owing n par need out st' (chain n par (par j)) (release par out b j) × (held n (release par out b j) ≡ total n (at b))
  unfolding total
  released =
      let u = parent-task n par rank tree j task higher in
      let given : ℕ = at (set b j 0) (par j) + out j in
      let ends : Taken n par out (at b) (at (set b j 0)) (at (set (set b j 0) (par j) given)) j (at b j - out j) =
      record { taken = taken; gave = λ i _. grown-by-set n (set b j 0) (par j) (out j) sized-taken u i; rest = refl }
      in
      let owed = finishing n par rank tree st st' shape j task runs moved higher need out (at b) _ _ _ roomy books ends in
      rw (release-child par out b j (ne_eqb (par j) 0 higher))
      (record { sized = length-set (set b j 0) (par j) given ∙ sized-taken; books = owed.0 }, owed.1)

-- a store as booking finds it, in a climb and after it
abbrev OwingBy : (n : ℕ) (par : ℕ → ℕ) (terms : Terms) (st : ℕ → ℕ) (path : List ℕ) (s : Share) → Type 0
OwingBy n par terms st path s = Owing n par terms.need terms.out st path s

abbrev SharedOutBy : (n : ℕ) (par : ℕ → ℕ) (terms : Terms) (st : ℕ → ℕ) (s s' : Share) → Type 0
SharedOutBy n par terms st s s' = SharedOut n par terms.need terms.out st s s'

module _ (n : ℕ) (par rank : ℕ → ℕ) (tree : Tree n par rank) (terms : Kind → Terms)
    (roomy : (k : Kind) → Roomy n par (terms k).need (terms k).out) (st : ℕ → ℕ) (shape : Shape n par rank st) where
  -- the tasks above a task that has not ended, after one step
  idle-above :
      (x : ℕ) → Task n x → ((a : ℕ) → up n par a x ≡ true → st a ≤ activated) → (a : ℕ) → up n par a (par x) ≡ true → st a ≤ activated
  idle-above x t idle a m =
      idle a (up_step n par rank tree a x t ∙ or_right (eqb a x) (up n par a (par x)) m)

  -- where a climb stops, each store has nothing left or the task waits
  stops : (x : ℕ) (s : Each Share) → (eqb (st x) waiting || spent s) ≡ true → (d : Kind) → (st x ≡ waiting) ⊎ ((of s d).left ≡ 0)
  unfolding spent
  stops x s stop d =
      ⊎_elim (λ (w : eqb (st x) waiting ≡ true). inl (eqb-true (st x) waiting w))
      (λ (z : spent s ≡ true). inr (eqb-true (of s d).left 0 (all-each (λ k. eqb (of s k).left 0) z d)))
      (or_cases (eqb (st x) waiting) (spent s) stop)

  pub climbs :
      (path : List ℕ) (k : ℕ) (s : Each Share)
      → path ≡ chain n par k
      → k ≤ n
      → ((a : ℕ) → up n par a k ≡ true → st a ≤ activated)
      → ((d : Kind) → OwingBy n par (terms d) st (chain n par k) (of s d))
      → (d : Kind)
      → SharedOutBy n par (terms d) st (of s d) (of (climb n par terms st path s).share d)
  unfolding climb offer pass_each
  climbs [] k s e h idle owing d = past-root n par rank tree st shape (terms d).need (terms d).out (of s d) k (sym e) (owing d)
  climbs (x ∷ above) k s e h idle owing d =
      let task-k : Task n k =
      ⊎_elim
      (λ z.
      let none : x ∷ above ≡ [] = e ∙ ap (chain n par) z ∙ chain-none n par in
      let clash : ◌≡◌ {A = ℕ} 0 1 = cc in
      absurd (omega arith))
      (λ d. omega arith)
      (same_or_not k 0)
      in
      let whole : x ∷ above ≡ k ∷ chain n par (par k) = e ∙ chain-step n par rank tree k task-k in
      let x-is : k ≡ x = cc in
      let t : Task n x = subst (λ (v : ℕ). Task n v) x-is task-k in
      let above-is : above ≡ chain n par (par x) = (let w : above ≡ chain n par (par k) = cc in w ∙ ap (λ (v : ℕ). chain n par (par v)) x-is) in
      let owing-x : (c : Kind) → OwingBy n par (terms c) st (chain n par x) (of s c) =
      λ c. subst (λ (v : ℕ). OwingBy n par (terms c) st (chain n par v) (of s c)) x-is (owing c)
      in
      let idle-x : (a : ℕ) → up n par a x ≡ true → st a ≤ activated =
      subst (λ (v : ℕ). (a : ℕ) → up n par a v ≡ true → st a ≤ activated) x-is idle
      in
      ⊎_elim
      (λ (stop : (eqb (st x) waiting || spent s) ≡ true).
      rw (climb-stop n par terms st x above s stop)
      (at-stop n par rank tree st shape (terms d).need (terms d).out (of s d) x t (stops x s stop d) (owing-x d)))
      (λ (go : (eqb (st x) waiting || spent s) ≡ false).
      let busy = eqb-false (st x) waiting (or-false (eqb (st x) waiting) (spent s) go).0 in
      let low = idle-x x (up-self n par rank tree x t) in
      let a : Active st x = omega arith in
      let f : Kind → Share = λ c. pass n par (terms c).need x (of s c) in
      let later =
      climbs above (par x) (each f) above-is (tree.within x t) (idle-above x t idle-x)
      (λ c.
      rw (of-each f c) (passed n par rank tree st shape (terms c).need (terms c).out (of s c) (roomy c) x t a (owing-x c))) d
      in
      let all =
      passed-all n par rank tree st shape (terms d).need (terms d).out (of s d) (roomy d) x t a (owing-x d)
      in
      rw (climb-offer n par terms st x above s go)
      (record {
        sized = later.sized;
        books = later.books;
        all = later.all ∙ ap (held n) (of-each f d) ∙ all;
      }))
      (decide (eqb (st x) waiting || spent s))

module _ (n : ℕ) (par rank : ℕ → ℕ) (tree : Tree n par rank) (terms : Kind → Terms)
    (roomy : (k : Kind) → Roomy n par (terms k).need (terms k).out)
    (k : Books) (good : Good n par rank terms k) (j : ℕ) (task : Task n j)
    (runs : at k.standings j ≡ running) (higher : par j ≡ 0 → ⊥) where
  moved : Moved n (at k.standings) (at (set k.standings j finished)) j finished
  moved = moved-by-set n k.standings j finished good.sized task

  shape-after : Shape n par rank (at (set k.standings j finished))
  shape-after = finishing-shape n par rank tree (at k.standings) _ good.shape j task runs moved

  -- nobody above j has begun
  idle : (a : ℕ) → up n par a (par j) ≡ true → at (set k.standings j finished) a ≤ activated
  idle a m =
      let low =
      not-begun-above n par rank tree (at k.standings) good.shape a j task m (λ e. omega arith)
      in
      let a-not : a ≡ j → ⊥ =
      λ q. clash (subst (λ (v : ℕ). up n par v (par j) ≡ true) q m) (not-above-itself n par rank tree j task)
      in
      let same = at_other k.standings j finished a a-not in
      omega arith

  abbrev given_up : Kind → Share
  given_up d = release par (terms d).out (booked_in k d) j

  -- what each store gives up
  gives : (d : Kind) → OwingBy n par (terms d) (at (set k.standings j finished)) (chain n par (par j)) (given_up d)
      × (held n (given_up d) ≡ total n (at (booked_in k d)))
  gives d =
      released n par rank tree (at k.standings) _ good.shape j task runs moved higher (terms d).need (terms d).out (roomy d)
      (booked_in k d) (good.stock d).sized (good.stock d).books

  -- the books once j has ended
  pub sharing-good :
      Good n par rank terms
      (record {
        standings = set k.standings j finished;
        booked = each (λ d. (of (dispatch n par terms (at (set k.standings j finished)) k.booked j).share d).booked);
      })
  unfolding dispatch
  sharing-good =
      let shared =
      climbs n par rank tree terms roomy (at (set k.standings j finished)) shape-after (chain n par (par j)) (par j) (each given_up) refl
      (tree.within j task) idle (λ d. rw (of-each given_up d) (gives d).0)
      in
      record {
        sized = length-set k.standings j finished ∙ good.sized;
        shape = shape-after;
        stock =
            λ d.
            rw (of-each (λ e. (of (climb n par terms (at (set k.standings j finished)) (chain n par (par j)) (each given_up)).share e).booked) d)
            (record {
              sized = (shared d).sized;
              books = (shared d).books;
              within =
                  (let all = (shared d).all ∙ ap (held n) (of-each given_up d) ∙ (gives d).1 in
                  let w = (good.stock d).within in
                  omega arith);
            });
      }
