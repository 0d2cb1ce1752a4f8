-- One equation a branch of `why`; and of a plan in its day what the first waiting task lacks, the child that a task waits for, and who has
-- the processors.
use mathlib.Core.Path.{◌≡◌, refl, sym, ap, ◌∙◌}
use mathlib.Core.Bool.{Bool, true, false, not, cond}
use mathlib.Core.Logic.{⊎_elim}
use mathlib.Core.List.{List, [], ◌∷◌}
use Prim.Native.Nat.{ℕ, suc, ◌+◌, ◌≤◌, ◌<◌}
use native.Mathlib.Omega.{arith}
use lib.Dec.{eqb, leb}
use lib.ListN.{length, drop}
use lib.Seq.{drop-cons}
use borrow.Author.Tests.{eqb-true, eqb-false, eq-eqb, ne_eqb, le-leb, lt-leb, leb-false, not-true}
use Rattle.books.specs.Kind.{Kind, of}
use Rattle.numbers.specs.Sums.{count_to, within}
use Rattle.numbers.specs.Lists.{at, first}
use Rattle.rules.specs.Phase
use Rattle.books.specs.Standing
use Rattle.books.specs.Standing.{waiting, activated, finished, count}
use Rattle.rules.specs.State.{State, needs_in, store_of}
use Rattle.books.specs.Booking.{Terms, allows_in, total, missing, Books, is_unended_child, fed, misses, allows, book, activate, ready}
use Rattle.rules.specs.Obey.{terms_of, books_of, with_places, with_bounds, ahead}
use Rattle.rules.specs.Question.{is_running}
use Rattle.tree.specs.Tree.{Valid, rank_in}
use Rattle.books.specs.Invariant.{FirstWaiting}
use Rattle.whys.specs.Why.{refused, ended, running, not_booked, unfed, no_processor, has, first_waiting, lack_in, lacks, unended_child, why}
use Rattle.whys.specs.WhyHolds.{LackIsExact, Unfed}
use Rattle.books.proofs.EachStore.{of-each, each_all, some-fails, one-fails}
use Rattle.numbers.proofs.Tests.{decide, clash, fails, le-or-lt, and-true, and_both}
use Rattle.numbers.proofs.Sums.{Task, none-counted}
use Rattle.numbers.proofs.Lowest.{lowest-found}
use Rattle.tree.proofs.Orders.{within-task, task-within, every-mem, mem-at, place-lt, place_at, place_of}
use Rattle.tree.proofs.Ranks.{stands}
use Rattle.books.proofs.Branches.{activate-pass, activate-book, activate-stop, passes-all, first-at}
use Rattle.books.proofs.Entries.{at_set, at_other}
use Rattle.books.proofs.Waiting.{first-waiting, found_first}
use Rattle.rules.proofs.InDay.{Planned, Going, tree}

-- one equation a branch, by the phase, the number and the standing
module _ (s : State) (i : ℕ) where
  pub why-outside : (s.phase ≡ Phase.running → ⊥) → why s i ≡ refused 3
  unfolding why is_running
  why-outside out = rw (ne_eqb s.phase Phase.running out)

  module _ (runs : s.phase ≡ Phase.running) where
    pub why-nobody : (Task s.size i → ⊥) → why s i ≡ refused 4
    unfolding why is_running
    why-nobody none =
        rw (eq-eqb s.phase Phase.running runs, fails (within i s.size) (λ e. none (within-task s.size i e)))

    module _ (task : Task s.size i) where
      pub why-ended : at s.standings i ≡ finished → why s i ≡ ended
      unfolding why is_running
      why-ended e =
          rw (eq-eqb s.phase Phase.running runs, task-within s.size i task, eq-eqb (at s.standings i) finished e)

      pub why-running : at s.standings i ≡ Standing.running → why s i ≡ running
      unfolding why is_running
      why-running e =
          rw (
            eq-eqb s.phase Phase.running runs,
            task-within s.size i task,
            ne_eqb (at s.standings i) finished (λ f. omega arith),
            eq-eqb (at s.standings i) Standing.running e,
          )

      pub why-waiting :
          at s.standings i ≡ waiting → why s i ≡ not_booked (first_waiting s) (lacks s (first_waiting s))
      unfolding why is_running
      why-waiting e =
          rw (
            eq-eqb s.phase Phase.running runs,
            task-within s.size i task,
            ne_eqb (at s.standings i) finished (λ f. omega arith),
            ne_eqb (at s.standings i) Standing.running (λ f. omega arith),
            eq-eqb (at s.standings i) waiting e,
          )

      why-booked :
          at s.standings i ≡ activated
          → why s i
          ≡ cond (not (fed s.size (at s.parents) (at s.standings) i)) (unfed (unended_child s i)) no_processor
      unfolding why is_running
      why-booked e =
          rw (
            eq-eqb s.phase Phase.running runs,
            task-within s.size i task,
            ne_eqb (at s.standings i) finished (λ f. omega arith),
            ne_eqb (at s.standings i) Standing.running (λ f. omega arith),
            ne_eqb (at s.standings i) waiting (λ f. omega arith),
          )

      pub why-unfed :
          at s.standings i ≡ activated
          → fed s.size (at s.parents) (at s.standings) i ≡ false
          → why s i ≡ unfed (unended_child s i)
      why-unfed e f = why-booked e ∙ rw f

      pub why-no-processor :
          at s.standings i ≡ activated
          → fed s.size (at s.parents) (at s.standings) i ≡ true
          → why s i ≡ no_processor
      why-no-processor e f = why-booked e ∙ rw f

-- the first waiting task by its place in the order: nobody in front of it waits
module _ (n : ℕ) (par : ℕ → ℕ) (order : List ℕ) (valid : Valid n par order) (st : ℕ → ℕ) (x : ℕ)
    (fw : FirstWaiting n (rank_in order) st x) where
  there : at order (rank_in order x) ≡ x
  there = place_at x order (stands n par order valid x fw.task)

  inside : rank_in order x < length order
  inside = place-lt x order (stands n par order valid x fw.task)

  before : (e : ℕ) → e < rank_in order x → st (at order e) ≡ waiting → ⊥
  before e h w =
      let in_order : e < length order = (let i = inside in omega arith) in
      let own = place_of order e valid.once in_order in
      fw.first (at order e)
      (within-task n (at order e) (every-mem (λ i. within i n) order (at order e) valid.inside (mem-at order e in_order)))
      (omega arith) w

  -- it is the one that is found
  pub first-is : first (λ i. eqb (st i) waiting) order ≡ x
  first-is =
      first-at (λ i. eqb (st i) waiting) order (rank_in order x) inside
      (λ e h. ne_eqb (st (at order e)) waiting (before e h))
      (rw there (eq-eqb (st x) waiting fw.waits))
      ∙ there

-- booking ahead leaves the standing of whoever does not wait
activate-keeps :
    (n : ℕ) (par : ℕ → ℕ) (terms : Kind → Terms) (l : List ℕ) (k : Books) (i : ℕ)
    → (at k.standings i ≡ waiting → ⊥)
    → at (activate n par terms l k).standings i ≡ at k.standings i
unfolding activate book
activate-keeps n par terms [] k i busy = refl
activate-keeps n par terms (x ∷ l) k i busy =
    ⊎_elim
    (λ (w : eqb (at k.standings x) waiting ≡ true).
    ⊎_elim
    (λ (a : allows n par terms k x ≡ true).
    let other : i ≡ x → ⊥ = λ q. busy (ap (at k.standings) q ∙ eqb-true (at k.standings x) waiting w) in
    let same = at_other k.standings x activated i other in
    ap (λ (b : Books). at b.standings i) (activate-book n par terms x l k w a)
    ∙ activate-keeps n par terms l (book n par terms k x) i (λ v. busy (sym same ∙ v))
    ∙ same)
    (λ (a : allows n par terms k x ≡ false).
    ap (λ (b : Books). at b.standings i) (activate-stop n par terms x l k w a))
    (decide (allows n par terms k x)))
    (λ (w : eqb (at k.standings x) waiting ≡ false).
    ap (λ (b : Books). at b.standings i) (activate-pass n par terms x l k w)
    ∙ activate-keeps n par terms l k i busy)
    (decide (eqb (at k.standings x) waiting))

-- booking ahead within some bound comes to the first waiting task, and books it just where it is allowed
module _ (n : ℕ) (par : ℕ → ℕ) (terms : Kind → Terms) (order : List ℕ) (valid : Valid n par order) (k : Books) (x : ℕ)
    (fw : FirstWaiting n (rank_in order) (at k.standings) x) where
  comes :
      activate n par terms order k ≡ activate n par terms (x ∷ drop (suc (rank_in order x)) order) k
  comes =
      passes-all n par terms order (rank_in order x) k (before n par order valid (at k.standings) x fw)
      ∙ ap (λ (l : List ℕ). activate n par terms l k)
      (drop-cons order (rank_in order x) 0 (inside n par order valid (at k.standings) x fw)
      ∙ ap (λ (y : ℕ). y ∷ drop (suc (rank_in order x)) order) (there n par order valid (at k.standings) x fw))

  waits-true : eqb (at k.standings x) waiting ≡ true
  waits-true = eq-eqb (at k.standings x) waiting fw.waits

  allowed-booked :
      length k.standings ≡ suc n
      → allows n par terms k x ≡ true
      → at (activate n par terms order k).standings x ≡ activated
  unfolding book
  allowed-booked sized a =
      let own = at_set n k.standings x activated sized fw.task in
      ap (λ (b : Books). at b.standings x)
      (comes ∙ activate-book n par terms x (drop (suc (rank_in order x)) order) k waits-true a)
      ∙ activate-keeps n par terms (drop (suc (rank_in order x)) order) (book n par terms k x) x (λ w. omega arith)
      ∙ own

  denied-waits : allows n par terms k x ≡ false → at (activate n par terms order k).standings x ≡ waiting
  denied-waits a =
      ap (λ (b : Books). at b.standings x)
      (comes ∙ activate-stop n par terms x (drop (suc (rank_in order x)) order) k waits-true a)
      ∙ fw.waits

-- a plan whose day goes on
module _ (s : State) (planned : Planned s) (going : Going s) where
  -- what the books and a task x would make together in a store
  abbrev asked : ℕ → Kind → ℕ
  asked x k =
      total s.size (at (store_of s k).booked)
      + missing s.size (at s.parents) (needs_in s (store_of s k)) (at s.standings) (at (store_of s k).booked) x

  -- with more places it is allowed where that is within them
  allowed-with :
      (more : Kind → ℕ) (x : ℕ) (k : Kind)
      → allows_in s.size (at s.parents) (terms_of (with_bounds s (λ d. (store_of s d).bound + more d))) (books_of s) x k
      ≡ leb (asked x k) ((store_of s k).bound + more k)
  unfolding allows_in misses with_bounds
  allowed-with more x k =
      rw (
        of-each (λ d. (store_of s d).booked) k,
        of-each (λ d. with_places (store_of s d) ((store_of s d).bound + more d)) k,
      ) refl

  -- the first waiting task lacks so many places just
  pub lack-exact :
      (x : ℕ)
      → FirstWaiting s.size (rank_in s.activation) (at s.standings) x
      → LackIsExact s x (of (lacks s x))
  unfolding lacks lack_in ahead with_bounds allows allows_in misses
  lack-exact x fw =
      record {
        some =
            (let short = some-fails (allows_in s.size (at s.parents) (terms_of s) (books_of s) x) (going.settled.halted x fw) in
            lacking short.0 short.1);
        booked =
            allowed-booked s.size (at s.parents) _ s.activation planned.valid (books_of s) x fw
            going.settled.good.sized
            (each_all _
            (λ k.
            allowed-with (of (lacks s x)) x k
            ∙ le-leb (asked x k) _ (let e = of-each (λ d. lack_in s (store_of s d) x) k in omega arith)));
        waits =
            λ more k h.
            denied-waits s.size (at s.parents) _ s.activation planned.valid (books_of s) x fw
            (one-fails _ k
            (allowed-with more x k
            ∙ lt-leb (asked x k) _ (let e = of-each (λ d. lack_in s (store_of s d) x) k in omega arith)));
      }
    where
      lacking :
          (k : Kind)
          → allows_in s.size (at s.parents) (terms_of s) (books_of s) x k ≡ false
          → (d : Kind) × (1 ≤ of (lacks s x) d)
      lacking k f =
          let g : leb (asked x k) (store_of s k).bound ≡ false = rw (of-each (λ d. (store_of s d).booked) k) at f in
          let short = leb-false (asked x k) (store_of s k).bound g in
          (k, (let e = of-each (λ d. lack_in s (store_of s d) x) k in omega arith))

  -- where somebody waits, the first that is found is the first
  pub first_found :
      (i : ℕ)
      → Task s.size i
      → at s.standings i ≡ waiting
      → FirstWaiting s.size (rank_in s.activation) (at s.standings) (first_waiting s)
  unfolding first_waiting
  first_found i t w =
      let valid = planned.valid in
      ⊎_elim
      (λ found.
      let fw = found_first s.size (at s.parents) s.activation valid (tree s planned) (at s.standings)
      going.settled.good.shape found
      in
      rw (first-is s.size (at s.parents) s.activation valid (at s.standings) found.x fw) fw)
      (λ none. absurd (none i (stands s.size (at s.parents) s.activation valid i t) w))
      (first-waiting (at s.standings) s.activation)

  -- the child that is found of a task that is not fed
  pub child-found : (i : ℕ) → fed s.size (at s.parents) (at s.standings) i ≡ false → Unfed s i (unended_child s i)
  unfolding fed unended_child
  child-found i e =
      let test : ℕ → Bool = is_unended_child (at s.parents) (at s.standings) i in
      let some = eqb-false (count_to test s.size) 0 e in
      let low = lowest-found test s.size (omega arith) in
      let both = and-true _ _ low.passes in
      record {
        task = low.task;
        child = eqb-true _ _ both.0;
        unended = eqb-false _ _ (not-true _ both.1);
        lowest =
            λ d t h q.
            ⊎_elim (λ (f : has s finished d ≡ true). eqb-true _ _ f)
            (λ (f : has s finished d ≡ false).
            absurd (clash (and_both _ _ (eq-eqb _ i q) (rw f refl)) (low.below d t.low h)))
            (decide (has s finished d));
      }

  -- a fed task has no such child
  pub no-child : (i c : ℕ) → fed s.size (at s.parents) (at s.standings) i ≡ true → Unfed s i c → ⊥
  unfolding fed
  no-child i c e u =
      let test : ℕ → Bool = is_unended_child (at s.parents) (at s.standings) i in
      clash (and_both _ _ (eq-eqb _ i u.child) (rw (ne_eqb _ _ u.unended) refl))
      (none-counted test s.size (eqb-true _ 0 e) c u.task)

  -- where a booked task is fed and does not run, all processors are taken
  pub all-taken :
      (i : ℕ)
      → Task s.size i
      → at s.standings i ≡ activated
      → fed s.size (at s.parents) (at s.standings) i ≡ true
      → count s.size (at s.standings) Standing.running ≡ s.processors
  unfolding ready
  all-taken i t a e =
      let most = going.settled.staffed in
      ⊎_elim
      (λ (h : s.processors ≤ count s.size (at s.standings) Standing.running). omega arith)
      (λ (h : count s.size (at s.standings) Standing.running < s.processors).
      absurd (clash (and_both _ _ (eq-eqb _ activated a) e) (going.settled.busy h i t)))
      (le-or-lt s.processors (count s.size (at s.standings) Standing.running))
