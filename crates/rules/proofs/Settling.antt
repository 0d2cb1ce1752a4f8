-- Booking ahead and starting, the end of BEGIN, of DONE and of 08: what they leave behind.
use mathlib.Core.Path.{◌≡◌, refl, sym, ap, ◌∙◌}
use mathlib.Core.Bool.{Bool, true, false, not, ◌&&◌}
use mathlib.Core.Logic.{◌⊎◌, inl, inr, ⊎_elim}
use mathlib.Core.List.{List, [], ◌++◌, map}
use Prim.Native.Nat.{ℕ, suc, ◌+◌, ◌-◌, ◌≤◌, ◌<◌}
use native.Mathlib.Omega.{arith}
use lib.Dec.{eqb, leb}
use lib.ListN.{length}
use Rattle.numbers.specs.Sums.{only, within}
use Rattle.books.specs.Kind.{Kind, Each, of}
use Rattle.numbers.specs.Lists.{at, every, distinct}
use Rattle.books.specs.Standing.{waiting, activated, running, finished, count}
use Rattle.rules.specs.Obey.{free}
use Rattle.books.specs.Booking.{Terms, Books, total, children_figure, missing, misses, allows_in, allows, activate, ready, starts, start}
use Rattle.tree.specs.Tree.{figure, Valid, rank_in, Tree}
use Rattle.rules.specs.Day.{Event, started}
use Rattle.books.specs.Invariant.{FirstWaiting, Roomy, Good}
use Rattle.books.proofs.EachStore.{all_same}
use Rattle.numbers.proofs.Tests.{same_or_not, eqb-above}
use Rattle.numbers.proofs.Sums.{Task, sum-cong}
use Rattle.numbers.proofs.Counts.{count-cong}
use Rattle.tree.proofs.Orders.{all_in, nobody}
use Rattle.books.proofs.Ahead.{Activated, activates}
use Rattle.books.proofs.Starts.{Startable, starts-startable, starts-length, starts-halt, start-count, start-good, start-kind}
use Rattle.rules.proofs.Log.{Logged, InOrder, logged-same, starts-logged}

-- what a task misses in a store goes by who has ended
pub missing-same :
    (n : ℕ) (par need st st' b : ℕ → ℕ)
    → ((c : ℕ) → Task n c → eqb (st' c) finished ≡ eqb (st c) finished)
    → (x : ℕ)
    → missing n par need st' b x ≡ missing n par need st b x
unfolding missing children_figure
missing-same n par need st st' b same x =
    ap (λ (f : ℕ). need x - (b x + f))
    (sum-cong (λ c. only (eqb (par c) x && not (eqb (st' c) finished)) (figure n par b c))
    (λ c. only (eqb (par c) x && not (eqb (st c) finished)) (figure n par b c)) n
    (λ c t. ap (λ (e : Bool). only (eqb (par c) x && not e) (figure n par b c)) (same c t)))

-- and so does whether it may be booked
pub allows-same :
    (n : ℕ) (par : ℕ → ℕ) (terms : Kind → Terms) (st st' : List ℕ) (b : Each (List ℕ))
    → ((c : ℕ) → Task n c → eqb (at st' c) finished ≡ eqb (at st c) finished)
    → (x : ℕ)
    → allows n par terms (record { standings = st'; booked = b }) x
    ≡ allows n par terms (record { standings = st; booked = b }) x
unfolding allows allows_in misses
allows-same n par terms st st' b same x =
    all_same _ _
    (λ k.
    ap (λ (m : ℕ). leb (total n (at (of b k)) + m) (terms k).bound) (missing-same n par (terms k).need (at st) (at st') (at (of b k)) same x))

-- the books between two commands: the first waiting task does not fit, and processors are free only where nobody is ready
pub record Settled (n : ℕ) (par rank : ℕ → ℕ) (terms : Kind → Terms) (processors : ℕ) (k : Books) : Type 0 where
  pub good : Good n par rank terms k
  pub halted : (x : ℕ) → FirstWaiting n rank (at k.standings) x → allows n par terms k x ≡ false
  pub staffed : count n (at k.standings) running ≤ processors
  pub busy :
      count n (at k.standings) running < processors → (i : ℕ) → Task n i → ready n par k.standings i ≡ false

-- what booking ahead and starting make of the books k, where the tasks of l start
pub record Coursed (n : ℕ) (par rank : ℕ → ℕ) (terms : Kind → Terms) (processors : ℕ) (k k' : Books) (l : List ℕ) : Type 0 where
  pub settled : Settled n par rank terms processors k'
  -- nobody ends
  pub ends : (i : ℕ) → Task n i → eqb (at k'.standings i) finished ≡ eqb (at k.standings i) finished
  -- what happened, with the starts
  pub logged :
      (happened : List Event)
      → Logged n (at k.standings) happened
      → InOrder n par happened
      → Logged n (at k'.standings) (happened ++ map started l) × InOrder n par (happened ++ map started l)

module _ (n : ℕ) (par : ℕ → ℕ) (order : List ℕ) (valid : Valid n par order) (tree : Tree n par (rank_in order))
    (terms : Kind → Terms) (roomy : (k : Kind) → Roomy n par (terms k).need (terms k).out) (processors : ℕ) (execution : List ℕ)
    (inside : every (λ i. within i n) execution ≡ true) (once : distinct execution ≡ true) (whole : length execution ≡ n)
    (k k₁ : Books) (good : Good n par (rank_in order) terms k)
    (staffed : count n (at k.standings) running ≤ processors) (ahead : k₁ ≡ activate n par terms order k) (l : List ℕ)
    (begun : l ≡ starts n par execution (free n processors k₁.standings) k₁.standings) where
  pub activated-ahead : Activated n par (rank_in order) terms k k₁
  activated-ahead =
      rw ahead (activates n par order valid tree terms roomy [] order k refl (λ j m. absurd (nobody j m)) good)

  -- booking ahead starts and ends nobody
  pub same_ahead :
      (i : ℕ)
      → Task n i
      → (at k₁.standings i ≡ at k.standings i) ⊎ ((at k.standings i ≤ activated) × (at k₁.standings i ≤ activated))
  same_ahead i t =
      ⊎_elim (λ w. inr (omega arith, activated-ahead.waited i t w)) (λ d. inl (activated-ahead.kept i t d))
      (same_or_not (at k.standings i) waiting)

  pub running-ahead : count n (at k₁.standings) running ≡ count n (at k.standings) running
  unfolding count
  running-ahead =
      count-cong (λ i. eqb (at k₁.standings i) running) (λ i. eqb (at k.standings i) running) n
      (λ i t. eqb-above _ _ activated running (omega arith) (same_ahead i t))

  pub may-start : Startable n par k₁.standings l
  may-start = rw begun (starts-startable n par execution inside (free n processors k₁.standings) k₁.standings)

  sized-ahead : length k₁.standings ≡ suc n
  sized-ahead = activated-ahead.good.sized

  pub kind : (i : ℕ) → (at (start l k₁.standings) i ≡ at k₁.standings i)
      ⊎ ((at k₁.standings i ≡ activated) × (at (start l k₁.standings) i ≡ running))
  kind = start-kind n par l k₁.standings sized-ahead may-start

  -- so many run then
  pub running-then : count n (at (start l k₁.standings)) running ≡ count n (at k.standings) running + length l
  running-then =
      start-count n par l k₁.standings sized-ahead may-start ∙ ap (λ (v : ℕ). v + length l) running-ahead

  within-free : length l ≤ processors - count n (at k.standings) running
  unfolding free
  within-free =
      let h = rw (← begun) at (starts-length n par execution inside (free n processors k₁.standings) k₁.standings) in
      let r = running-ahead in
      omega arith

  -- starting ends nobody
  pub same_ended : (c : ℕ) → Task n c → eqb (at (start l k₁.standings) c) finished ≡ eqb (at k₁.standings c) finished
  same_ended c _ =
      eqb-above _ _ running finished (omega arith)
      (⊎_elim inl (λ h. inr (omega (arith, h.0), omega (arith, h.1))) (kind c))

  -- who waits afterwards waited after booking ahead, and the other way round
  pub waits-before : (i : ℕ) → at (start l k₁.standings) i ≡ waiting → at k₁.standings i ≡ waiting
  waits-before i w = ⊎_elim (λ e. sym e ∙ w) (λ h. absurd (omega (arith, h.1))) (kind i)

  pub waits-after : (i : ℕ) → at k₁.standings i ≡ waiting → at (start l k₁.standings) i ≡ waiting
  waits-after i w = ⊎_elim (λ e. e ∙ w) (λ h. absurd (omega (arith, h.0))) (kind i)

  settles :
      Settled n par (rank_in order) terms processors (record { standings = start l k₁.standings; booked = k₁.booked })
  unfolding free
  settles =
      record {
        good = start-good n par (rank_in order) terms l k₁.standings k₁.booked may-start activated-ahead.good;
        halted =
            λ x w.
            allows-same n par terms k₁.standings (start l k₁.standings) k₁.booked same_ended x
            ∙ activated-ahead.halted x
            (record {
              task = w.task;
              waits = waits-before x w.waits;
              first = λ j t h v. w.first j t h (waits-after j v);
            });
        staffed = (let r = running-then in let f = within-free in omega arith);
        busy =
            λ few i t.
            let r = running-then in
            let a = running-ahead in
            let short : length (starts n par execution (free n processors k₁.standings) k₁.standings) < free n processors k₁.standings =
            rw (← begun) (omega arith)
            in
            rw begun
            (starts-halt n par execution inside (free n processors k₁.standings) k₁.standings short i
            (all_in n execution inside once whole i t));
      }

  pub coursed :
      Coursed n par (rank_in order) terms processors k
      (record { standings = start l k₁.standings; booked = k₁.booked }) l
  coursed =
      record {
        settled = settles;
        ends = λ i t. same_ended i t ∙ eqb-above _ _ activated finished (omega arith) (same_ahead i t);
        logged =
            λ happened logged in_order.
            starts-logged n par l k₁.standings happened sized-ahead may-start
            (logged-same n (at k.standings) (at k₁.standings) happened same_ahead logged) in_order;
      }
