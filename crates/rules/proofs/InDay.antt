-- A plan in its day: what holds after an accepted BEGIN, after each accepted DONE and 08, and after the FETCH.
use mathlib.Core.Path.{◌≡◌, refl, sym, ap, fun_ext, ◌∙◌}
use mathlib.Core.Bool.{Bool, true, false, cond}
use mathlib.Core.List.{List, ◌++◌, map}
use Prim.Native.Nat.{ℕ, suc, ◌≤◌, ◌<◌}
use native.Mathlib.Omega.{arith}
use lib.Dec.{eqb}
use lib.ListN.{length, replicate, length-replicate, get_or-replicate}
use borrow.Author.Tests.{eqb-true, eq-eqb, ne_eqb, leb-true}
use Rattle.books.specs.Kind.{Kind, Each, of, all}
use Rattle.numbers.specs.Sums.{only, sum_to}
use Rattle.numbers.specs.Lists.{at}
use Rattle.tree.specs.Need.{need}
use Rattle.tree.specs.Peak.{Peaked}
use Rattle.tree.specs.Tree.{roots, ordered, Valid, rank_in, Tree}
use Rattle.rules.specs.Phase
use Rattle.books.specs.Standing.{waiting, running, finished, count}
use Rattle.rules.specs.State.{Store, State, needs_in, store_of, OrdersHold}
use Rattle.format.specs.Command.{begin}
use Rattle.rules.specs.Grounds.{demand, peak_in, fits_in, own_ground}
use Rattle.books.specs.Booking.{Terms, Books, start, total}
use Rattle.rules.specs.Obey.{with_orders, completed, with_booked, with_books, books_of, terms_by, terms_of, ahead, begun, proceed, fresh}
use Rattle.rules.specs.Day.{Event, started, is_fetched}
use Rattle.books.specs.Invariant.{Roomy, arrived, Stocked, Good}
use Rattle.books.proofs.EachStore.{of-each, all-each}
use Rattle.numbers.proofs.Sums.{Task, sum-zero, count_none, only-false}
use Rattle.tree.proofs.Orders.{each-once}
use Rattle.tree.proofs.Ranks.{tree_of}
use Rattle.tree.proofs.Children.{children-zero}
use Rattle.tree.proofs.Trolley.{remains}
use Rattle.rules.proofs.Settling.{Settled, Coursed, coursed}
use Rattle.rules.proofs.Log.{Logged, InOrder, starts-unfetched}
use Rattle.rules.proofs.Completing.{begin-turn}
use Rattle.rules.proofs.Formed.{Formed, Accepted, demand-none, with-books-formed, completed-formed}

-- the plan as BEGIN found it in order and completed it, and the bound in force, at least its peak
pub record Planned (s : State) : Type 0 where
  pub formed : Formed s
  pub given : Phase.orders ≤ s.phase
  pub valid : Valid s.size (at s.parents) s.activation
  pub executed : length s.execution ≡ s.size
  pub rooted : roots s.size (at s.parents) ≡ 1
  pub staffed : 1 ≤ s.processors
  pub fits : (k : Kind) → peak_in s (store_of s k) ≤ (store_of s k).bound

-- the root has not ended
pub record Going (s : State) : Type 0 where
  pub phased : s.phase ≡ Phase.running
  pub settled :
      Settled s.size (at s.parents) (rank_in s.activation) (terms_of s) s.processors (books_of s)
  pub unended : (r : ℕ) → Task s.size r → at s.parents r ≡ 0 → at s.standings r ≡ finished → ⊥

-- what remains booked in a store once the root has ended
pub record Remaining (s : State) (store : Store) (fetched : Bool) : Type 0 where
  pub booked :
      (i : ℕ) → Task s.size i → at store.booked i ≡ remains (at s.parents) (at store.outs) fetched i
  pub within : total s.size (at store.booked) ≤ store.bound

-- all have ended
pub record Closed (s : State) (fetched : Bool) : Type 0 where
  pub phased : s.phase ≡ cond fetched Phase.over Phase.ready
  pub all : (i : ℕ) → Task s.size i → at s.standings i ≡ finished
  pub stock : (k : Kind) → Remaining s (store_of s k) fetched

-- how far a day has come
pub data Course (s : State) : Type 0 where
  goes : Going s → Course s
  closed : (fetched : Bool) → Closed s fetched → Course s

pub record InDay (s : State) (happened : List Event) : Type 0 where
  pub planned : Planned s
  pub course : Course s
  pub logged : Logged s.size (at s.standings) happened
  pub order : InOrder s.size (at s.parents) happened
  pub fetch : is_fetched happened ≡ eqb s.phase Phase.over

-- a plan whose tasks have all ended is past running
pub past-running : {s : State} (gone : Bool) → Closed s gone → Phase.running < s.phase
past-running true c = let p = c.phased in omega arith
past-running false c = let p = c.phased in omega arith

-- in the running phase the root has not ended
pub still-going : (s : State) → Course s → s.phase ≡ Phase.running → Going s
still-going s (goes g) runs = g
still-going s (closed gone c) runs = let late = past-running gone c in absurd (omega arith)

-- past it all have
pub all-ended :
    (s : State) → Course s → Phase.running < s.phase → (i : ℕ) → Task s.size i → at s.standings i ≡ finished
all-ended s (goes g) late = let p = g.phased in absurd (omega arith)
all-ended s (closed gone c) late = c.all

-- there are four standings, in each phase of a day
pub four-standings : (s : State) → Course s → (i : ℕ) → Task s.size i → at s.standings i ≤ finished
four-standings s (goes g) i t = g.settled.good.shape.four i t
four-standings s (closed gone c) i t = let e = c.all i t in omega arith

-- the needs in a store leave room for the children's outs and the own out
pub needs-roomy : (s : State) (store : Store) → Roomy s.size (at s.parents) (needs_in s store) (at store.outs)
unfolding need
needs-roomy s store i t = omega arith

-- a planned plan is a tree by the places of its activation order
pub tree : (s : State) → Planned s → Tree s.size (at s.parents) (rank_in s.activation)
tree s p = tree_of s.size (at s.parents) s.activation p.valid (λ i _. p.formed.given.parents.limited i)

-- the first day of the books: nobody has begun, and nothing is booked
fresh_at : (n i : ℕ) → Task n i → at (replicate (suc n) 0) i ≡ 0
fresh_at n i t = get_or-replicate (suc n) i 0 0 (omega arith)

-- a store of which nothing is booked
fresh-stocked :
    (n : ℕ) (par need out : ℕ → ℕ) (bound : ℕ)
    → Stocked n par need out bound (at (replicate (suc n) waiting)) (replicate (suc n) 0)
unfolding total arrived
fresh-stocked n par need out bound =
    record {
      sized = length-replicate (suc n) 0;
      books =
          record {
            waits =
                λ i t w.
                fresh_at n i t
                ∙ sym
                (children-zero n par (λ c. only (eqb (at (replicate (suc n) waiting) c) finished) (out c)) i
                (λ c u _.
                only-false (eqb (at (replicate (suc n) waiting) c) finished) (out c)
                (let z = fresh_at n c u in ne_eqb (at (replicate (suc n) waiting) c) finished (λ q. omega arith))));
            keeps = λ i t a. let z = fresh_at n i t in absurd (omega arith);
            covered = λ i t a. let z = fresh_at n i t in absurd (omega arith);
            capped = λ i t a. let z = fresh_at n i t in absurd (omega arith);
            empty = λ i t e. fresh_at n i t;
          };
      within =
          (let z : sum_to (at (replicate (suc n) 0)) n ≡ 0 = sum-zero (at (replicate (suc n) 0)) n (λ i t. fresh_at n i t) in omega arith);
    }

pub fresh-good :
    (n : ℕ) (par rank : ℕ → ℕ) (terms : Kind → Terms) → Good n par rank terms (fresh n)
unfolding fresh
fresh-good n par rank terms =
    record {
      sized = length-replicate (suc n) waiting;
      shape =
          record {
            behind = λ i j t u h w. fresh_at n j u;
            fed = λ i c t u e r. let z = fresh_at n i t in absurd (omega arith);
            four = λ i t. let z = fresh_at n i t in omega arith;
          };
      stock =
          λ k.
          rw (of-each {A = List ℕ} (λ _. replicate {A = ℕ} (suc n) 0) k)
          (fresh-stocked n par (terms k).need (terms k).out (terms k).bound);
    }

-- everybody waits, and nobody runs
pub fresh-waits : (n i : ℕ) → Task n i → at (fresh n).standings i ≡ waiting
unfolding fresh
fresh-waits = fresh_at

pub fresh-idle : (n : ℕ) → count n (at (fresh n).standings) running ≡ 0
unfolding fresh count
fresh-idle n =
    count_none (λ i. eqb (at (replicate (suc n) waiting) i) running) n
    (λ i t. let z = fresh_at n i t in ne_eqb (at (replicate (suc n) waiting) i) running (λ q. omega arith))

-- what BEGIN's checks give
pub begin-planned : (s : State) → Formed s → Accepted s begin → Planned (completed s)
unfolding own_ground completed with_orders peak_in fits_in
begin-planned s formed a =
    let turn = begin-turn s a.turn in
    let now = turn.now in
    let seven =
    demand-none (eqb (roots s.size (at s.parents)) 1) 7
    (demand (ordered (at s.parents) s.activation) 8 (demand (all (fits_in s)) 9 0))
    (λ q. omega arith) a.own
    in
    let eight =
    demand-none (ordered (at s.parents) s.activation) 8 (demand (all (fits_in s)) 9 0)
    (λ q. omega arith) seven.1
    in
    let nine = demand-none (all (fits_in s)) 9 0 (λ q. omega arith) eight.1 in
    record {
      formed = completed-formed s formed;
      given = omega arith;
      valid =
          record {
            inside = formed.activation-inside;
            once = formed.activation-once;
            whole = turn.activated;
            upward = eight.0;
          };
      executed = turn.executed;
      rooted = eqb-true (roots s.size (at s.parents)) 1 seven.0;
      staffed = formed.staffed (λ z. omega arith);
      fits = λ k. leb-true (peak_in s (store_of s k)) (store_of s k).bound (all-each (fits_in s) nine.0 k);
    }

-- both orders of such a plan are what they must be
pub orders-hold : (s : State) → Planned s → OrdersHold s
orders-hold s p =
    record {
      activation = each-once s.size s.activation p.valid.inside p.valid.once p.valid.whole;
      execution = each-once s.size s.execution p.formed.execution-inside p.formed.execution-once p.executed;
      upward = p.valid.upward;
    }

-- the plan itself stays as it was in its day
pub books-planned :
    (s : State) (phase : ℕ) (st : List ℕ) (b : Each (List ℕ)) → Phase.orders ≤ phase → Planned s → Planned (with_books s phase st b)
unfolding with_books peak_in
books-planned s phase st b later p =
    record {
      formed = with-books-formed s phase st b p.staffed p.given later p.formed;
      given = later;
      valid = p.valid;
      executed = p.executed;
      rooted = p.rooted;
      staffed = p.staffed;
      fits = λ k. rw (of-each (λ d. with_booked (store_of s d) (of b d)) k) (p.fits k);
    }

-- other books change nothing of what booking finds of the stores
pub terms-stay : (s : State) (phase : ℕ) (st : List ℕ) (b : Each (List ℕ)) → terms_of (with_books s phase st b) ≡ terms_of s
unfolding with_books
terms-stay s phase st b = fun_ext (λ k. ap (λ (e : Store). terms_by s e) (of-each (λ d. with_booked (store_of s d) (of b d)) k))

-- booking ahead and starting, from books in which what holds of the day is kept
module _ (s : State) (p : Planned s) (k : Books) (peaks : Each Peaked) (offers : ℕ)
    (good : Good s.size (at s.parents) (rank_in s.activation) (terms_of s) k)
    (few : count s.size (at k.standings) running ≤ s.processors) where
  proceeds :
      Coursed s.size (at s.parents) (rank_in s.activation) (terms_of (proceed s Phase.running k peaks offers).state)
      s.processors k (books_of (proceed s Phase.running k peaks offers).state) (proceed s Phase.running k peaks offers).started
  unfolding proceed with_books ahead begun
  proceeds =
      rw (terms-stay s Phase.running (start (begun s (ahead s k)) (ahead s k).standings) (ahead s k).booked)
      (coursed s.size (at s.parents) s.activation p.valid (tree s p) (terms_of s) (λ d. needs-roomy s (store_of s d))
      s.processors s.execution p.formed.execution-inside p.formed.execution-once p.executed k (ahead s k) good few refl
      (begun s (ahead s k)) refl)

  -- the root has not ended then
  pub proceed-in-day :
      (happened : List Event)
      → Logged s.size (at k.standings) happened
      → InOrder s.size (at s.parents) happened
      → is_fetched happened ≡ false
      → ((r : ℕ) → Task s.size r → at s.parents r ≡ 0 → at k.standings r ≡ finished → ⊥)
      → InDay (proceed s Phase.running k peaks offers).state (happened ++ map started (proceed s Phase.running k peaks offers).started)
  unfolding proceed with_books
  proceed-in-day happened logged order fetch unended =
      let log = proceeds.logged happened logged order in
      record {
        planned = books-planned s Phase.running _ _ (omega arith) p;
        course =
            goes
            (record {
              phased = refl;
              settled = proceeds.settled;
              unended =
                  λ r t z e. unended r t z (eqb-true _ finished (sym (proceeds.ends r t) ∙ eq-eqb _ finished e));
            });
        logged = log.0;
        order = log.1;
        fetch =
            starts-unfetched (begun s (ahead s k)) happened ∙ fetch;
      }
