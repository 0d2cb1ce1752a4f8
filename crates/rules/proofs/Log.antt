-- Laws of what happens in a day: starts, ends, the fetch and other bounds in order, and how they agree with the standings.
use mathlib.Core.Path.{◌≡◌, refl, sym, ap, ap₂, subst, ◌∙◌}
use mathlib.Core.Bool.{Bool, true, false, not, ◌&&◌, ◌||◌}
use mathlib.Core.Logic.{◌⊎◌, ⊎_elim}
use mathlib.Core.List.{List, [], ◌∷◌, ◌++◌, map, append-nil, append_assoc}
use Prim.Native.Nat.{ℕ, suc, ◌≤◌}
use native.Mathlib.Omega.{arith}
use lib.Dec.{eqb, leb}
use lib.ListN.{length, set, length-set}
use borrow.Author.Tests.{eq-eqb, ne_eqb, lt-leb}
use Rattle.numbers.specs.Lists.{at, mem, every, distinct}
use Rattle.numbers.specs.Sums.{within}
use Rattle.books.specs.Standing.{activated, running, finished, count}
use Rattle.books.specs.Booking.{start}
use Rattle.rules.specs.Day.{Event, started, ended, fetched, bounded, starts, ends, is_fetched, runs}
use Rattle.numbers.proofs.Tests.{same_or_not, or_right, or-none, eqb-above}
use Rattle.numbers.proofs.Sums.{Task, count-all}
use Rattle.numbers.proofs.Counts.{count-cong}
use Rattle.numbers.proofs.Places.{nowhere}
use Rattle.tree.proofs.Orders.{mem-append, mem-here, mem-later, mem-none, every-snoc, distinct_snoc, task-within, length-counts}
use Rattle.books.proofs.Entries.{at_set, at_other}
use Rattle.books.proofs.Starts.{Startable}

-- starts and ends of what happens one after the other
pub starts-append : (l m : List Event) → starts (l ++ m) ≡ starts l ++ starts m
unfolding starts
starts-append [] m = refl
starts-append (started i ∷ l) m = ap (λ (k : List ℕ). i ∷ k) (starts-append l m)
starts-append (ended i ∷ l) m = starts-append l m
starts-append (fetched ∷ l) m = starts-append l m
starts-append (bounded b ∷ l) m = starts-append l m

pub ends-append : (l m : List Event) → ends (l ++ m) ≡ ends l ++ ends m
unfolding ends
ends-append [] m = refl
ends-append (started i ∷ l) m = ends-append l m
ends-append (ended i ∷ l) m = ap (λ (k : List ℕ). i ∷ k) (ends-append l m)
ends-append (fetched ∷ l) m = ends-append l m
ends-append (bounded b ∷ l) m = ends-append l m

-- the fetch, in what happens one after the other
pub fetched-append : (l m : List Event) → is_fetched (l ++ m) ≡ (is_fetched l || is_fetched m)
unfolding is_fetched
fetched-append [] m = refl
fetched-append (started i ∷ l) m = fetched-append l m
fetched-append (ended i ∷ l) m = fetched-append l m
fetched-append (fetched ∷ l) m = refl
fetched-append (bounded b ∷ l) m = fetched-append l m

-- starts are no fetch
pub starts-unfetched : (l : List ℕ) (happened : List Event) → is_fetched (happened ++ map started l) ≡ is_fetched happened
unfolding is_fetched
starts-unfetched l happened =
    fetched-append happened (map started l) ∙ ap (λ (t : Bool). is_fetched happened || t) (none l) ∙ or-none (is_fetched happened)
  where
    none : (l : List ℕ) → is_fetched (map started l) ≡ false
    none [] = refl
    none (i ∷ l) = none l

-- a number for each kind of event, by which those of two kinds differ
unfoldable kind : Event → ℕ
kind (started i) = 0
kind (ended i) = 1
kind fetched = 2
kind (bounded m) = 3

differ : {x y : Event} → (kind x ≡ kind y → ⊥) → x ≡ y → ⊥
differ apart e = apart (ap kind e)

-- where an event of a longer list stands: in the list before, or it is the new one
pub data Where (old : List Event) (new : Event) (earlier : List Event) (x : Event) : Type 0 where
  last : earlier ≡ old → x ≡ new → Where old new earlier x
  before : (later : List Event) → old ≡ earlier ++ x ∷ later → Where old new earlier x

pub snoc-where :
    (old : List Event) (new : Event) (earlier : List Event) (x : Event) (later : List Event)
    → old ++ (new ∷ []) ≡ earlier ++ x ∷ later
    → Where old new earlier x
snoc-where [] new [] x later e = last refl cc
snoc-where [] new (y ∷ earlier) x later e = absurd (nowhere earlier x later cc)
snoc-where (o ∷ old) new [] x later e = before old (let h : o ≡ x = cc in ap (λ (v : Event). v ∷ old) h)
snoc-where (o ∷ old) new (y ∷ earlier) x later e =
    let head : o ≡ y = cc in
    let tail : old ++ (new ∷ []) ≡ earlier ++ x ∷ later = cc in
    go head (snoc-where old new earlier x later tail)
  where
    go : o ≡ y → Where old new earlier x → Where (o ∷ old) new (y ∷ earlier) x
    go h (last p q) = last (let r : y ∷ earlier ≡ o ∷ old = cc in r) q
    go h (before l p) = before l (let r : o ∷ old ≡ y ∷ (earlier ++ x ∷ l) = cc in r)

-- each start is the first of its task, and comes after the ends of all that feed it; who ends was running; and the fetch is the first,
-- after n ends
pub record InOrder (n : ℕ) (par : ℕ → ℕ) (happened : List Event) : Type 0 where
  pub once :
      (earlier later : List Event) (i : ℕ) → happened ≡ earlier ++ started i ∷ later → mem i (starts earlier) ≡ false
  pub fed :
      (earlier later : List Event) (i : ℕ)
      → happened ≡ earlier ++ started i ∷ later
      → (c : ℕ)
      → Task n c
      → par c ≡ i
      → mem c (ends earlier) ≡ true
  pub ran :
      (earlier later : List Event) (i : ℕ) → happened ≡ earlier ++ ended i ∷ later → runs earlier i ≡ true
  pub fetch :
      (earlier later : List Event)
      → happened ≡ earlier ++ fetched ∷ later
      → (is_fetched earlier ≡ false) × (length (ends earlier) ≡ n)

module _ (n : ℕ) (par : ℕ → ℕ) where
  pub nothing-in-order : InOrder n par []
  nothing-in-order =
      record {
        once = λ e l i q. absurd (nowhere e (started i) l q);
        fed = λ e l i q. absurd (nowhere e (started i) l q);
        ran = λ e l i q. absurd (nowhere e (ended i) l q);
        fetch = λ e l q. absurd (nowhere e fetched l q);
      }

  -- one event more: where it is a start, it is the first of its task and comes after those that feed it; where it is an end, its
  -- task was running; where it is a fetch, there was none, and all have ended
  one_more :
      (old : List Event) (new : Event)
      → InOrder n par old
      → ((i : ℕ) → started i ≡ new → mem i (starts old) ≡ false)
      → ((i : ℕ) → started i ≡ new → (c : ℕ) → Task n c → par c ≡ i → mem c (ends old) ≡ true)
      → ((i : ℕ) → ended i ≡ new → runs old i ≡ true)
      → (fetched ≡ new → (is_fetched old ≡ false) × (length (ends old) ≡ n))
      → InOrder n par (old ++ (new ∷ []))
  one_more old new h first fed ran fetch =
      record {
        once = λ e l i q. once-there e i (snoc-where old new e (started i) l q);
        fed = λ e l i q. fed-there e i (snoc-where old new e (started i) l q);
        ran = λ e l i q. ran-there e i (snoc-where old new e (ended i) l q);
        fetch = λ e l q. fetch-there e (snoc-where old new e fetched l q);
      }
    where
      once-there : (e : List Event) (i : ℕ) → Where old new e (started i) → mem i (starts e) ≡ false
      once-there e i (last p q) = ap (λ (v : List Event). mem i (starts v)) p ∙ first i q
      once-there e i (before l p) = h.once e l i p

      fed-there :
          (e : List Event) (i : ℕ)
          → Where old new e (started i)
          → (c : ℕ)
          → Task n c
          → par c ≡ i
          → mem c (ends e) ≡ true
      fed-there e i (last p q) c t r = ap (λ (v : List Event). mem c (ends v)) p ∙ fed i q c t r
      fed-there e i (before l p) c t r = h.fed e l i p c t r

      ran-there : (e : List Event) (i : ℕ) → Where old new e (ended i) → runs e i ≡ true
      ran-there e i (last p q) = ap (λ (v : List Event). runs v i) p ∙ ran i q
      ran-there e i (before l p) = h.ran e l i p

      fetch-there :
          (e : List Event) → Where old new e fetched → (is_fetched e ≡ false) × (length (ends e) ≡ n)
      fetch-there e (last p q) = rw p (fetch q)
      fetch-there e (before l p) = h.fetch e l p

  -- the end of a running task
  pub ended-in-order :
      (old : List Event) (j : ℕ) → InOrder n par old → runs old j ≡ true → InOrder n par (old ++ (ended j ∷ []))
  unfolding kind
  ended-in-order old j h running =
      one_more old (ended j) h (λ i q. absurd (differ (λ e. omega arith) q)) (λ i q. absurd (differ (λ e. omega arith) q))
      (λ i q. let same : i ≡ j = cc in rw same running) (λ q. absurd (differ (λ e. omega arith) q))

  -- the fetch, where all have ended
  pub fetched-in-order :
      (old : List Event)
      → InOrder n par old
      → is_fetched old ≡ false
      → length (ends old) ≡ n
      → InOrder n par (old ++ (fetched ∷ []))
  unfolding kind
  fetched-in-order old h none all =
      one_more old fetched h (λ i q. absurd (differ (λ e. omega arith) q)) (λ i q. absurd (differ (λ e. omega arith) q))
      (λ i q. absurd (differ (λ e. omega arith) q)) (λ _. (none, all))

  -- another bound
  pub bounded-in-order :
      (old : List Event) (bound : ℕ) → InOrder n par old → InOrder n par (old ++ (bounded bound ∷ []))
  unfolding kind
  bounded-in-order old bound h =
      one_more old (bounded bound) h (λ i q. absurd (differ (λ e. omega arith) q)) (λ i q. absurd (differ (λ e. omega arith) q))
      (λ i q. absurd (differ (λ e. omega arith) q)) (λ q. absurd (differ (λ e. omega arith) q))

  -- a start comes once, and after those that feed it
  started-in-order :
      (old : List Event) (x : ℕ)
      → InOrder n par old
      → mem x (starts old) ≡ false
      → ((c : ℕ) → Task n c → par c ≡ x → mem c (ends old) ≡ true)
      → InOrder n par (old ++ (started x ∷ []))
  unfolding kind
  started-in-order old x h new ready =
      one_more old (started x) h (λ i q. let same : i ≡ x = cc in rw same new)
      (λ i q c t r. let same : i ≡ x = cc in ready c t (r ∙ same)) (λ i q. absurd (differ (λ e. omega arith) q))
      (λ q. absurd (differ (λ e. omega arith) q))

-- what happened agrees with the standings
pub record Logged (n : ℕ) (st : ℕ → ℕ) (happened : List Event) : Type 0 where
  pub begun : (i : ℕ) → Task n i → mem i (starts happened) ≡ leb running (st i)
  pub done : (i : ℕ) → Task n i → mem i (ends happened) ≡ eqb (st i) finished
  -- starts and ends are of tasks, each end once
  pub begun-inside : every (λ i. within i n) (starts happened) ≡ true
  pub inside : every (λ i. within i n) (ends happened) ≡ true
  pub apart : distinct (ends happened) ≡ true

-- begun and not ended is running
between : (v : ℕ) → v ≤ finished → (leb running v && not (eqb v finished)) ≡ eqb v running
between v h =
    ⊎_elim (λ (e : v ≡ running). rw e)
    (λ d.
    ⊎_elim (λ (e : v ≡ finished). rw e)
    (λ c. rw (lt-leb running v (omega arith), ne_eqb v running d))
    (same_or_not v finished))
    (same_or_not v running)

-- so a task runs by what happened just where its standing says so
pub logged-runs :
    (n : ℕ) (st : ℕ → ℕ) (happened : List Event)
    → Logged n st happened
    → (i : ℕ)
    → Task n i
    → st i ≤ finished
    → runs happened i ≡ eqb (st i) running
unfolding runs
logged-runs n st happened h i t four =
    ap₂ (λ (a b : Bool). a && not b) (h.begun i t) (h.done i t) ∙ between (st i) four

-- the reports are those that have ended, and n where all have
pub reports :
    (n : ℕ) (st : ℕ → ℕ) (happened : List Event) → Logged n st happened → length (ends happened) ≡ count n st finished
unfolding count
reports n st happened h =
    length-counts n (ends happened) h.inside h.apart
    ∙ count-cong (λ i. mem i (ends happened)) (λ i. eqb (st i) finished) n h.done

pub all-reported :
    (n : ℕ) (st : ℕ → ℕ) (happened : List Event)
    → Logged n st happened
    → ((i : ℕ) → Task n i → st i ≡ finished)
    → length (ends happened) ≡ n
unfolding count
all-reported n st happened h all =
    reports n st happened h ∙ count-all (λ i. eqb (st i) finished) n (λ i t. eq-eqb (st i) finished (all i t))

-- at first nobody has begun
pub nothing-logged : (n : ℕ) (st : ℕ → ℕ) → ((i : ℕ) → Task n i → st i ≤ activated) → Logged n st []
unfolding mem starts ends every distinct
nothing-logged n st idle =
    record {
      begun = λ i t. let h = idle i t in sym (lt-leb running (st i) (omega arith));
      done = λ i t. let h = idle i t in sym (ne_eqb (st i) finished (λ q. omega arith));
      begun-inside = refl;
      inside = refl;
      apart = refl;
    }

-- an event that starts and ends nobody
silent-logged :
    (n : ℕ) (st : ℕ → ℕ) (happened : List Event) (new : Event)
    → starts (new ∷ []) ≡ []
    → ends (new ∷ []) ≡ []
    → Logged n st happened
    → Logged n st (happened ++ (new ∷ []))
silent-logged n st happened new no_start no_end h =
    let s-is : starts (happened ++ (new ∷ [])) ≡ starts happened =
    starts-append happened (new ∷ []) ∙ ap (λ (l : List ℕ). starts happened ++ l) no_start ∙ append-nil (starts happened)
    in
    let e-is : ends (happened ++ (new ∷ [])) ≡ ends happened =
    ends-append happened (new ∷ []) ∙ ap (λ (l : List ℕ). ends happened ++ l) no_end ∙ append-nil (ends happened)
    in
    record {
      begun = λ i t. ap (mem i) s-is ∙ h.begun i t;
      done = λ i t. ap (mem i) e-is ∙ h.done i t;
      begun-inside = ap (every (λ i. within i n)) s-is ∙ h.begun-inside;
      inside = ap (every (λ i. within i n)) e-is ∙ h.inside;
      apart = ap distinct e-is ∙ h.apart;
    }

-- the fetch, and another bound
pub fetched-logged :
    (n : ℕ) (st : ℕ → ℕ) (happened : List Event) → Logged n st happened → Logged n st (happened ++ (fetched ∷ []))
unfolding starts ends
fetched-logged n st happened h = silent-logged n st happened fetched refl refl h

pub bounded-logged :
    (n : ℕ) (st : ℕ → ℕ) (happened : List Event) (bound : ℕ)
    → Logged n st happened
    → Logged n st (happened ++ (bounded bound ∷ []))
unfolding starts ends
bounded-logged n st happened bound h = silent-logged n st happened (bounded bound) refl refl h

-- standings that differ only in who waits and who is booked
pub logged-same :
    (n : ℕ) (st st' : ℕ → ℕ) (happened : List Event)
    → ((i : ℕ) → Task n i → (st' i ≡ st i) ⊎ ((st i ≤ activated) × (st' i ≤ activated)))
    → Logged n st happened
    → Logged n st' happened
logged-same n st st' happened same h =
    record {
      begun =
          λ i t.
          h.begun i t
          ∙ ⊎_elim (λ e. ap (leb running) (sym e))
          (λ l. lt-leb running (st i) (omega (arith, l.0)) ∙ sym (lt-leb running (st' i) (omega (arith, l.1)))) (same i t);
      done = λ i t. h.done i t ∙ sym (eqb-above (st' i) (st i) activated finished (omega arith) (same i t));
      begun-inside = h.begun-inside;
      inside = h.inside;
      apart = h.apart;
    }

-- those of a list pass a test, which changes for x alone
module _ (n x : ℕ) (l : List ℕ) (test test' : ℕ → Bool) (listed : (i : ℕ) → Task n i → mem i l ≡ test i)
    (others : (i : ℕ) → (i ≡ x → ⊥) → test' i ≡ test i) where
  -- it does not change for x either
  list-kept : test' x ≡ test x → (i : ℕ) → Task n i → mem i l ≡ test' i
  list-kept same i t = listed i t ∙ sym (⊎_elim (λ q. rw q same) (others i) (same_or_not i x))

  -- x passes it now, and is put at the end
  list-more : test' x ≡ true → (i : ℕ) → Task n i → mem i (l ++ (x ∷ [])) ≡ test' i
  list-more now i t =
      mem-append i l (x ∷ [])
      ∙ ⊎_elim (λ q. or_right (mem i l) (mem i (x ∷ [])) (mem-here i x [] q) ∙ sym (ap test' q ∙ now))
      (λ d.
      ap (λ (v : Bool). mem i l || v) (mem-later i x [] d ∙ mem-none i)
      ∙ or-none (mem i l)
      ∙ listed i t
      ∙ sym (others i d))
      (same_or_not i x)

module _ (n : ℕ) (st : List ℕ) (sized : length st ≡ suc n) (happened : List Event) (x : ℕ) (task : Task n x)
    (logged : Logged n (at st) happened) where
  -- a running task ends
  pub ended-logged :
      at st x ≡ running → Logged n (at (set st x finished)) (happened ++ (ended x ∷ []))
  unfolding starts ends every
  ended-logged runs =
      let there = at_set n st x finished sized task in
      let s-is : starts (happened ++ (ended x ∷ [])) ≡ starts happened =
      starts-append happened (ended x ∷ []) ∙ append-nil (starts happened)
      in
      let e-is : ends (happened ++ (ended x ∷ [])) ≡ ends happened ++ (x ∷ []) = ends-append happened (ended x ∷ []) in
      let new : mem x (ends happened) ≡ false = logged.done x task ∙ ne_eqb (at st x) finished (λ q. omega arith) in
      record {
        begun =
            λ i t.
            ap (mem i) s-is
            ∙ list-kept n x (starts happened) (λ k. leb running (at st k)) (λ k. leb running (at (set st x finished) k))
            logged.begun (λ k d. ap (leb running) (at_other st x finished k d)) (rw (there, runs)) i t;
        done =
            λ i t.
            ap (mem i) e-is
            ∙ list-more n x (ends happened) (λ k. eqb (at st k) finished) (λ k. eqb (at (set st x finished) k) finished)
            logged.done (λ k d. ap (λ (v : ℕ). eqb v finished) (at_other st x finished k d)) (rw there) i t;
        begun-inside = ap (every (λ i. within i n)) s-is ∙ logged.begun-inside;
        inside = ap (every (λ i. within i n)) e-is ∙ every-snoc (λ i. within i n) (ends happened) x logged.inside (task-within n x task);
        apart = ap distinct e-is ∙ distinct_snoc (ends happened) x logged.apart new;
      }

  -- a booked task starts
  started-logged :
      at st x ≡ activated → Logged n (at (set st x running)) (happened ++ (started x ∷ []))
  unfolding starts ends
  started-logged booked =
      let there = at_set n st x running sized task in
      let s-is : starts (happened ++ (started x ∷ [])) ≡ starts happened ++ (x ∷ []) =
      starts-append happened (started x ∷ [])
      in
      let e-is : ends (happened ++ (started x ∷ [])) ≡ ends happened =
      ends-append happened (started x ∷ []) ∙ append-nil (ends happened)
      in
      record {
        begun =
            λ i t.
            ap (mem i) s-is
            ∙ list-more n x (starts happened) (λ k. leb running (at st k)) (λ k. leb running (at (set st x running) k))
            logged.begun (λ k d. ap (leb running) (at_other st x running k d)) (rw there) i t;
        done =
            λ i t.
            ap (mem i) e-is
            ∙ list-kept n x (ends happened) (λ k. eqb (at st k) finished) (λ k. eqb (at (set st x running) k) finished)
            logged.done (λ k d. ap (λ (v : ℕ). eqb v finished) (at_other st x running k d)) (rw (there, booked)) i t;
        begun-inside = ap (every (λ i. within i n)) s-is ∙ every-snoc (λ i. within i n) (starts happened) x logged.begun-inside (task-within n x task);
        inside = ap (every (λ i. within i n)) e-is ∙ logged.inside;
        apart = ap distinct e-is ∙ logged.apart;
      }

-- tasks that start one after the other
pub starts-logged :
    (n : ℕ) (par : ℕ → ℕ) (l st : List ℕ) (happened : List Event)
    → length st ≡ suc n
    → Startable n par st l
    → Logged n (at st) happened
    → InOrder n par happened
    → Logged n (at (start l st)) (happened ++ map started l) × InOrder n par (happened ++ map started l)
unfolding Startable start
starts-logged n par [] st happened sized s logged order = (
  subst (λ (v : List Event). Logged n (at st) v) (sym (append-nil happened)) logged,
  subst (λ (v : List Event). InOrder n par v) (sym (append-nil happened)) order,
)
starts-logged n par (x ∷ l) st happened sized s logged order =
    let whole : (happened ++ (started x ∷ [])) ++ map started l ≡ happened ++ (started x ∷ map started l) =
    append_assoc happened (started x ∷ []) (map started l)
    in
    let later =
    starts-logged n par l (set st x running) (happened ++ (started x ∷ [])) (length-set st x running ∙ sized) s.3
    (started-logged n st sized happened x s.0 logged s.1)
    (started-in-order n par happened x order
    (logged.begun x s.0 ∙ lt-leb running (at st x) (let b = s.1 in omega arith))
    (λ c t e. logged.done c t ∙ eq-eqb (at st c) finished (s.2 c t e)))
    in (
      subst (λ (v : List Event). Logged n (at (start l (set st x running))) v) whole later.0,
      subst (λ (v : List Event). InOrder n par v) whole later.1,
    )
