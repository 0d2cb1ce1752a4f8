-- Laws of lists of tasks as orders: who stands in a list and where, and lists that hold every task once.
use mathlib.Core.Path.{◌≡◌, refl, sym, ap, ◌∙◌}
use mathlib.Core.Bool.{Bool, true, false, not, ◌&&◌, ◌||◌, and_assoc, or_assoc, or_comm, or-true}
use mathlib.Core.List.{List, [], ◌∷◌, ◌++◌}
use mathlib.Core.Logic.{◌⊎◌, ⊎_elim}
use Prim.Native.Nat.{ℕ, zero, suc, ◌+◌, ◌-◌, ◌≤◌, ◌<◌}
use native.Mathlib.Omega.{arith}
use lib.Dec.{eqb, leb}
use lib.ListN.{length, get_or}
use lib.Seq.{get_or-append-add}
use borrow.Author.Tests.{eq-eqb, ne_eqb, leb-true, le-leb, not-true}
use Rattle.numbers.specs.Sums.{only, sum_to, count_to, within}
use Rattle.numbers.specs.Lists.{mem, every, distinct, place}
use Rattle.tree.specs.Tree.{EachOnce, ordered}
use Rattle.numbers.proofs.Tests.{clash, fails, same_or_not, or_cases, or_left, or_right, or-false, and-true, and_both}
use Rattle.numbers.proofs.Sums.{Task, sum-cong, sum-zero, sum-change, only-true, only-false, count-le, count-all}
use Rattle.numbers.proofs.Counts.{count-full}

-- a task in the limits, as a test and as a fact
pub within-task : (n i : ℕ) → within i n ≡ true → Task n i
within-task n i e =
    let both = and-true (leb 1 i) (leb i n) e in
    record { low = leb-true 1 i both.0; high = leb-true i n both.1 }

pub task-within : (n i : ℕ) → Task n i → within i n ≡ true
task-within n i t = rw (le-leb 1 i t.low, le-leb i n t.high)

-- who stands in a list: nobody in none, the first entry, and whoever stands later
pub mem-none : (i : ℕ) → mem i [] ≡ false
unfolding mem
mem-none i = refl

pub mem-here : (i x : ℕ) (l : List ℕ) → i ≡ x → mem i (x ∷ l) ≡ true
unfolding mem
mem-here i x l q = rw (eq-eqb i x q)

pub mem-later : (i x : ℕ) (l : List ℕ) → (i ≡ x → ⊥) → mem i (x ∷ l) ≡ mem i l
unfolding mem
mem-later i x l d = rw (ne_eqb i x d)

-- nobody stands in an empty list
pub nobody : (i : ℕ) → mem i [] ≡ true → ⊥
nobody i e = clash e (mem-none i)

-- whoever stands in a list and is not its first entry stands later
pub mem-rest : (i x : ℕ) (l : List ℕ) → mem i (x ∷ l) ≡ true → (i ≡ x → ⊥) → mem i l ≡ true
mem-rest i x l e d = sym (mem-later i x l d) ∙ e

-- whoever stands in a list of one is that one
pub mem-one : (i x : ℕ) → mem i (x ∷ []) ≡ true → i ≡ x
mem-one i x e = ⊎_elim (λ q. q) (λ d. absurd (nobody i (mem-rest i x [] e d))) (same_or_not i x)

-- whoever stands in a list stands in a longer one
pub mem-more : (i x : ℕ) (l : List ℕ) → mem i l ≡ true → mem i (x ∷ l) ≡ true
unfolding mem
mem-more i x l e = rw (e, or-true)

-- whoever stands in no place of a list is not its first entry, and stands nowhere later
pub mem-out : (i x : ℕ) (l : List ℕ) → mem i (x ∷ l) ≡ false → (i ≡ x → ⊥) × (mem i l ≡ false)
mem-out i x l e =
    let d : i ≡ x → ⊥ = λ q. clash (mem-here i x l q) e in
    (d, sym (mem-later i x l d) ∙ e)

-- each entry stands in its list
pub mem-at : (l : List ℕ) (k : ℕ) → k < length l → mem (get_or l k 0) l ≡ true
mem-at [] k h = absurd (omega arith)
mem-at (x ∷ l) zero h = mem-here x x l refl
mem-at (x ∷ l) (suc k) h = mem-more (get_or l k 0) x l (mem-at l k (omega arith))

-- one list after another
pub mem-append : (i : ℕ) (l m : List ℕ) → mem i (l ++ m) ≡ (mem i l || mem i m)
unfolding mem
mem-append i [] m = refl
mem-append i (x ∷ l) m = rw (mem-append i l m) (sym (or_assoc (eqb i x) (mem i l) (mem i m)))

pub mem-both : (i : ℕ) (l m : List ℕ) → mem i (l ++ m) ≡ true → (mem i l ≡ true) ⊎ (mem i m ≡ true)
mem-both i l m e = or_cases (mem i l) (mem i m) (sym (mem-append i l m) ∙ e)

pub mem-left : (i : ℕ) (l m : List ℕ) → mem i l ≡ true → mem i (l ++ m) ≡ true
mem-left i l m e = mem-append i l m ∙ or_left (mem i l) (mem i m) e

pub mem-right : (i : ℕ) (l m : List ℕ) → mem i m ≡ true → mem i (l ++ m) ≡ true
mem-right i l m e = mem-append i l m ∙ or_right (mem i l) (mem i m) e

-- the entries of the second list
pub getD-second : (l m : List ℕ) (k : ℕ) → length l ≤ k → get_or (l ++ m) k 0 ≡ get_or m (k - length l) 0
getD-second l m k h =
    let far : k ≡ length l + (k - length l) = omega arith in
    ap (λ (z : ℕ). get_or (l ++ m) z 0) far ∙ get_or-append-add l m (k - length l) 0

-- whether x stands among others or before them
pub mem-among : (i x : ℕ) (l m : List ℕ) → mem i (l ++ x ∷ m) ≡ mem i (x ∷ l ++ m)
unfolding mem
mem-among i x [] m = refl
mem-among i x (y ∷ l) m =
    ap (λ t. eqb i y || t) (mem-among i x l m)
    ∙ sym (or_assoc (eqb i y) (eqb i x) (mem i (l ++ m)))
    ∙ ap (λ t. t || mem i (l ++ m)) (or_comm (eqb i y) (eqb i x))
    ∙ or_assoc (eqb i x) (eqb i y) (mem i (l ++ m))

-- who stands in a list is not who does not
pub mem-other : (x y : ℕ) (l : List ℕ) → mem x l ≡ true → mem y l ≡ false → x ≡ y → ⊥
mem-other x y l e d q = clash e (ap (λ i. mem i l) q ∙ d)

-- a list taken apart where x first stands
pub record Split (x : ℕ) (l : List ℕ) : Type 0 where
  pub pre : List ℕ
  pub post : List ℕ
  pub whole : l ≡ pre ++ x ∷ post
  pub new : mem x pre ≡ false

pub mem-split : (x : ℕ) (l : List ℕ) → mem x l ≡ true → Split x l
mem-split x [] e = absurd (nobody x e)
mem-split x (y ∷ l) e =
    ⊎_elim (λ q. record { pre = []; post = l; whole = rw q; new = mem-none x })
    (λ d.
    let s = mem-split x l (mem-rest x y l e d) in
    record {
      pre = y ∷ s.pre;
      post = s.post;
      whole = ap (λ t. y ∷ t) s.whole;
      new = mem-later x y s.pre d ∙ s.new;
    })
    (same_or_not x y)

-- where each entry passes, so does any one of them
pub every-mem : (test : ℕ → Bool) (l : List ℕ) (x : ℕ) → every test l ≡ true → mem x l ≡ true → test x ≡ true
unfolding every
every-mem test [] x h e = absurd (nobody x e)
every-mem test (y ∷ l) x h e =
    let both = and-true (test y) (every test l) h in
    ⊎_elim (λ q. ap test q ∙ both.0) (λ d. every-mem test l x both.1 (mem-rest x y l e d)) (same_or_not x y)

-- and where any one of them passes, each does
pub every-all : (test : ℕ → Bool) (l : List ℕ) → ((x : ℕ) → mem x l ≡ true → test x ≡ true) → every test l ≡ true
unfolding every
every-all test [] h = refl
every-all test (x ∷ l) h =
    and_both (test x) (every test l) (h x (mem-here x x l refl)) (every-all test l (λ y e. h y (mem-more y x l e)))

-- so each entry is in the limits where each is a task
pub every-within : (n : ℕ) (l : List ℕ) → ((x : ℕ) → mem x l ≡ true → Task n x) → every (λ i. within i n) l ≡ true
every-within n l tasks = every-all (λ i. within i n) l (λ x e. task-within n x (tasks x e))

pub every_append :
    (test : ℕ → Bool) (l m : List ℕ) → every test (l ++ m) ≡ (every test l && every test m)
unfolding every
every_append test [] m = refl
every_append test (x ∷ l) m =
    rw (every_append test l m) (sym (and_assoc (test x) (every test l) (every test m)))

-- one entry more, which passes
pub every-snoc :
    (test : ℕ → Bool) (l : List ℕ) (x : ℕ) → every test l ≡ true → test x ≡ true → every test (l ++ x ∷ []) ≡ true
unfolding every
every-snoc test l x h e =
    every_append test l (x ∷ []) ∙ and_both (every test l) (test x && true) h (and_both (test x) true e refl)

-- of a list with no entry twice: the first entry stands nowhere else
pub record Fresh (x : ℕ) (l : List ℕ) : Type 0 where
  pub new : mem x l ≡ false
  pub later : distinct l ≡ true

pub distinct_cons : (x : ℕ) (l : List ℕ) → distinct (x ∷ l) ≡ true → Fresh x l
unfolding distinct
distinct_cons x l e =
    let both = and-true (not (mem x l)) (distinct l) e in
    record { new = not-true (mem x l) both.0; later = both.1 }

-- and with one that stands nowhere there is still none twice
pub distinct_more : (x : ℕ) (l : List ℕ) → mem x l ≡ false → distinct l ≡ true → distinct (x ∷ l) ≡ true
unfolding distinct
distinct_more x l new once = rw new once

-- two lists, one after the other, with no entry twice
pub record Apart (l m : List ℕ) : Type 0 where
  pub first : distinct l ≡ true
  pub second : distinct m ≡ true
  pub apart : (i : ℕ) → mem i l ≡ true → mem i m ≡ false

pub distinct_append : (l m : List ℕ) → distinct (l ++ m) ≡ true → Apart l m
unfolding distinct
distinct_append [] m e =
    record { first = refl; second = e; apart = λ i h. absurd (nobody i h) }
distinct_append (x ∷ l) m e =
    let f = distinct_cons x (l ++ m) e in
    let a = distinct_append l m f.later in
    let h = or-false (mem x l) (mem x m) (sym (mem-append x l m) ∙ f.new) in
    record {
      first = rw h.0 a.first;
      second = a.second;
      apart =
          λ i k.
          ⊎_elim (λ q. ap (λ t. mem t m) q ∙ h.1) (λ d. a.apart i (mem-rest i x l k d)) (same_or_not i x);
    }

-- two lists that share nobody have none twice
pub distinct-join :
    (l m : List ℕ)
    → distinct l ≡ true
    → distinct m ≡ true
    → ((i : ℕ) → mem i l ≡ true → mem i m ≡ false)
    → distinct (l ++ m) ≡ true
distinct-join [] m once other apart = other
distinct-join (x ∷ l) m once other apart =
    let fresh = distinct_cons x l once in
    distinct_more x (l ++ m) (mem-append x l m ∙ rw (fresh.new, apart x (mem-here x x l refl)))
    (distinct-join l m fresh.later other (λ i e. apart i (mem-more i x l e)))

-- whether x stands among others or before them, none stands twice
pub distinct-among :
    (x : ℕ) (pre post : List ℕ) → distinct (pre ++ x ∷ post) ≡ true → distinct (x ∷ pre ++ post) ≡ true
distinct-among x [] post once = once
distinct-among x (y ∷ pre) post once =
    let fresh = distinct_cons y (pre ++ x ∷ post) once in
    let rest = distinct_cons x (pre ++ post) (distinct-among x pre post fresh.later) in
    let out = mem-out y x (pre ++ post) (sym (mem-among y x pre post) ∙ fresh.new) in
    distinct_more x (y ∷ pre ++ post) (mem-later x y (pre ++ post) (λ q. out.0 (sym q)) ∙ rest.new)
    (distinct_more y (pre ++ post) out.1 rest.later)

-- one entry more, which is new
pub distinct_snoc : (l : List ℕ) (x : ℕ) → distinct l ≡ true → mem x l ≡ false → distinct (l ++ x ∷ []) ≡ true
unfolding distinct
distinct_snoc l x once new =
    distinct-join l (x ∷ []) once (distinct_more x [] (mem-none x) refl)
    (λ i e. mem-later i x [] (mem-other i x l e new) ∙ mem-none i)

-- such a list taken apart at x: x does not stand in front
pub new-behind : (pre : List ℕ) (x : ℕ) (post : List ℕ) → distinct (pre ++ x ∷ post) ≡ true → mem x pre ≡ false
new-behind pre x post e =
    fails (mem x pre) (λ h. clash (mem-here x x post refl) ((distinct_append pre (x ∷ post) e).apart x h))

pub place_here : (x y : ℕ) (l : List ℕ) → x ≡ y → place x (y ∷ l) ≡ 0
unfolding place
place_here x y l q = rw (eq-eqb x y q)

pub place-later : (x y : ℕ) (l : List ℕ) → (x ≡ y → ⊥) → place x (y ∷ l) ≡ suc (place x l)
unfolding place
place-later x y l d = rw (ne_eqb x y d)

-- whoever stands in a list has a place in it
pub place-lt : (x : ℕ) (l : List ℕ) → mem x l ≡ true → place x l < length l
place-lt x [] e = absurd (nobody x e)
place-lt x (y ∷ l) e =
    ⊎_elim (λ q. omega (arith, place_here x y l q))
    (λ d.
    let rest : place x l < length l = place-lt x l (mem-rest x y l e d) in
    omega (arith, place-later x y l d))
    (same_or_not x y)

-- and nobody else has it
pub place_at : (x : ℕ) (l : List ℕ) → mem x l ≡ true → get_or l (place x l) 0 ≡ x
place_at x [] e = absurd (nobody x e)
place_at x (y ∷ l) e =
    ⊎_elim (λ q. rw (place_here x y l q) (sym q))
    (λ d. rw (place-later x y l d) (place_at x l (mem-rest x y l e d))) (same_or_not x y)

-- the place of the entry at k, where no entry stands twice
pub place_of : (l : List ℕ) (k : ℕ) → distinct l ≡ true → k < length l → place (get_or l k 0) l ≡ k
place_of [] k once h = absurd (omega arith)
place_of (y ∷ l) zero once h = place_here y y l refl
place_of (y ∷ l) (suc k) once h =
    let fresh = distinct_cons y l once in
    let other : get_or l k 0 ≡ y → ⊥ = mem-other (get_or l k 0) y l (mem-at l k (omega arith)) fresh.new in
    place-later (get_or l k 0) y l other ∙ ap suc (place_of l k fresh.later (omega arith))

pub place-injective :
    (x y : ℕ) (l : List ℕ) → mem x l ≡ true → mem y l ≡ true → place x l ≡ place y l → x ≡ y
place-injective x y l e f q = sym (place_at x l e) ∙ ap (λ k. get_or l k 0) q ∙ place_at y l f

-- the place in one list after another
pub place-first : (x : ℕ) (l m : List ℕ) → mem x l ≡ true → place x (l ++ m) ≡ place x l
place-first x [] m e = absurd (nobody x e)
place-first x (y ∷ l) m e =
    ⊎_elim (λ q. rw (place_here x y (l ++ m) q, place_here x y l q))
    (λ d.
    rw (place-later x y (l ++ m) d, place-later x y l d)
    (ap suc (place-first x l m (mem-rest x y l e d))))
    (same_or_not x y)

pub place-second : (x : ℕ) (l m : List ℕ) → mem x l ≡ false → place x (l ++ m) ≡ length l + place x m
place-second x [] m e = omega arith
place-second x (y ∷ l) m e =
    let out = mem-out x y l e in
    let rest : place x (l ++ m) ≡ length l + place x m = place-second x l m out.1 in
    omega (arith, place-later x y (l ++ m) out.0)

-- whoever stands in the first of two lists stands ahead of whoever stands in the second
pub place-ahead :
    (l m : List ℕ) (x y : ℕ) → distinct (l ++ m) ≡ true → mem x l ≡ true → mem y m ≡ true → place x (l ++ m) < place y (l ++ m)
place-ahead l m x y once e f =
    let out = fails (mem y l) (λ h. clash f ((distinct_append l m once).apart y h)) in
    omega (arith, place-first x l m e, place-lt x l e, place-second y l m out)

-- the place where a list is taken apart
pub place-split :
    (x : ℕ) (pre post : List ℕ) → mem x pre ≡ false → place x (pre ++ x ∷ post) ≡ length pre
place-split x pre post e = omega (arith, place-second x pre (x ∷ post) e, place_here x x post refl)

-- f over the entries of a list
unfoldable pub sum_over : (ℕ → ℕ) → List ℕ → ℕ
sum_over f [] = 0
sum_over f (x ∷ l) = f x + sum_over f l

-- a sum along a list with no entry twice is the sum over the tasks in it
pub sum-members :
    (f : ℕ → ℕ) (n : ℕ) (l : List ℕ)
    → every (λ i. within i n) l ≡ true
    → distinct l ≡ true
    → sum_over f l ≡ sum_to (λ i. only (mem i l) (f i)) n
unfolding sum_over every
sum-members f n [] inside once =
    sym (sum-zero (λ i. only (mem i []) (f i)) n (λ i t. only-false (mem i []) (f i) (mem-none i)))
sum-members f n (x ∷ l) inside once =
    let both = and-true (within x n) (every (λ i. within i n) l) inside in
    let fresh = distinct_cons x l once in
    let rest : sum_over f l ≡ sum_to (λ i. only (mem i l) (f i)) n = sum-members f n l both.1 fresh.later in
    let here : only (mem x (x ∷ l)) (f x) ≡ only (mem x l) (f x) + f x
    = omega (arith, only-true (mem x (x ∷ l)) (f x) (mem-here x x l refl), only-false (mem x l) (f x) fresh.new) in
    let all : sum_to (λ i. only (mem i (x ∷ l)) (f i)) n ≡ sum_to (λ i. only (mem i l) (f i)) n + f x
    = sum-change (λ i. only (mem i l) (f i)) (λ i. only (mem i (x ∷ l)) (f i)) n x (f x) (within-task n x both.0) here
    (λ i t d. ap (λ b. only b (f i)) (mem-later i x l d)) in
    omega arith

-- a sum of ones counts
sum-length : (l : List ℕ) → sum_over (λ _. 1) l ≡ length l
unfolding sum_over
sum-length [] = refl
sum-length (x ∷ l) = omega (arith, sum-length l)

-- entries in the limits with none twice are as many as the tasks that stand there
pub length-counts :
    (n : ℕ) (l : List ℕ) → every (λ i. within i n) l ≡ true → distinct l ≡ true → length l ≡ count_to (λ i. mem i l) n
unfolding count_to
length-counts n l inside once = sym (sum-length l) ∙ sum-members (λ _. 1) n l inside once

-- so they are n at most, and n where each task stands there
pub length-within : (n : ℕ) (l : List ℕ) → every (λ i. within i n) l ≡ true → distinct l ≡ true → length l ≤ n
length-within n l inside once = omega (arith, length-counts n l inside once, count-le (λ i. mem i l) n)

pub length-all :
    (n : ℕ) (l : List ℕ)
    → every (λ i. within i n) l ≡ true
    → distinct l ≡ true
    → ((i : ℕ) → Task n i → mem i l ≡ true)
    → length l ≡ n
length-all n l inside once each = length-counts n l inside once ∙ count-all (λ i. mem i l) n each

-- the pigeonhole: n entries in the limits with none twice are all the tasks
pub all_in :
    (n : ℕ) (l : List ℕ)
    → every (λ i. within i n) l ≡ true
    → distinct l ≡ true
    → length l ≡ n
    → (i : ℕ)
    → Task n i
    → mem i l ≡ true
all_in n l inside once whole = count-full (λ i. mem i l) n (sym (length-counts n l inside once) ∙ whole)

-- so such a list holds each task once
pub each-once :
    (n : ℕ) (l : List ℕ)
    → every (λ i. within i n) l ≡ true
    → distinct l ≡ true
    → length l ≡ n
    → EachOnce n l
each-once n l inside once whole =
    record {
      tasks = λ i m. within-task n i (every-mem (λ k. within k n) l i inside m);
      each = all_in n l inside once whole;
      once = once;
    }

-- a sum along such a list is the sum over the tasks
pub sum-along :
    (f : ℕ → ℕ) (n : ℕ) (l : List ℕ)
    → every (λ i. within i n) l ≡ true
    → distinct l ≡ true
    → length l ≡ n
    → sum_over f l ≡ sum_to f n
sum-along f n l inside once whole =
    sum-members f n l inside once
    ∙ sum-cong (λ i. only (mem i l) (f i)) f n (λ i t. only-true (mem i l) (f i) (all_in n l inside once whole i t))

-- x stands before its parent
pub record Rises (par : ℕ → ℕ) (x : ℕ) (l : List ℕ) : Type 0 where
  pub member : mem (par x) l ≡ true
  pub rises : place x l < place (par x) l

-- so it does in a longer list
pub rises-first : (par : ℕ → ℕ) (x : ℕ) (l m : List ℕ) → mem x l ≡ true → Rises par x l → Rises par x (l ++ m)
rises-first par x l m e r =
    record {
      member = mem-left (par x) l m r.member;
      rises = omega (arith, r.rises, place-first x l m e, place-first (par x) l m r.member);
    }

pub rises-second :
    (par : ℕ → ℕ) (x : ℕ) (l m : List ℕ)
    → mem x l ≡ false
    → mem (par x) l ≡ false
    → Rises par x m
    → Rises par x (l ++ m)
rises-second par x l m e f r =
    record {
      member = mem-right (par x) l m r.member;
      rises = omega (arith, r.rises, place-second x l m e, place-second (par x) l m f);
    }

-- in an order in which each task stands before its parent, places rise towards the root
pub ordered-rises :
    (par : ℕ → ℕ) (l : List ℕ) (x : ℕ)
    → ordered par l ≡ true
    → distinct l ≡ true
    → mem x l ≡ true
    → (par x ≡ 0 → ⊥)
    → Rises par x l
unfolding ordered
ordered-rises par [] x order once e child = absurd (nobody x e)
ordered-rises par (y ∷ l) x order once e child =
    let both = and-true (eqb (par y) 0 || mem (par y) l) (ordered par l) order in
    let fresh = distinct_cons y l once in
    ⊎_elim
    (λ q.
    let parent : mem (par x) l ≡ true
    = sym (ap (λ t. t || mem (par x) l) (ne_eqb (par x) 0 child))
    ∙ ap (λ t. eqb (par t) 0 || mem (par t) l) q
    ∙ both.0 in
    let other : par x ≡ y → ⊥ = mem-other (par x) y l parent fresh.new in
    record {
      member = mem-later (par x) y l other ∙ parent;
      rises = omega (arith, place_here x y l q, place-later (par x) y l other);
    })
    (λ d.
    let r = ordered-rises par l x both.1 fresh.later (mem-rest x y l e d) child in
    let other : par x ≡ y → ⊥ = mem-other (par x) y l r.member fresh.new in
    record {
      member = mem-later (par x) y l other ∙ r.member;
      rises = omega (arith, r.rises, place-later x y l d, place-later (par x) y l other);
    })
    (same_or_not x y)

-- and an order in which places so rise has each task before its parent
pub rises-ordered :
    (par : ℕ → ℕ) (l : List ℕ)
    → distinct l ≡ true
    → ((x : ℕ) → mem x l ≡ true → (par x ≡ 0 → ⊥) → Rises par x l)
    → ordered par l ≡ true
unfolding ordered
rises-ordered par [] once up = refl
rises-ordered par (y ∷ l) once up =
    let fresh = distinct_cons y l once in
    let rest : ordered par l ≡ true
    = rises-ordered par l fresh.later
    (λ x e child.
    let r = up x (mem-more x y l e) child in
    let d : x ≡ y → ⊥ = mem-other x y l e fresh.new in
    let other : par x ≡ y → ⊥ = λ q. omega (arith, r.rises, place_here (par x) y l q) in
    record {
      member = mem-rest (par x) y l r.member other;
      rises = omega (arith, r.rises, place-later x y l d, place-later (par x) y l other);
    }) in
    ⊎_elim (λ z. rw (eq-eqb (par y) 0 z, rest))
    (λ child.
    let r = up y (mem-here y y l refl) child in
    let other : par y ≡ y → ⊥ = λ q. omega (arith, r.rises, place_here (par y) y l q) in
    rw (mem-rest (par y) y l r.member other, or-true (eqb (par y) 0), rest))
    (same_or_not (par y) 0)
