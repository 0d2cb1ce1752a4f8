-- What holds at each turn where the tasks of an activation order run one at a time.
use mathlib.Core.Path.{◌≡◌, refl, sym, ◌∙◌}
use mathlib.Core.Bool.{true, false, ◌||◌}
use mathlib.Core.List.{List, [], ◌∷◌, ◌++◌}
use mathlib.Core.Logic.{⊎_elim}
use Prim.Native.Nat.{ℕ, ◌<◌}
use native.Mathlib.Omega.{arith}
use lib.Dec.{eqb}
use Rattle.numbers.specs.Lists.{mem, distinct, place}
use Rattle.tree.specs.Tree.{ordered, Valid}
use Rattle.numbers.specs.Sums.{within}
use Rattle.numbers.proofs.Tests.{decide, clash, fails, same_or_not, and-true}
use Rattle.numbers.proofs.Sums.{Task}
use Rattle.tree.proofs.Orders.{within-task, mem-here, mem-later, mem-rest, mem-more, mem-out, mem-append, mem-right, mem-other, every-mem, distinct_cons, distinct_append, all_in, place_here, place-later, Rises, ordered-rises}

-- the tasks of `ended` have run, and those of `later` are left in their order: each has its children among `ended` or ahead of it
pub record Left (n : ℕ) (par : ℕ → ℕ) (ended later : List ℕ) : Type 0 where
  pub tasks : (i : ℕ) → mem i later ≡ true → Task n i
  pub once : distinct later ≡ true
  pub apart : (i : ℕ) → mem i later ≡ true → mem i ended ≡ false
  pub fed : (c : ℕ) → Task n c → mem (par c) later ≡ true → mem c ended ≡ false → place c later < place (par c) later
  pub closed : (c : ℕ) → Task n c → (par c ≡ 0 → ⊥) → mem (par c) ended ≡ true → mem c ended ≡ true

-- it is the turn of x: it has not run, its children have, and its parent neither has run nor is x
pub record Turn (n : ℕ) (par : ℕ → ℕ) (ended : List ℕ) (x : ℕ) : Type 0 where
  pub task : Task n x
  pub new : mem x ended ≡ false
  pub fed : (c : ℕ) → Task n c → par c ≡ x → mem c ended ≡ true
  pub upward : (par x ≡ 0 → ⊥) → mem (par x) (x ∷ ended) ≡ false

-- the later part of an order is in order
pub ordered-append : (par : ℕ → ℕ) (l m : List ℕ) → ordered par (l ++ m) ≡ true → ordered par m ≡ true
unfolding ordered
ordered-append par [] m e = e
ordered-append par (x ∷ l) m e =
    ordered-append par l m (and-true (eqb (par x) 0 || mem (par x) (l ++ m)) (ordered par (l ++ m)) e).1

-- a valid order, taken apart anywhere
pub left_split : (n : ℕ) (par : ℕ → ℕ) (pre later : List ℕ) → Valid n par (pre ++ later) → Left n par pre later
left_split n par pre later v =
    let two = distinct_append pre later v.once in
    let tasks : (i : ℕ) → mem i later ≡ true → Task n i
    = λ i e. within-task n i (every-mem (λ k. within k n) (pre ++ later) i v.inside (mem-right i pre later e)) in
    let behind : (c : ℕ) → Task n c → mem c pre ≡ false → (par c ≡ 0 → ⊥) → Rises par c later
    = λ c t new child.
    let stands = all_in n (pre ++ later) v.inside v.once v.whole c t in
    ordered-rises par later c (ordered-append par pre later v.upward) two.second
    ((rw new at (sym (mem-append c pre later))) ∙ stands) child in
    record {
      tasks = tasks;
      once = two.second;
      apart = λ i e. fails (mem i pre) (λ h. clash e (two.apart i h));
      fed = λ c t e new. (behind c t new (λ z. let low = (tasks (par c) e).low in omega arith)).rises;
      closed =
          λ c t child e.
          ⊎_elim (λ h. h) (λ new. absurd (clash (behind c t new child).member (two.apart (par c) e))) (decide (mem c pre));
    }

-- it is the turn of the first of those that are left
pub left-turn :
    (n : ℕ) (par : ℕ → ℕ) (ended : List ℕ) (x : ℕ) (later : List ℕ)
    → Left n par ended (x ∷ later)
    → Turn n par ended x
left-turn n par ended x later r =
    let task : Task n x = r.tasks x (mem-here x x later refl) in
    let new : mem x ended ≡ false = r.apart x (mem-here x x later refl) in
    let fed : (c : ℕ) → Task n c → par c ≡ x → mem c ended ≡ true
    = λ c t q.
    ⊎_elim (λ e. e)
    (λ e. absurd (omega (arith, r.fed c t (mem-here (par c) x later q) e, place_here (par c) x later q)))
    (decide (mem c ended)) in
    record {
      task = task;
      new = new;
      fed = fed;
      upward =
          λ child.
          let other : par x ≡ x → ⊥ = λ q. clash (fed x task q) new in
          mem-later (par x) x ended other ∙ fails (mem (par x) ended) (λ e. clash (r.closed x task child e) new);
    }

-- it runs, and the others are left
pub left-next :
    (n : ℕ) (par : ℕ → ℕ) (ended : List ℕ) (x : ℕ) (later : List ℕ)
    → Left n par ended (x ∷ later)
    → Left n par (x ∷ ended) later
left-next n par ended x later r =
    let fresh = distinct_cons x later r.once in
    record {
      tasks = λ i e. r.tasks i (mem-more i x later e);
      once = fresh.later;
      apart =
          λ i e.
          mem-later i x ended (mem-other i x later e fresh.new) ∙ r.apart i (mem-more i x later e);
      fed =
          λ c t e new.
          let out = mem-out c x ended new in
          omega (
            arith,
            r.fed c t (mem-more (par c) x later e) out.1,
            place-later c x later out.0,
            place-later (par c) x later (mem-other (par c) x later e fresh.new),
          );
      closed =
          λ c t child e.
          mem-more c x ended
          (⊎_elim (λ q. (left-turn n par ended x later r).fed c t q)
          (λ d. r.closed c t child (mem-rest (par c) x ended e d)) (same_or_not (par c) x));
    }

-- each task of a valid order has its turn
pub valid-turn :
    (n : ℕ) (par : ℕ → ℕ) (pre : List ℕ) (x : ℕ) (post : List ℕ) → Valid n par (pre ++ x ∷ post) → Turn n par pre x
valid-turn n par pre x post v = left-turn n par pre x post (left_split n par pre (x ∷ post) v)
