-- The children of a task, passed one by one along their links.
use mathlib.Core.Path.{◌≡◌, refl, sym, ap, ◌∙◌}
use mathlib.Core.Bool.{true}
use mathlib.Core.List.{List, [], ◌∷◌}
use mathlib.Core.Logic.{⊎_elim}
use Prim.Native.Nat.{ℕ, suc, ◌≤◌, ◌<◌}
use native.Mathlib.Omega.{arith}
use lib.ListN.{length}
use Rattle.numbers.specs.Sums.{Task}
use Rattle.numbers.specs.Lists.{mem}
use Rattle.numbers.specs.Limits.{max_tasks}
use Rattle.numbers.proofs.Tests.{same_or_not}
use Rattle.tree.proofs.Orders.{mem-here, mem-more}
use Rattle.children.specs.Scratch.{tall, first, sibling, field}
use Rattle.children.specs.Links.{Passes}
use Rattle.children.specs.Linked.{linked_from, linked_in, LinkedFrom, Linked}
use Rattle.children.proofs.Following.{passes_same, passes-some, passes_none, passes-follows, follows-few}

-- the children that are left, from `child` on
pub record Walking (w : List ℕ) (child : ℕ) (rest : List ℕ) : Type 0 where
  pub left : Passes (field sibling w) child rest 0
  pub task : (x : ℕ) → mem x rest ≡ true → Task max_tasks x
  pub few : length rest ≤ tall

-- one of them, and those behind it
pub record Step (w : List ℕ) (child : ℕ) (rest : List ℕ) : Type 0 where
  pub later : List ℕ
  pub split : rest ≡ child ∷ later
  pub task : Task max_tasks child
  pub next : (next : ℕ) → next ≡ field sibling w child → Walking w next later

module _ (w : List ℕ) (child : ℕ) (rest : List ℕ) (a : Walking w child rest) where
  no_one : (x : ℕ) → mem x rest ≡ true → x ≡ 0 → ⊥
  no_one x m z = let t = a.task x m in omega arith

  pub walking-end : child ≡ 0 → rest ≡ []
  walking-end z = passes_none (field sibling w) rest (rw z at a.left) no_one

  pub walking-left : linked_from w child ≡ rest
  walking-left = passes-follows tall (field sibling w) child rest a.left no_one a.few

  pub walking-step : (child ≡ 0 → ⊥) → Step w child rest
  walking-step d =
      let some = passes-some (field sibling w) child rest a.left d in
      let few = a.few in
      let one : length rest ≡ suc (length some.0) = ap length some.1 in
      record {
        later = some.0;
        split = some.1;
        task = a.task child (ap (mem child) some.1 ∙ mem-here child child some.0 refl);
        next = λ next e.
            record {
              left = rw e some.2;
              task = λ x m. a.task x (ap (mem x) some.1 ∙ mem-more x child some.0 m);
              few = omega arith;
            };
      }

  pub walking-task : (child ≡ 0 → ⊥) → Task max_tasks child
  walking-task d = (walking-step d).task

  -- the next is a task, or nobody
  pub walking-low : child ≤ max_tasks
  walking-low =
      ⊎_elim (λ (z : child ≡ 0). omega arith) (λ d. (walking-step d).task.high) (same_or_not child 0)

-- the walk comes to an end, also where other columns change
pub walking-less :
    (w : List ℕ) (child : ℕ) (rest : List ℕ) (w' : List ℕ) (next : ℕ) (later : List ℕ)
    → Walking w child rest
    → Walking w' next later
    → rest ≡ child ∷ later
    → length (linked_from w' next) < length (linked_from w child)
walking-less w child rest w' next later a b e =
    let now = ap length (walking-left w child rest a) in
    let then = ap length (walking-left w' next later b) in
    let one : length rest ≡ suc (length later) = ap length e in
    omega arith

pub walking-none : (w : List ℕ) (i child : ℕ) → Linked w i → child ≡ field first w i → Walking w child (linked_in w i)
walking-none w i child linked e =
    record {
      left = rw e linked.list;
      task = linked.each;
      few = follows-few tall (field sibling w) (field first w i);
    }

-- what is linked at a task is what a walk from its first child passes
pub walking-linked :
    (w : List ℕ) (i : ℕ) (l : List ℕ) → Task max_tasks i → Walking w (field first w i) l → (linked_in w i ≡ l) × Linked w i
walking-linked w i l t a =
    let is : linked_in w i ≡ l = walking-left w (field first w i) l a in
    (is, record { task = t; list = rw is a.left; each = λ c m. a.task c (sym (ap (mem c) is) ∙ m) })

-- the walk goes on where the links of those that are left are the same
pub walking-same :
    (w w' : List ℕ) (child : ℕ) (rest : List ℕ)
    → ((x : ℕ) → mem x rest ≡ true → field sibling w' x ≡ field sibling w x)
    → Walking w child rest
    → Walking w' child rest
walking-same w w' child rest same a =
    record {
      left = passes_same (field sibling w) (field sibling w') child rest 0 same a.left;
      task = a.task;
      few = a.few;
    }

-- those linked from one on: none from nobody on, or one of them and those behind it
module _ (w : List ℕ) (x : ℕ) (a : LinkedFrom w x) where
  walk : Walking w x (linked_from w x)
  walk = record { left = a.list; task = a.each; few = follows-few tall (field sibling w) x }

  pub from-end : x ≡ 0 → linked_from w x ≡ []
  from-end = walking-end w x (linked_from w x) walk

  pub from-task : (x ≡ 0 → ⊥) → Task max_tasks x
  from-task = walking-task w x (linked_from w x) walk

  module _ (d : x ≡ 0 → ⊥) (next : ℕ) (e : next ≡ field sibling w x) where
    step : Step w x (linked_from w x)
    step = walking-step w x (linked_from w x) walk d

    later : Walking w next step.later
    later = step.next next e

    is : linked_from w next ≡ step.later
    is = walking-left w next step.later later

    pub from-split : linked_from w x ≡ x ∷ linked_from w next
    from-split = step.split ∙ ap (λ (l : List ℕ). x ∷ l) (sym is)

    pub from-next : LinkedFrom w next
    from-next = record { list = rw is later.left; each = λ c m. later.task c (rw is at m) }
