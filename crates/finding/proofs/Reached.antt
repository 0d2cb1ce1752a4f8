-- Laws of the tasks that are reached, taken one by one.
use mathlib.Core.Path.{◌≡◌, refl, sym, ap, ◌∙◌}
use mathlib.Core.Bool.{true, false}
use mathlib.Core.List.{List, [], ◌∷◌, ◌++◌}
use mathlib.Core.Logic.{⊎_elim}
use Prim.Native.Nat.{ℕ, suc, ◌+◌, ◌≤◌, ◌<◌}
use native.Mathlib.Numerals.{add-one}
use native.Mathlib.Omega.{arith}
use lib.ListN.{length, take, drop, set, length-append, take-append-drop, get_or-append}
use lib.Seq.{take-suc, take_all, split_at, take-append-le}
use Rattle.numbers.specs.Sums.{Task}
use Rattle.numbers.specs.Lists.{at, mem, distinct, place}
use Rattle.numbers.specs.Limits.{max_tasks}
use Rattle.postorders.proofs.Siblings.{Child, child-there}
use Rattle.numbers.proofs.Tests.{clash, fails, same_or_not}
use Rattle.tree.proofs.Orders.{nobody, mem-none, mem-one, mem-here, mem-at, mem-both, mem-left, mem-right, new-behind, place_of, place-first, place-second, length-within, distinct_more, every-within, distinct-join}
use Rattle.words.specs.Views.{tabulate, view}
use Rattle.words.proofs.Views.{part_length, part_at}
use Rattle.children.specs.Scratch.{first, sibling, queue, cells, field}
use Rattle.children.specs.Listing.{last_first, Listed}
use Rattle.children.specs.Linked.{linked_in, Linked}
use Rattle.children.proofs.Following.{passes_same}
use Rattle.children.proofs.Storing.{stored, stored_other, stored-length}
use Rattle.children.proofs.Walking.{walking-linked}
use Rattle.children.proofs.Listed.{last-permuted, last-in, last-walk}
use Rattle.finding.specs.Reaching.{reached_in, MayAppend, Appended, MayReach, ReachedFrom, Reached}

-- tasks from the root on, with the children of the first k
pub record ReachedTo (n : ℕ) (par : ℕ → ℕ) (root : ℕ) (l : List ℕ) (k : ℕ) : Type 0 where
  pub passed : k ≤ length l
  pub some : 1 ≤ length l
  pub begins : at l 0 ≡ root
  pub tasks : (x : ℕ) → mem x l ≡ true → Task n x
  pub once : distinct l ≡ true
  pub parent : (x : ℕ) → mem x l ≡ true → (x ≡ root → ⊥) → mem (par x) (take k l) ≡ true
  pub before : (x : ℕ) → mem x l ≡ true → (x ≡ root → ⊥) → place (par x) l < place x l
  pub closed : (c : ℕ) → Task n c → mem (par c) (take k l) ≡ true → mem c l ≡ true

-- the root alone
reached-root : (n : ℕ) (par : ℕ → ℕ) (root : ℕ) → Task n root → ReachedTo n par root (root ∷ []) 0
unfolding distinct
reached-root n par root t =
    record {
      passed = omega arith;
      some = omega arith;
      begins = refl;
      tasks = λ x m. rw (mem-one x root m) t;
      once = distinct_more root [] (mem-none root) refl;
      parent = λ x m d. absurd (d (mem-one x root m));
      before = λ x m d. absurd (d (mem-one x root m));
      closed = λ c u m. absurd (nobody (par c) m);
    }

module _ (n : ℕ) (par : ℕ → ℕ) (root : ℕ) (l : List ℕ) (k : ℕ) (a : ReachedTo n par root l k) where
  -- they are not more than all tasks
  reached-few : length l ≤ n
  reached-few =
      length-within n l (every-within n l a.tasks) a.once

  take-mem : (x : ℕ) → mem x (take k l) ≡ true → mem x l ≡ true
  take-mem x m = sym (ap (mem x) (take-append-drop k l)) ∙ mem-left x (take k l) (drop k l) m

  -- all have been taken
  reached-all : length l ≤ k → ReachedFrom n par root l
  reached-all h =
      let all : take k l ≡ l = take_all k l h in
      record {
        begins = (a.some, a.begins);
        tasks = a.tasks;
        once = a.once;
        behind = λ x m d. (sym (ap (mem (par x)) all) ∙ a.parent x m d, a.before x m d);
        closed = λ c t m. a.closed c t (ap (mem (par c)) all ∙ m);
      }

  -- one more is taken, and its children go behind the others
  module _ (up : par root ≡ 0) (h : k < length l) where
    abbrev x : ℕ
    x = at l k

    abbrev kids : List ℕ
    kids = last_first n par x

    x-in : mem x l ≡ true
    x-in = mem-at l k h

    x-new : mem x (take k l) ≡ false
    x-new = new-behind (take k l) (at l k) (drop (suc k) l) (sym (ap distinct (split_at l k 0 h)) ∙ a.once)

    taken : take (k + 1) (l ++ kids) ≡ take k l ++ x ∷ []
    taken =
        ap (λ (m : ℕ). take m (l ++ kids)) (add-one k)
        ∙ take-append-le (suc k) l kids (omega arith)
        ∙ take-suc l k 0 h

    taken-old : (y : ℕ) → mem y (take k l) ≡ true → mem y (take (k + 1) (l ++ kids)) ≡ true
    taken-old y m = ap (mem y) taken ∙ mem-left y (take k l) (x ∷ []) m

    taken-new : (y : ℕ) → y ≡ x → mem y (take (k + 1) (l ++ kids)) ≡ true
    taken-new y e = ap (mem y) taken ∙ mem-right y (take k l) (x ∷ []) (mem-here y x [] e)

    -- a child of it was not reached before
    new : (c : ℕ) → mem c kids ≡ true → mem c l ≡ false
    new c m =
        let child = last-in n par x c m in
        let t = a.tasks x x-in in
        fails (mem c l)
        (λ there.
        ⊎_elim
        (λ (q : c ≡ root). let p = child.parent in let z : par c ≡ 0 = ap par q ∙ up in omega arith)
        (λ d. clash (sym (ap (λ (y : ℕ). mem y (take k l)) child.parent) ∙ a.parent c there d) x-new)
        (same_or_not c root))

    pub reached-next : ReachedTo n par root (l ++ last_first n par (at l k)) (k + 1)
    reached-next =
        let long = length-append l kids in
        let passed = a.passed in
        let some = a.some in
        record {
          passed = omega arith;
          some = omega arith;
          begins = get_or-append l kids 0 0 (omega arith) ∙ a.begins;
          tasks = λ y m. ⊎_elim (a.tasks y) (λ c. (last-in n par x y c).task) (mem-both y l kids m);
          once = distinct-join l kids a.once (last-permuted n par x).once (λ y o. fails (mem y kids) (λ c. clash o (new y c)));
          parent = λ y m d.
              ⊎_elim (λ o. taken-old (par y) (a.parent y o d)) (λ c. taken-new (par y) (last-in n par x y c).parent)
              (mem-both y l kids m);
          before = λ y m d.
              ⊎_elim
              (λ o.
              let at_y = place-first y l kids o in
              let at_p = place-first (par y) l kids (take-mem (par y) (a.parent y o d)) in
              let less = a.before y o d in
              omega arith)
              (λ c.
              let at_y = place-second y l kids (new y c) in
              let at_x = place-first x l kids x-in ∙ place_of l k a.once h in
              let same = ap (λ (z : ℕ). place z (l ++ kids)) (last-in n par x y c).parent in
              omega arith)
              (mem-both y l kids m);
          closed = λ c t m.
              ⊎_elim (λ o. mem-left c l kids (a.closed c t o))
              (λ o.
              mem-right c l kids
              (child-there n par x kids (last-permuted n par x) c (record { task = t; parent = mem-one (par c) x o })))
              (mem-both (par c) (take k l) (x ∷ []) (sym (ap (mem (par c)) taken) ∙ m));
        }

-- the lists of children are the same where no link changes
pub listed_same :
    (n : ℕ) (par : ℕ → ℕ) (w w' : List ℕ)
    → n ≤ max_tasks
    → length w' ≡ cells
    → ((q : ℕ) → q < queue → at w' q ≡ at w q)
    → Listed n par w
    → Listed n par w'
listed_same n par w w' small long same listed =
    record {
      long = long;
      lists = λ p h.
          rw (same (first + p) (omega arith))
          (passes_same (field sibling w) (field sibling w') (field first w p) (last_first n par p) 0
          (λ x m. let t = (last-in n par p x m).task in same (sibling + x) (omega arith)) (listed.lists p h));
    }

-- what is linked at a task are its children
listed-linked :
    (n : ℕ) (par : ℕ → ℕ) (w : List ℕ) (i : ℕ)
    → n ≤ max_tasks
    → Task n i
    → Listed n par w
    → (linked_in w i ≡ last_first n par i) × Linked w i
listed-linked n par w i small t listed =
    walking-linked w i (last_first n par i) (omega arith) (last-walk n par w i small (listed.lists i t.high))

-- the queue, and the links
pub record Reaching (n : ℕ) (par : ℕ → ℕ) (root : ℕ) (w₀ w : List ℕ) (count k : ℕ) : Type 0 where
  pub small : n ≤ max_tasks
  pub listed : Listed n par w
  pub same : (q : ℕ) → q < queue → at w q ≡ at w₀ q
  pub up : par root ≡ 0
  pub queued : ReachedTo n par root (reached_in w count) k

-- the root is the one task without a parent
module _ (n : ℕ) (par : ℕ → ℕ) (w : List ℕ) (may : MayReach n par w) (root : ℕ) (is : root ≡ field first w 0) where
  only-root : Child n par 0 root
  only-root =
      last-in n par 0 root
      (ap (mem root) may.one ∙ mem-here root (field first w 0) [] is)

  pub reaching-none : (w₀ : List ℕ) → w₀ ≡ set w (queue + 0) root → Reaching n par root w₀ w₀ 1 0
  unfolding view tabulate
  reaching-none w₀ e =
      let long = may.listed.long in
      let here : field queue w₀ 0 ≡ root
      = stored w (queue + 0) root e (omega arith) in
      let one : reached_in w₀ 1 ≡ root ∷ [] = ap (λ (x : ℕ). x ∷ []) here in
      record {
        small = may.parented.small;
        listed =
            listed_same n par w w₀ may.parented.small (stored-length w (queue + 0) root e ∙ long)
            (λ q h. stored_other w (queue + 0) root e q (λ z. omega arith)) may.listed;
        same = λ q h. refl;
        up = only-root.parent;
        queued = rw one (reached-root n par root only-root.task);
      }

module _ (n : ℕ) (par : ℕ → ℕ) (root : ℕ) (w₀ w : List ℕ) (count k : ℕ) (a : Reaching n par root w₀ w count k) where
  pub reaching-few : count ≤ n
  reaching-few = let long = part_length queue count w in let few = reached-few n par root (reached_in w count) k a.queued in omega arith

  module _ (h : k < count) where
    inside : k < length (reached_in w count)
    inside = let long = part_length queue count w in omega arith

    here : at (reached_in w count) k ≡ field queue w k
    here = sym (part_at queue count w k h)

    pub reaching-task : Task n (field queue w k)
    reaching-task =
        a.queued.tasks (field queue w k)
        (ap (λ (x : ℕ). mem x (reached_in w count)) (sym here) ∙ mem-at (reached_in w count) k inside)

    next-list : ReachedTo n par root (reached_in w count ++ linked_in w (field queue w k)) (k + 1)
    next-list =
        rw ((listed-linked n par w (field queue w k) a.small reaching-task a.listed).0, ← here)
        (reached-next n par root (reached_in w count) k a.queued a.up inside)

    pub may-append : MayAppend w (field queue w k) count
    may-append =
        let few = reached-few n par root (reached_in w count ++ linked_in w (field queue w k)) (k + 1) next-list in
        let both = length-append (reached_in w count) (linked_in w (field queue w k)) in
        let long = part_length queue count w in
        let small = a.small in
        record {
          long = a.listed.long;
          linked = (listed-linked n par w (field queue w k) a.small reaching-task a.listed).1;
          room = omega arith;
        }

    pub reaching-next :
        (w' : List ℕ) (r : ℕ) → Appended w (field queue w k) count w' r → Reaching n par root w₀ w' r (k + 1)
    reaching-next w' r p =
        record {
          small = a.small;
          listed = listed_same n par w w' a.small p.long p.same a.listed;
          same = λ q l. p.same q l ∙ a.same q l;
          up = a.up;
          queued = rw p.list next-list;
        }

  pub reaching-all :
      (v : List ℕ) → MayReach n par v → root ≡ field first v 0 → w₀ ≡ set v (queue + 0) root → count ≤ k → Reached n par v w count
  reaching-all v may is e h =
      record {
        long = a.listed.long;
        queued =
            rw (← is) (reached-all n par root (reached_in w count) k a.queued (let long = part_length queue count w in omega arith));
        same = λ q l.
            a.same q l ∙ stored_other v (queue + 0) root e q (λ z. omega arith);
      }
