-- In the order found, the orders found for the tasks are parts: so each subtree stands together, and of two children of one task the one
-- that frees more stands first.
use mathlib.Core.Path.{◌≡◌, refl, sym, ap, ◌∙◌}
use mathlib.Core.Bool.{true}
use mathlib.Core.Logic.{⊎_elim}
use mathlib.Core.List.{List, [], ◌∷◌, ◌++◌, flat_map, append_assoc, append-nil}
use Prim.Native.Nat.{ℕ, ◌+◌, ◌-◌, ◌≤◌, ◌<◌}
use native.Mathlib.Omega.{arith}
use lib.ListN.{length, get_or, get_or-append}
use Rattle.numbers.specs.Sums.{Task}
use Rattle.numbers.specs.Lists.{mem, distinct, place}
use Rattle.tree.specs.Tree.{roots, Tree, up}
use Rattle.postorders.specs.Postorder.{children_of, best_postorder}
use Rattle.postorders.specs.FindHolds.{Together, Part}
use Rattle.numbers.proofs.Tests.{clash, fails, same_or_not}
use Rattle.tree.proofs.Orders.{mem-here, mem-at, mem-left, mem-right, mem-split, getD-second, distinct_append, place-lt, place_of, place-first, place-second, place-ahead}
use Rattle.tree.proofs.Concatenated.{flatMap-append, mem-flatMap}
use Rattle.tree.proofs.Roots.{one-root}
use Rattle.tree.proofs.Tree.{parent-task}
use Rattle.postorders.proofs.Sorting.{Ahead, ahead-once, taken-behind, sorted-taken}
use Rattle.postorders.proofs.Siblings.{children-rising, child-there}
use Rattle.postorders.proofs.Nested.{from-parent}
use Rattle.postorders.proofs.FinishedOrders.{Subtree, finishes-subtree}
use Rattle.postorders.proofs.Levels.{found_key, found_children, found-permuted, found-finishes, found-node}

-- between two entries of a part stand only entries of it
part-together :
    (l order : List ℕ)
    → Part l order
    → distinct order ≡ true
    → (a b c : ℕ)
    → a < b
    → b < c
    → c < length order
    → mem (get_or order a 0) l ≡ true
    → mem (get_or order c 0) l ≡ true
    → mem (get_or order b 0) l ≡ true
part-together l order part once a b c h h' long e f =
    let whole = part.whole in
    let once' = rw whole at once in
    let placed : (k : ℕ)
    → k < length order
    → mem (get_or order k 0) l ≡ true
    → (length part.before ≤ k) × (k < length part.before + length l)
    = λ k low m.
    let x = get_or order k 0 in
    let out =
    fails (mem x part.before)
    (λ g.
    clash (mem-left x l part.after m) ((distinct_append part.before (l ++ part.after) once').apart x g)) in
    let far : place x order ≡ length part.before + place x (l ++ part.after)
    = ap (place x) whole ∙ place-second x part.before (l ++ part.after) out in
    let here = place_of order k once low in
    let inner = place-first x l part.after m in
    let end = place-lt x l m in
    (omega arith, omega arith) in
    let first = placed a (omega arith) e in
    let last = placed c long f in
    let low : length part.before ≤ b = omega (arith, first.0) in
    let high : b - length part.before < length l = omega (arith, last.1) in
    ap (λ (x : ℕ). mem x l)
    (ap (λ (m : List ℕ). get_or m b 0) whole
    ∙ getD-second part.before (l ++ part.after) b low
    ∙ get_or-append l part.after 0 (b - length part.before) high)
    ∙ mem-at l (b - length part.before) high

module _ (n : ℕ) (par work out rank : ℕ → ℕ) (tree : Tree n par rank) where
  -- a part of an order: that of a task, and in it that of a child
  child-part :
      (i c : ℕ) (pre post before after order : List ℕ)
      → Task n i
      → found_children n n par work out i ≡ pre ++ c ∷ post
      → order ≡ before ++ (best_postorder n n par work out i ++ after)
      → order
      ≡ (before ++ flat_map (best_postorder n n par work out) pre)
      ++ (best_postorder n n par work out c ++ (flat_map (best_postorder n n par work out) post ++ i ∷ after))
  unfolding flat_map
  child-part i c pre post before after order t split whole =
      let found : ℕ → List ℕ = best_postorder n n par work out in
      let node : found i ≡ (flat_map found pre ++ (found c ++ flat_map found post)) ++ i ∷ []
      = found-node n par work out rank tree i t
      ∙ ap (λ (l : List ℕ). flat_map found l ++ i ∷ []) split
      ∙ ap (λ (l : List ℕ). l ++ i ∷ []) (flatMap-append found pre (c ∷ post)) in
      whole
      ∙ ap (λ (l : List ℕ). before ++ (l ++ after)) node
      ∙ ap (λ (l : List ℕ). before ++ l)
      (append_assoc (flat_map found pre ++ (found c ++ flat_map found post)) (i ∷ []) after
      ∙ append_assoc (flat_map found pre) (found c ++ flat_map found post) (i ∷ after)
      ∙ ap (λ (l : List ℕ). flat_map found pre ++ l) (append_assoc (found c) (flat_map found post) (i ∷ after)))
      ∙ sym (append_assoc before (flat_map found pre) (found c ++ (flat_map found post ++ i ∷ after)))

  -- it is an order of its subtree
  pub found-subtree : (i : ℕ) → Task n i → Subtree n par i (best_postorder n n par work out i)
  found-subtree i t =
      finishes-subtree n par rank tree n i (best_postorder n n par work out i) t
      (found-finishes n par work out rank tree n i t (tree.below i t))

  -- a task stands in its order
  self-found : (c : ℕ) → Task n c → mem c (best_postorder n n par work out c) ≡ true
  self-found c t =
      ap (mem c) (found-node n par work out rank tree c t)
      ∙ mem-right c (flat_map (best_postorder n n par work out) (found_children n n par work out c)) (c ∷ []) (mem-here c c [] refl)

  module _ (one : roots n par ≡ 1) (r : ℕ) (task : Task n r) (root : par r ≡ 0) where
    -- the order found for each task is a part of that for the root
    pub found_part : (i : ℕ) → Task n i → Part (best_postorder n n par work out i) (best_postorder n n par work out r)
    found_part =
        from-parent n par rank tree (λ i. Part (best_postorder n n par work out i) (best_postorder n n par work out r))
        (λ c t parent.
        ⊎_elim
        (λ (z : par c ≡ 0).
        record {
          before = [];
          after = [];
          whole =
              ap (best_postorder n n par work out) (one-root n par one r c task t root z)
              ∙ sym (append-nil (best_postorder n n par work out c));
        })
        (λ d.
        let u = parent-task n par rank tree c t d in
        let above = parent d in
        let split =
        mem-split c (found_children n n par work out (par c))
        (child-there n par (par c) (found_children n n par work out (par c)) (found-permuted n par work out n (par c)) c
        (record { task = t; parent = refl })) in
        record {
          before = above.before ++ flat_map (best_postorder n n par work out) split.pre;
          after = flat_map (best_postorder n n par work out) split.post ++ par c ∷ above.after;
          whole =
              child-part (par c) c split.pre split.post above.before above.after (best_postorder n n par work out r) u
              split.whole above.whole;
        })
        (same_or_not (par c) 0))

    -- so each subtree stands together
    pub found-together : Together n par (best_postorder n n par work out r)
    found-together i a b c t h h' long e f =
        let order = best_postorder n n par work out r in
        let all = found-subtree r task in
        let own = found-subtree i t in
        let in-part : (k : ℕ) → k < length order → mem (get_or order k 0) (best_postorder n n par work out i) ≡ up n par i (get_or order k 0)
        = λ k low. own.holds (get_or order k 0) (all.tasks (get_or order k 0) (mem-at order k low)) in
        sym (in-part b (omega arith))
        ∙ part-together (best_postorder n n par work out i) order (found_part i t) all.once a b c h h' long
        (in-part a (omega arith) ∙ e) (in-part c long ∙ f)

    -- of two children of one task the one that goes ahead stands ahead
    pub taken-ahead :
        distinct (best_postorder n n par work out r) ≡ true
        → (c d : ℕ)
        → Task n c
        → Task n d
        → par c ≡ par d
        → Ahead (found_key n n par work out) c d
        → place c (best_postorder n n par work out r) < place d (best_postorder n n par work out r)
    taken-ahead once c d t u same ahead =
        let found : ℕ → List ℕ = best_postorder n n par work out in
        let key = found_key n n par work out in
        ⊎_elim
        (λ z. let a = rw (one-root n par one d c u t (sym same ∙ z) z) at ahead in absurd (ahead-once key c c a a))
        (λ child.
        let i = par c in
        let cs = found_children n n par work out i in
        let v = parent-task n par rank tree c t child in
        let above = found_part i v in
        let permuted = found-permuted n par work out n i in
        let split = mem-split c cs (child-there n par i cs permuted c (record { task = t; parent = refl })) in
        let later : mem d split.post ≡ true
        = taken-behind key split.pre c split.post
        (rw split.whole at (sorted-taken key (children_of n par i) (children-rising n par i))) d
        (sym (ap (mem d) split.whole) ∙ child-there n par i cs permuted d (record { task = u; parent = sym same })) ahead in
        let first = (above.before ++ flat_map found split.pre) ++ found c in
        let second = flat_map found split.post ++ i ∷ above.after in
        let whole : found r ≡ first ++ second
        = child-part i c split.pre split.post above.before above.after (found r) v split.whole above.whole
        ∙ sym (append_assoc (above.before ++ flat_map found split.pre) (found c) second) in
        rw whole
        (place-ahead first second c d (rw whole at once)
        (mem-right c (above.before ++ flat_map found split.pre) (found c) (self-found c t))
        (mem-left d (flat_map found split.post) (i ∷ above.after)
        (mem-flatMap found split.post d d later (self-found d u)))))
        (same_or_not (par c) 0)
