-- Laws of the one root, and of the number that is answered where there is one.
use mathlib.Core.Path.{◌≡◌, refl, sym, ap, subst, ◌∙◌}
use mathlib.Core.Bool.{true, false}
use mathlib.Core.List.{List, [], ◌∷◌, ◌++◌}
use Prim.Native.Nat.{ℕ, ◌≤◌, ◌<◌}
use native.Mathlib.Omega.{arith}
use lib.ListN.{length, drop}
use borrow.Author.Tests.{le-leb, lt-leb}
use Rattle.numbers.specs.Sums.{Task, every_to}
use Rattle.numbers.specs.Lists.{mem, distinct}
use Rattle.tree.specs.Tree.{up}
use Rattle.tree.specs.Tree
use Rattle.postorders.specs.Postorder.{best_postorder}
use Rattle.postorders.specs.Find.{all_reach}
use Rattle.numbers.proofs.Tests.{clash, fails}
use Rattle.numbers.proofs.Sums.{every-to, every_one}
use Rattle.tree.proofs.Orders.{nobody, mem-here, mem-more, distinct_cons}
use Rattle.postorders.proofs.Siblings.{child-there}
use Rattle.postorders.proofs.Nested.{root-above}
use Rattle.tree.proofs.Roots.{one-root}
use Rattle.tree.proofs.Roots
use Rattle.words.proofs.Views.{part_length, part_at}
use Rattle.children.specs.Scratch.{first, sibling, queue, field}
use Rattle.children.specs.Links.{Passes}
use Rattle.children.specs.Listing.{last_first, Listed}
use Rattle.children.proofs.Listed.{last-permuted, last-in}
use Rattle.finding.specs.Reaching.{reached_in, MayReach, ReachedFrom, Reached}
use Rattle.finding.specs.Finding.{AllReached, MayFind, find_number, Finds}
use Rattle.finding.proofs.Reached.{listed_same}
use Rattle.finding.proofs.Rooted.{all-reached, rank, reached-tree}

-- a list with one entry
just-one :
    (x : ℕ) (l : List ℕ) → mem x l ≡ true → distinct l ≡ true → ((y : ℕ) → mem y l ≡ true → y ≡ x) → l ≡ x ∷ []
just-one x [] m once same = absurd (nobody x m)
just-one x (y ∷ []) m once same = ap (λ (z : ℕ). z ∷ []) (same y (mem-here y y [] refl))
just-one x (y ∷ z ∷ l) m once same =
    let one = same y (mem-here y y (z ∷ l) refl) in
    let two = same z (mem-more z y (z ∷ l) (mem-here z z l refl)) in
    absurd (clash (mem-here y z l (one ∙ sym two)) (distinct_cons y (z ∷ l) once).new)

module _ (n : ℕ) (par work out : ℕ → ℕ) (may : MayFind n par work out) where
  abbrev root : ℕ
  root = Tree.root n par

  root-task : Task n root
  root-task = Roots.root-task n par may.one

  root-top : par root ≡ 0
  root-top = Roots.root-parent n par may.one

  -- the list of those without a parent has it alone
  one-listed : last_first n par 0 ≡ root ∷ []
  one-listed =
      just-one root (last_first n par 0) (child-there n par 0 (last_first n par 0) (last-permuted n par 0) root (record { task = root-task; parent = root-top }))
      (last-permuted n par 0).once
      (λ y m.
      let c = last-in n par 0 y m in
      one-root n par may.one y root c.task root-task c.parent root-top)

  module _ (w : List ℕ) (listed : Listed n par w) where
    first-is : field first w 0 ≡ root
    unfolding Passes
    first-is =
        let list : Passes (field sibling w) (field first w 0) (root ∷ []) 0
        = rw one-listed at (listed.lists 0 (omega arith)) in
        list.0

    pub may-reach : MayReach n par w
    may-reach =
        record {
          parented = may.light.parented;
          listed = listed;
          one = one-listed ∙ ap (λ (x : ℕ). x ∷ []) (sym first-is);
        }

    module _ (w' : List ℕ) (r : ℕ) (a : Reached n par w w' r) where
      from-root : ReachedFrom n par root (reached_in w' r)
      from-root = rw first-is at a.queued

      -- all are reached just where the chain of each reaches the root
      rooted-yes : r ≡ n → all_reach n par ≡ true
      unfolding all_reach
      rooted-yes e =
          let whole = part_length queue r w' ∙ e in
          every-to (λ i. up n par root i) n
          (root-above n par (rank n par root (reached_in w' r) from-root may.light.parented root-top whole)
          (reached-tree n par root (reached_in w' r) from-root may.light.parented root-top whole) may.one root root-task root-top)

      rooted-no : (r ≡ n → ⊥) → all_reach n par ≡ false
      unfolding all_reach
      rooted-no d =
          fails (every_to (λ i. up n par root i) n)
          (λ e.
          d
          (sym (part_length queue r w')
          ∙ all-reached n par root (reached_in w' r) from-root may.light.parented
          (λ i t. every_one (λ k. up n par root k) n i e t)))

      module _ (list : List ℕ) where
        pub finds-stray : (r ≡ n → ⊥) → Finds n par work out list list 12
        unfolding find_number
        finds-stray d =
            let number : find_number n par (length list) ≡ 12 = rw (rooted-no d) in
            record { number = sym number; list_is = rw number }

        module _ (e : r ≡ n) where
          pub finds-short : length list < n → Finds n par work out list list 11
          unfolding find_number
          finds-short h =
              let number : find_number n par (length list) ≡ 11 = rw (rooted-yes e, lt-leb n (length list) h) in
              record { number = sym number; list_is = rw number }

          first-queued : field queue w' 0 ≡ root
          first-queued =
              part_at queue r w' 0 (let some = from-root.begins.0 in let long = part_length queue r w' in omega arith)
              ∙ from-root.begins.1

          pub may-write-found : n ≤ length list → AllReached n par work out w' list
          may-write-found h =
              record {
                light = may.light;
                one = may.one;
                listed = listed_same n par w w' may.light.parented.small a.long a.same listed;
                top = ap par first-queued ∙ root-top;
                reached = rw first-queued (subst (λ (k : ℕ). ReachedFrom n par root (reached_in w' k)) e from-root);
                room = h;
              }

          pub finds :
              (list' : List ℕ)
              → n ≤ length list
              → list' ≡ best_postorder n n par work out (field queue w' 0) ++ drop n list
              → Finds n par work out list list' 0
          unfolding find_number
          finds list' h wrote =
              let number : find_number n par (length list) ≡ 0 = rw (rooted-yes e, le-leb n (length list) h) in
              record {
                number = sym number;
                list_is = rw number (wrote ∙ ap (λ (x : ℕ). best_postorder n n par work out x ++ drop n list) first-queued);
              }
