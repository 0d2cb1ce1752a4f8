-- The order that is found for a plan: of all that finish each subtree before they turn to its neighbour none has a lower peak, and BEGIN
-- takes it where any of them fits.
use mathlib.Core.Path.{◌≡◌, refl, sym, ap, subst, ◌∙◌}
use mathlib.Core.Bool.{Bool, true, false}
use mathlib.Core.Logic.{◌⊎◌, inl, inr, ⊎_elim}
use mathlib.Core.List.{List, [], map}
use Prim.Native.Nat.{ℕ, ◌≤◌, ◌<◌}
use native.Mathlib.Omega.{arith}
use lib.Dec.{eqb, leb}
use lib.ListN.{length}
use borrow.Author.Tests.{eq-eqb, le-leb, lt-leb}
use Rattle.books.specs.Kind.{all}
use Rattle.numbers.specs.Sums.{Task}
use Rattle.numbers.specs.Lists.{at, mem, place}
use Rattle.tree.specs.Peak.{peak}
use Rattle.tree.specs.Tree.{roots, root, chain, Valid, Tree}
use Rattle.rules.specs.Phase
use Rattle.rules.specs.State.{State, root_of}
use Rattle.format.specs.Command.{activation, begin}
use Rattle.rules.specs.Grounds.{no_execution, in_turn, peak_of, peak_in, fits_in, demand, own_ground, ground_for}
use Rattle.rules.specs.Obey.{with_orders}
use Rattle.rules.specs.Reachable.{Reachable}
use Rattle.postorders.specs.Postorder.{best_postorder}
use Rattle.postorders.specs.Find.{found_below, found, find_ground, find_order}
use Rattle.postorders.specs.FindHolds.{Together, IsPostorder, peak_by, peak_less_out_of, SameTasks, Part, BeginsUnlessNoneFits, FoundHolds, OneRoot, Reaches, Rooted}
use Rattle.numbers.proofs.Tests.{le-or-lt, or_left, or_right}
use Rattle.tree.proofs.Orders.{every-within, length-all, each-once}
use Rattle.tree.proofs.Roots.{root-task, root-parent}
use Rattle.rules.proofs.Completing.{begin-ground}
use Rattle.rules.proofs.Reaching.{lives}
use Rattle.streams.proofs.Leading.{Leads, activations-lead}
use Rattle.streams.proofs.OneOrder.{begin-in-turn}
use Rattle.postorders.proofs.Sorting.{Ahead}
use Rattle.postorders.proofs.FinishedOrders.{Subtree, subtree-valid}
use Rattle.postorders.proofs.TogetherOrders.{together-finishes}
use Rattle.postorders.proofs.BestOrder as best
use Rattle.postorders.proofs.Levels.{found_key}
use Rattle.postorders.proofs.Taking.{found-subtree, found_part, found-together, taken-ahead}
use Rattle.postorders.proofs.Ascending.{reaches-soon, nearness, reached-tree}

-- n tasks with one root, which each of them reaches
module _ (n : ℕ) (par work out : ℕ → ℕ) (inside : (i : ℕ) → Task n i → par i ≤ n) (one : roots n par ≡ 1)
    (reach : (i : ℕ) → Task n i → mem (root n par) (chain n par i) ≡ true) where
  tree : Tree n par (nearness n par (root n par))
  tree = reached-tree n par inside (root n par) (root-task n par one) (root-parent n par one) reach

  -- the order found is one of the root's subtree
  of-root : Subtree n par (root n par) (best_postorder n n par work out (root n par))
  of-root = found-subtree n par work out (nearness n par (root n par)) tree (root n par) (root-task n par one)

  -- so it is valid
  found-valid : Valid n par (best_postorder n n par work out (root n par))
  found-valid =
      subtree-valid n par (nearness n par (root n par)) tree one (root n par) (root-task n par one)
      (root-parent n par one) (best_postorder n n par work out (root n par)) of-root

  -- each subtree stands together in it
  found-stands : Together n par (best_postorder n n par work out (root n par))
  found-stands =
      found-together n par work out (nearness n par (root n par)) tree one (root n par) (root-task n par one)
      (root-parent n par one)

  -- and none in which each subtree does has a lower peak
  found-lowest :
      (l : List ℕ)
      → Valid n par l
      → Together n par l
      → peak n par work out (best_postorder n n par work out (root n par)) ≤ peak n par work out l
  found-lowest l valid together =
      let r = root n par in
      let task = root-task n par one in
      best.lowest n par work out (nearness n par r) tree n r task (tree.below r task) l
      (together-finishes n par inside one r task (root-parent n par one) l valid together)

  -- the order found for each task is a part of it
  found-parts : (i : ℕ) → Task n i → Part (best_postorder n n par work out i) (best_postorder n n par work out (root n par))
  found-parts =
      found_part n par work out (nearness n par (root n par)) tree one (root n par) (root-task n par one)
      (root-parent n par one)

  -- of two children of one task the one that goes ahead stands ahead
  found-taken :
      (c d : ℕ)
      → Task n c
      → Task n d
      → par c ≡ par d
      → Ahead (found_key n n par work out) c d
      → place c (best_postorder n n par work out (root n par)) < place d (best_postorder n n par work out (root n par))
  found-taken =
      taken-ahead n par work out (nearness n par (root n par)) tree one (root n par)
      (root-task n par one) (root-parent n par one) of-root.once

-- an order of that kind is an activation order that BEGIN's checks pass
pub postorder-valid : (s : State) (l : List ℕ) → IsPostorder s l → Valid s.size (at s.parents) l
postorder-valid s l kind =
    let inside = every-within s.size l kind.each.tasks in
    record {
      inside = inside;
      once = kind.each.once;
      whole = length-all s.size l inside kind.each.once kind.each.each;
      upward = kind.upward;
    }

-- of two plans of the same tasks
module _ (s t : State) (same : SameTasks s t) where
  kind-of : (l : List ℕ) → IsPostorder t l → IsPostorder s l
  kind-of l kind =
      record {
        each = rw same.size at kind.each;
        upward = rw same.parents at kind.upward;
        together = rw (same.size, same.parents) at kind.together;
      }

  peak-of : (l : List ℕ) → peak_by t l ≡ peak_by s l
  peak-of l = rw (same.size, same.parents, same.works, same.outs) refl

  pub found-alone :
      Phase.orders ≤ s.phase → Phase.orders ≤ t.phase → (list : List ℕ) → find_order t list ≡ find_order s list
  unfolding find_order find_ground found found_below
  found-alone whole whole' list =
      rw (
        le-leb Phase.orders s.phase whole,
        le-leb Phase.orders t.phase whole',
        same.size,
        same.parents,
        same.works,
        same.outs,
      )
      refl

module _ (s : State) (reached : Reachable s) where
  parents-inside : (i : ℕ) → Task s.size i → at s.parents i ≤ s.size
  parents-inside i _ = (lives reached).formed.given.parents.limited i

  -- whoever reaches the root does so among the first n
  pub reach-soon :
      OneRoot s
      → (i : ℕ)
      → Task s.size i
      → Reaches s i
      → mem (root_of s) (chain s.size (at s.parents) i) ≡ true
  reach-soon one i t far =
      reaches-soon s.size (at s.parents) parents-inside (root_of s)
      (root-task s.size (at s.parents) one) far.0 i t far.1

module _ (s : State) (reached : Reachable s) (rooted : Rooted s) where
  all-reach :
      (i : ℕ) → Task s.size i → mem (root_of s) (chain s.size (at s.parents) i) ≡ true
  all-reach i t = reach-soon s reached rooted.one i t (rooted.reach i t)

  valid : Valid s.size (at s.parents) (found s)
  unfolding found found_below
  valid =
      found-valid s.size (at s.parents) (at s.stores.chilled.works) (at s.stores.chilled.outs) (parents-inside s reached)
      rooted.one all-reach

  found-kind : IsPostorder s (found s)
  unfolding found found_below
  found-kind =
      record {
        each = each-once s.size (found s) valid.inside valid.once valid.whole;
        upward = valid.upward;
        together =
            found-stands s.size (at s.parents) (at s.stores.chilled.works) (at s.stores.chilled.outs) (parents-inside s reached)
            rooted.one all-reach;
      }

  lowest-of-kind : (l : List ℕ) → IsPostorder s l → peak_by s (found s) ≤ peak_by s l
  unfolding found found_below
  lowest-of-kind l kind =
      found-lowest s.size (at s.parents) (at s.stores.chilled.works) (at s.stores.chilled.outs) (parents-inside s reached)
      rooted.one all-reach l (postorder-valid s l kind) kind.together

  parts : (i : ℕ) → Task s.size i → Part (found_below s i) (found s)
  unfolding found found_below
  parts =
      found-parts s.size (at s.parents) (at s.stores.chilled.works) (at s.stores.chilled.outs) (parents-inside s reached)
      rooted.one all-reach

  goes-ahead :
      (c d : ℕ)
      → Task s.size c
      → Task s.size d
      → at s.parents c ≡ at s.parents d
      → Ahead (peak_less_out_of s) c d
      → place c (found s) < place d (found s)
  unfolding found found_below
  goes-ahead =
      found-taken s.size (at s.parents) (at s.stores.chilled.works) (at s.stores.chilled.outs) (parents-inside s reached)
      rooted.one all-reach

  -- 03 for its entries
  found-leads :
      s.phase ≡ Phase.orders
      → s.activation ≡ []
      → Leads s (map activation (found s)) (with_orders s (found s) s.execution)
  unfolding with_orders
  found-leads now none =
      subst (λ (t : State). Leads t (map activation (found s)) (with_orders s (found s) s.execution))
      (ap (λ (l : List ℕ). with_orders s l s.execution) (sym none))
      (activations-lead s (found s) s.execution now (lives reached).formed.sized
      (record { inside = valid.inside; once = valid.once; whole = valid.whole }))

  -- a plan of the same tasks with it
  module _ (t : State) (same : SameTasks s t) (given : t.activation ≡ found s) where
    found_turn :
        t.phase ≡ Phase.orders
        → (t.execution ≡ []) ⊎ (length t.execution ≡ t.size)
        → in_turn t begin ≡ true
    found_turn now executed =
        begin-in-turn t now (ap (λ (l : List ℕ). length l) given ∙ valid.whole ∙ sym same.size)
        (⊎_elim
        (λ none. or_right (eqb (length t.execution) t.size) (no_execution t) (rw none refl))
        (λ full. or_left (eqb (length t.execution) t.size) (no_execution t) (eq-eqb (length t.execution) t.size full))
        executed)

    -- the grounds for BEGIN
    found-ground :
        (b : Bool)
        → leb (peak_by s (found s)) t.stores.chilled.bound ≡ b
        → own_ground t begin ≡ demand b 9 0
    unfolding own_ground peak_of peak_in fits_in all
    found-ground b fits =
        rw (
          same.size,
          same.parents,
          same.works,
          same.outs,
          given,
          eq-eqb (roots s.size (at s.parents)) 1 rooted.one,
          valid.upward,
          fits,
        )
        refl

    found-begins : in_turn t begin ≡ true → BeginsUnlessNoneFits t (ground_for t begin)
    found-begins turn =
        let own = begin-ground t turn in
        ⊎_elim
        (λ low. inl (own ∙ found-ground true (le-leb (peak_by s (found s)) t.stores.chilled.bound low)))
        (λ high.
        inr (
          own ∙ found-ground false (lt-leb (peak_by s (found s)) t.stores.chilled.bound high),
          (λ l kind. let h = lowest-of-kind l (kind-of s t same l kind) in let e = peak-of s t same l in omega arith),
        ))
        (le-or-lt (peak_by s (found s)) t.stores.chilled.bound)

  pub found-holds : FoundHolds s (found s)
  unfolding with_orders
  found-holds =
      record {
        kind = found-kind;
        lowest = lowest-of-kind;
        falling = λ c d t u same more. goes-ahead c d t u same (inl more);
        equal = λ c d t u same equal lower. goes-ahead c d t u same (inr (equal, lower));
        given = λ now none. let leads = found-leads now none in (leads.accepted, leads.obeyed);
        part = parts;
        turn = found_turn;
        begins = found-begins;
      }
