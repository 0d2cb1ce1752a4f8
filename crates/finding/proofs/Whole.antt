-- Laws of the order of the root's subtree, where all tasks are reached: it has them all, and is what the links lead along.
use mathlib.Core.Path.{◌≡◌, refl, sym, ap, ◌∙◌}
use mathlib.Core.List.{List, [], ◌∷◌, ◌++◌}
use Prim.Native.Nat.{ℕ, ◌≤◌, ◌<◌}
use native.Mathlib.Omega.{arith}
use lib.ListN.{length, drop}
use Rattle.numbers.specs.Sums.{Task}
use Rattle.numbers.specs.Lists.{mem}
use Rattle.numbers.specs.Limits.{max_tasks}
use Rattle.postorders.specs.Postorder.{best_postorder}
use Rattle.postorders.proofs.FinishedOrders.{Subtree, subtree-valid}
use Rattle.postorders.proofs.Taking.{found-subtree}
use Rattle.words.proofs.Views.{part_length}
use Rattle.children.specs.Scratch.{queue, head, after, field}
use Rattle.children.specs.Links.{Passes}
use Rattle.children.proofs.Following.{passes_append}
use Rattle.finding.specs.Reaching.{reached_in}
use Rattle.finding.specs.Arranging.{TreeOf, MayArrange, AllArranged}
use Rattle.finding.specs.Writing.{met, order_from, MayWrite}
use Rattle.finding.specs.Finding.{AllReached}
use Rattle.finding.proofs.Rooted.{root_in, rank, reached-tree, queued}
use Rattle.finding.proofs.Written.{passes-met}

module _ (n : ℕ) (par work out : ℕ → ℕ) (w list : List ℕ) (may : AllReached n par work out w list) where
  abbrev root : ℕ
  root = field queue w 0

  abbrev order : List ℕ
  order = best_postorder n n par work out root

  whole : length (reached_in w n) ≡ n
  whole = part_length queue n w

  -- the tasks as a tree
  tree_of : TreeOf n par work out
  tree_of =
      record {
        small = may.light.parented.small;
        works = may.light.works;
        outs = may.light.outs;
        rank = rank n par root (reached_in w n) may.reached may.light.parented may.top whole;
        tree = reached-tree n par root (reached_in w n) may.reached may.light.parented may.top whole;
      }

  pub may-arrange : MayArrange n par work out w
  unfolding tree_of
  may-arrange =
      record {
        plan = tree_of;
        long = may.listed.long;
        queued =
            queued n par root (reached_in w n) may.reached may.light.parented may.top whole w refl;
        lists = λ i t. may.listed.lists i t.high;
      }

  root-task : Task n root
  root-task = may.reached.tasks root (root_in n par root (reached_in w n) may.reached)

  root-low : root ≤ max_tasks
  root-low = let t = root-task in let small = may.light.parented.small in omega arith

  below : Subtree n par root order
  below = found-subtree n par work out tree_of.rank tree_of.tree root root-task

  -- every task stands in it
  order-long : length order ≡ n
  order-long = (subtree-valid n par tree_of.rank tree_of.tree may.one root root-task may.top order below).whole

  -- once each task has had its turn
  module _ (w' : List ℕ) (a : AllArranged n par work out w w') where
    some : 0 < n
    some = let t = root-task in omega arith

    pub same-root : field queue w' 0 ≡ root
    same-root = a.queue_is 0 some

    pub order_is : order_from n w' root ≡ order
    unfolding Passes
    order_is =
        let o = (a.each root root-task).order in
        let links : Passes (field after w') (field head w' root) (o.front ++ root ∷ []) (field after w' root)
        = passes_append (field after w') (field head w' root) o.front root (root ∷ []) (field after w' root) o.links
        (refl, refl) in
        let all : Passes (field after w') (field head w' root) order (field after w' root) = rw o.whole links in
        ap (λ (k : ℕ). met k (field after w') (field head w' root)) (sym order-long)
        ∙ passes-met (field after w') (field head w' root) order (field after w' root) all

    pub may_write : MayWrite n w' root list
    may_write =
        record {
          low = root-low;
          room = may.room;
          each = λ x m.
              (let t = below.tasks x (sym (ap (mem x) order_is) ∙ m) in
              let small = may.light.parented.small in
              omega arith);
        }

    -- what is written is the order
    pub found-written :
        (list' : List ℕ) (m r : ℕ)
        → m ≡ n
        → r ≡ root
        → list' ≡ order_from m w' r ++ drop m list
        → list' ≡ order ++ drop n list
    found-written list' m r e q wrote =
        wrote
        ∙ ap (λ (k : ℕ). order_from k w' r ++ drop k list) e
        ∙ ap (λ (x : ℕ). order_from n w' x ++ drop n list) q
        ∙ ap (λ (l : List ℕ). l ++ drop n list) order_is
