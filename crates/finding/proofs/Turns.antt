-- Laws of the turns of all tasks, from the last task reached to the root.
use mathlib.Core.Path.{◌≡◌, refl, sym, ap, ◌∙◌}
use mathlib.Core.Bool.{true, false}
use mathlib.Core.List.{List, [], ◌∷◌, ◌++◌}
use mathlib.Core.Logic.{◌⊎◌, inl, inr, ⊎_elim}
use Prim.Native.Nat.{ℕ, ◌+◌, ◌-◌, ◌*◌, ◌≤◌, ◌<◌}
use native.Mathlib.Omega.{arith}
use lib.Dec.{eqb}
use lib.ListN.{length}
use borrow.Author.Tests.{eqb-false}
use Rattle.numbers.specs.Sums.{Task}
use Rattle.numbers.specs.Lists.{mem, distinct}
use Rattle.numbers.specs.Limits.{max_tasks}
use Rattle.tree.specs.Tree.{up}
use Rattle.postorders.specs.Postorder.{best_postorder}
use Rattle.numbers.proofs.Tests.{clash, same_or_not, le-or-lt}
use Rattle.tree.proofs.Orders.{mem-here, mem-left, distinct_append}
use Rattle.tree.proofs.Tree.{up-rank, up-parent}
use Rattle.postorders.proofs.Taking.{found-subtree}
use Rattle.children.specs.Scratch.{tall, first, sibling, queue, subtree_peak, head, after, cells, field}
use Rattle.children.specs.Links.{Passes}
use Rattle.children.specs.Listing.{last_first}
use Rattle.children.proofs.Following.{passes_same}
use Rattle.children.proofs.Listed.{last-in}
use Rattle.finding.specs.Arranging.{Arranged, MayJoin, NotWritten, HasJoined, MayArrange, AllArranged}
use Rattle.finding.proofs.Turn.{order_same}

-- the columns by their number
abbrev firsts : ℕ
firsts = 0

abbrev siblings : ℕ
siblings = 1

abbrev queues : ℕ
queues = 2

abbrev peaks : ℕ
peaks = 3

abbrev heads : ℕ
heads = 4

abbrev afters : ℕ
afters = 5

-- the column k is none of those in which a task's turn writes its own entry, or none of the two of links
abbrev NotOwn : ℕ → Type 0
NotOwn k = (eqb k firsts ≡ false) × (eqb k peaks ≡ false) × (eqb k heads ≡ false)

abbrev NotLinks : ℕ → Type 0
NotLinks k = (eqb k siblings ≡ false) × (eqb k afters ≡ false)

-- the tasks from place k on have had their turns
pub record ArrangedFrom (n : ℕ) (par work out : ℕ → ℕ) (w₀ w : List ℕ) (k : ℕ) : Type 0 where
  pub within : k ≤ n
  pub long : length w ≡ cells
  pub queue_is : (m : ℕ) → m < n → field queue w m ≡ field queue w₀ m
  pub lists :
      (m : ℕ)
      → m < k
      → Passes (field sibling w) (field first w (field queue w₀ m)) (last_first n par (field queue w₀ m)) 0
  pub done : (m : ℕ) → k ≤ m → m < n → Arranged n par work out w (field queue w₀ m)

module _ (n : ℕ) (par work out : ℕ → ℕ) (w₀ : List ℕ) (may : MayArrange n par work out w₀) where
  abbrev q : ℕ → ℕ
  q = field queue w₀

  abbrev order : ℕ → List ℕ
  order = best_postorder n n par work out

  -- no task has had its turn
  pub arranged-none : ArrangedFrom n par work out w₀ w₀ n
  arranged-none =
      record {
        within = omega arith;
        long = may.long;
        queue_is = λ m h. refl;
        lists = λ m h. may.lists (q m) (may.queued.tasks m h);
        done = λ m h l. absurd (omega arith);
      }

  -- who stands at two places
  same_place : (k m : ℕ) → k < n → m < n → q k ≡ q m → k ≡ m
  same_place k m h l e =
      ⊎_elim (λ (z : k ≡ m). z)
      (λ d.
      ⊎_elim
      (λ (b : m ≤ k).
      let falls = may.queued.falls m k (omega arith) h in
      let r : may.plan.rank (q k) ≡ may.plan.rank (q m) = ap may.plan.rank e in
      absurd (omega arith))
      (λ (b : k < m).
      let falls = may.queued.falls k m b l in
      let r : may.plan.rank (q k) ≡ may.plan.rank (q m) = ap may.plan.rank e in
      absurd (omega arith))
      (le-or-lt m k))
      (same_or_not k m)

  -- who stands in the order of a task before it is below it, with its parent
  front_below :
      (t : ℕ) (front : List ℕ)
      → Task n t
      → order t ≡ front ++ t ∷ []
      → (x : ℕ)
      → mem x front ≡ true
      → Task n x × (up n par t (par x) ≡ true)
  front_below t front task whole x m =
      let rank = may.plan.rank in
      let tree = may.plan.tree in
      let below = found-subtree n par work out rank tree t task in
      let there : mem x (order t) ≡ true = ap (mem x) whole ∙ mem-left x front (t ∷ []) m in
      let x-task = below.tasks x there in
      let other : (t ≡ x → ⊥)
      = λ z.
      clash (mem-here x t [] (sym z))
      ((distinct_append front (t ∷ []) (sym (ap distinct whole) ∙ below.once)).apart x m) in
      (x-task, sym (up-parent n par rank tree t x x-task other) ∙ sym (below.holds x x-task) ∙ there)

  module _ (w : List ℕ) (k : ℕ) (a : ArrangedFrom n par work out w₀ w k) (h : 1 ≤ k) where
    -- the task whose turn it is
    abbrev i : ℕ
    i = q (k - 1)

    task : Task n i
    task = let within = a.within in may.queued.tasks (k - 1) (omega arith)

    -- its children have had theirs
    pub may-join : MayJoin n par work out i w
    may-join =
        record {
          plan = may.plan;
          long = a.long;
          task = task;
          list = a.lists (k - 1) (omega arith);
          below = λ c t p.
              (let at_c = may.queued.each c t in
              let m = at_c.0 in
              let rises = may.plan.tree.rises c t (λ z. let u = task in omega arith) in
              let r : may.plan.rank (par c) ≡ may.plan.rank i = ap may.plan.rank p in
              let s : may.plan.rank (q m) ≡ may.plan.rank c = ap may.plan.rank at_c.2 in
              let behind : k ≤ m
              = ⊎_elim (λ (b : k ≤ m). b)
              (λ (b : m < k).
              ⊎_elim
              (λ (z : m ≡ k - 1).
              let u : may.plan.rank (q m) ≡ may.plan.rank i = ap (λ (j : ℕ). may.plan.rank (q j)) z in
              absurd (omega arith))
              (λ d.
              let within = a.within in
              let falls = may.queued.falls m (k - 1) (omega arith) (omega arith) in
              absurd (omega arith))
              (same_or_not m (k - 1)))
              (le-or-lt k m) in
              rw at_c.2 at (a.done m behind at_c.1));
        }

    module _ (w' : List ℕ) (j : HasJoined n par work out i w w') where
      small : (n ≤ max_tasks) × Task n i
      small = (may.plan.small, task)

      -- the entry of x in the column k, which is not the task's own where that is written, and no link of a child or of nobody
      apart-at :
          (k x : ℕ)
          → x ≤ max_tasks
          → (x ≡ i → NotOwn k)
          → ((x ≡ 0) ⊎ (Task n x × (par x ≡ i)) → NotLinks k)
          → NotWritten n par i (tall * k + x)
      apart-at k x low own link =
          let s = small in
          let child : (c : ℕ) → Task n c → par c ≡ i → x ≡ c → NotLinks k
          = λ c v p e. link (inr (rw e v, ap par e ∙ p)) in
          record {
            first_of = λ z. eqb-false k firsts (own (omega arith)).0 (omega arith);
            peak_apart = λ z. eqb-false k peaks (own (omega arith)).1 (omega arith);
            head_of = λ z. eqb-false k heads (own (omega arith)).2 (omega arith);
            sibling_none = λ z. eqb-false k siblings (link (inl (omega arith))).0 (omega arith);
            after_none = λ z. eqb-false k afters (link (inl (omega arith))).1 (omega arith);
            sibling_of = λ c v p z. eqb-false k siblings (child c v p (omega arith)).0 (omega arith);
            after_of = λ c v p z. eqb-false k afters (child c v p (omega arith)).1 (omega arith);
          }

      -- another task's entry in a column of no links
      apart-own : (k t : ℕ) → NotLinks k → Task n t → (t ≡ i → ⊥) → NotWritten n par i (tall * k + t)
      apart-own k t column u d = let s = small in apart-at k t (omega arith) (λ z. absurd (d z)) (λ _. column)

      -- the link of a task that is no child
      apart-link : (k x : ℕ) → NotOwn k → Task n x → (par x ≡ i → ⊥) → NotWritten n par i (tall * k + x)
      apart-link k x column u d =
          let s = small in
          apart-at k x (omega arith) (λ _. column)
          (λ e. absurd (⊎_elim (λ (z : x ≡ 0). omega arith) (λ c. d c.1) e))

      apart-queue : (m : ℕ) → m < n → NotWritten n par i (queue + m)
      apart-queue m u = let s = small in apart-at queues m (omega arith) (λ _. (refl, refl, refl)) (λ _. (refl, refl))

      -- another place is another task's
      other-task : (m : ℕ) → m < n → (m ≡ k - 1 → ⊥) → q m ≡ i → ⊥
      other-task m l d e = let within = a.within in d (same_place m (k - 1) l (omega arith) e)

      lists-next :
          (m : ℕ) → m < k - 1 → Passes (field sibling w') (field first w' (q m)) (last_first n par (q m)) 0
      lists-next m l =
          let within = a.within in
          let u = may.queued.tasks m (omega arith) in
          let d = other-task m (omega arith) (λ z. omega arith) in
          rw (j.same (first + q m) (apart-own firsts (q m) (refl, refl) u d))
          (passes_same (field sibling w) (field sibling w') (field first w (q m)) (last_first n par (q m)) 0
          (λ x v.
          let child = last-in n par (q m) x v in
          j.same (sibling + x) (apart-link siblings x (refl, refl, refl) child.task (λ z. d (sym child.parent ∙ z))))
          (a.lists m (omega arith)))

      -- those behind it keep theirs
      done_next : (m : ℕ) → k ≤ m → m < n → Arranged n par work out w' (q m)
      done_next m b l =
          let within = a.within in
          let old = a.done m b l in
          let u = may.queued.tasks m l in
          let d = other-task m l (λ z. omega arith) in
          record {
            peak_is = j.same (subtree_peak + q m) (apart-own peaks (q m) (refl, refl) u d) ∙ old.peak_is;
            order =
                order_same w w' (q m) (order (q m)) old.order
                (λ x v.
                let below = front_below (q m) old.order.front u old.order.whole x v in
                j.same (after + x)
                (apart-link afters x (refl, refl, refl) below.0
                (λ z.
                let above = (up-rank n par may.plan.rank may.plan.tree (q m) i task (ap (up n par (q m)) (sym z) ∙ below.1)).1 in
                let falls = may.queued.falls (k - 1) m (omega arith) l in
                omega arith)))
                (j.same (head + q m) (apart-own heads (q m) (refl, refl) u d));
          }

      pub arranged-next : ArrangedFrom n par work out w₀ w' (k - 1)
      arranged-next =
          let within = a.within in
          record {
            within = omega arith;
            long = j.long;
            queue_is = λ m l. j.same (queue + m) (apart-queue m l) ∙ a.queue_is m l;
            lists = lists-next;
            done = λ m b l.
                ⊎_elim (λ (z : m ≡ k - 1). rw z j.own) (λ d. done_next m (omega arith) l) (same_or_not m (k - 1));
          }

  -- all tasks have had their turns
  pub arranged-all : (w : List ℕ) → ArrangedFrom n par work out w₀ w 0 → AllArranged n par work out w₀ w
  arranged-all w a =
      record {
        long = a.long;
        queue_is = a.queue_is;
        each = λ c t.
            (let at_c = may.queued.each c t in rw at_c.2 at (a.done at_c.0 (omega arith) at_c.1));
      }
