-- Laws of the tasks met along links, written to a list one by one.
use mathlib.Core.Path.{◌≡◌, refl, sym, ap, ap₂, ◌∙◌}
use mathlib.Core.List.{List, [], ◌∷◌, ◌++◌}
use Prim.Native.Nat.{ℕ, zero, suc, ◌+◌, ◌-◌, ◌≤◌, ◌<◌}
use native.Mathlib.Nat.{zero-add}
use native.Mathlib.Numerals.{add-one}
use native.Mathlib.Omega.{arith}
use lib.ListN.{length, take, drop, set, get_or}
use lib.Seq.{take_all, drop-cons, paste, paste-zero, paste-suc, length-paste}
use Rattle.numbers.specs.Lists.{mem}
use Rattle.numbers.specs.Limits.{max_tasks}
use Rattle.tree.proofs.Orders.{mem-at}
use Rattle.children.specs.Scratch.{head, after, field}
use Rattle.children.specs.Links.{Passes}
use Rattle.finding.specs.Writing.{met, order_from, MayWrite}

met-length : (count : ℕ) (link : ℕ → ℕ) (from : ℕ) → length (met count link from) ≡ count
unfolding met
met-length zero link from = refl
met-length (suc count) link from = ap suc (met-length count link (link from))

-- the tasks that links lead along
pub passes-met : (link : ℕ → ℕ) (from : ℕ) (l : List ℕ) (to : ℕ) → Passes link from l to → met (length l) link from ≡ l
unfolding Passes met
passes-met link from [] to h = refl
passes-met link from (x ∷ l) to h = rw h.0 (ap (λ (m : List ℕ). x ∷ m) (passes-met link (link x) l to h.1))

-- the first k are written, and `task` is the next
pub record WrittenTo (n : ℕ) (w : List ℕ) (root : ℕ) (list₀ list : List ℕ) (task k : ℕ) : Type 0 where
  pub within : k ≤ n
  pub listed : list ≡ paste list₀ 0 (order_from n w root) k
  pub left : drop k (order_from n w root) ≡ met (n - k) (field after w) task

module _ (n : ℕ) (w : List ℕ) (root : ℕ) (list₀ : List ℕ) (may : MayWrite n w root list₀) where
  order-long : length (order_from n w root) ≡ n
  order-long = met-length n (field after w) (field head w root)

  pub written_none : (task : ℕ) → task ≡ field head w root → WrittenTo n w root list₀ list₀ task 0
  written_none task e =
      record {
        within = omega arith;
        listed = paste-zero list₀ 0 (order_from n w root);
        left = rw e (ap (λ (k : ℕ). met k (field after w) (field head w root)) (omega arith));
      }

  module _ (list : List ℕ) (task k : ℕ) (a : WrittenTo n w root list₀ list task k) where
    -- the list is as long as it was
    pub as_long : length list ≡ length list₀
    as_long =
        let within = a.within in
        let room = may.room in
        let long = order-long in
        ap length a.listed ∙ length-paste list₀ 0 (order_from n w root) k (omega arith) (omega arith)

    module _ (h : k < n) where
      next : (get_or (order_from n w root) k 0 ≡ task) × (drop (suc k) (order_from n w root) ≡ met (n - (k + 1)) (field after w) (field after w task))
      unfolding met
      next =
          let long = order-long in
          let here : drop k (order_from n w root) ≡ get_or (order_from n w root) k 0 ∷ drop (suc k) (order_from n w root)
          = drop-cons (order_from n w root) k 0 (omega arith) in
          let there : met (n - k) (field after w) task ≡ task ∷ met (n - (k + 1)) (field after w) (field after w task)
          = ap (λ (m : ℕ). met m (field after w) task) (let one : n - k ≡ suc (n - (k + 1)) = omega arith in one) in
          let both : get_or (order_from n w root) k 0 ∷ drop (suc k) (order_from n w root)
          ≡ task ∷ met (n - (k + 1)) (field after w) (field after w task)
          = sym here ∙ a.left ∙ there in
          (cc, cc)

      pub written_low : task ≤ max_tasks
      written_low =
          let long = order-long in
          may.each task
          (ap (λ (x : ℕ). mem x (order_from n w root)) (sym next.0) ∙ mem-at (order_from n w root) k (omega arith))

      pub written_next : (task' : ℕ) → task' ≡ field after w task → WrittenTo n w root list₀ (set list k task) task' (k + 1)
      written_next task' e =
          let long = order-long in
          let room = may.room in
          let start : 0 + k ≡ k = omega arith in
          record {
            within = omega arith;
            listed =
                rw (a.listed, add-one k, ← next.0)
                (ap (λ (j : ℕ). set (paste list₀ 0 (order_from n w root) k) j (get_or (order_from n w root) k 0)) (sym start)
                ∙ paste-suc list₀ 0 (order_from n w root) k 0 (omega arith) (omega arith));
            left = ap (λ (m : ℕ). drop m (order_from n w root)) (add-one k) ∙ rw e next.1;
          }

    pub written_all : n ≤ k → list ≡ order_from n w root ++ drop n list₀
    written_all h =
        let all : k ≡ n = (let within = a.within in omega arith) in
        let long = order-long in
        a.listed
        ∙ ap (λ (m : ℕ). take m (order_from n w root) ++ drop (0 + m) list₀) all
        ∙ ap₂ (λ (l : List ℕ) (m : ℕ). l ++ drop m list₀) (take_all n (order_from n w root) (omega arith)) (zero-add n)
