-- Laws of the children of a task, put behind those that are reached.
use mathlib.Core.Path.{◌≡◌, refl, sym, ap, ◌∙◌}
use mathlib.Core.List.{List, [], ◌∷◌, ◌++◌, append-nil, append_assoc}
use Prim.Native.Nat.{ℕ, ◌+◌, ◌<◌}
use native.Mathlib.Omega.{arith}
use lib.ListN.{length, set, length-append}
use Rattle.numbers.specs.Sums.{Task}
use Rattle.numbers.specs.Lists.{at}
use Rattle.numbers.specs.Limits.{max_tasks}
use Rattle.words.proofs.Views.{view-same, part-more}
use Rattle.children.specs.Scratch.{tall, first, sibling, queue, cells, field}
use Rattle.children.specs.Linked.{linked_from, linked_in}
use Rattle.children.proofs.Storing.{stored, stored_other, stored-length}
use Rattle.children.proofs.Walking.{Walking, Step, walking-none, walking-end, walking-step, walking-less, walking-same}
use Rattle.finding.specs.Reaching.{reached_in, MayAppend, Appended}

-- the children passed stand in the queue
pub record Queueing (w₀ : List ℕ) (i count : ℕ) (w : List ℕ) (next child : ℕ) : Type 0 where
  pub long : length w ≡ cells
  pub done : List ℕ
  pub rest : List ℕ
  pub whole : linked_in w₀ i ≡ done ++ rest
  pub walk : Walking w child rest
  pub next-is : next ≡ count + length done
  pub list : reached_in w next ≡ reached_in w₀ count ++ done
  pub same : (q : ℕ) → q < queue → at w q ≡ at w₀ q

module _ (w₀ : List ℕ) (i count : ℕ) (may : MayAppend w₀ i count) where
  pub queueing-none : (child : ℕ) → child ≡ field first w₀ i → Queueing w₀ i count w₀ count child
  queueing-none child e =
      record {
        long = may.long;
        done = [];
        rest = linked_in w₀ i;
        whole = refl;
        walk = walking-none w₀ i child may.linked e;
        next-is = omega arith;
        list = sym (append-nil (reached_in w₀ count));
        same = λ q h. refl;
      }

  module _ (w : List ℕ) (next child : ℕ) (a : Queueing w₀ i count w next child) where
    all-long : length (linked_in w₀ i) ≡ length a.done + length a.rest
    all-long = ap length a.whole ∙ length-append a.done a.rest

    pub queueing-end : child ≡ 0 → Appended w₀ i count w next
    queueing-end z =
        let none : a.rest ≡ [] = walking-end w child a.rest a.walk z in
        let all : linked_in w₀ i ≡ a.done = a.whole ∙ ap (λ (l : List ℕ). a.done ++ l) none ∙ append-nil a.done in
        record {
          long = a.long;
          list = a.list ∙ ap (λ (l : List ℕ). reached_in w₀ count ++ l) (sym all);
          same = a.same;
        }

    module _ (d : child ≡ 0 → ⊥) where
      step : Step w child a.rest
      step = walking-step w child a.rest a.walk d

      -- there is room
      pub queueing-room : next < tall
      queueing-room =
          let room = may.room in
          let all = all-long in
          let one = ap length step.split in
          let is = a.next-is in
          omega arith

      module _ (w' : List ℕ) (e : w' ≡ set w (queue + next) child) (child' : ℕ) (n : child' ≡ field sibling w' child) where
        other : (q : ℕ) → (q ≡ queue + next → ⊥) → at w' q ≡ at w q
        other = stored_other w (queue + next) child e

        same-link : (x : ℕ) → Task max_tasks x → field sibling w' x ≡ field sibling w x
        same-link x t = other (sibling + x) (λ z. omega arith)

        walk-next : Walking w' child' step.later
        walk-next =
            let b = step.next child' (n ∙ same-link child step.task) in
            walking-same w w' child' step.later (λ x m. same-link x (b.task x m)) b

        pub queueing-next : Queueing w₀ i count w' (next + 1) child'
        queueing-next =
            let long = a.long in
            let room = queueing-room in
            let is = a.next-is in
            record {
              long = stored-length w (queue + next) child e ∙ a.long;
              done = a.done ++ child ∷ [];
              rest = step.later;
              whole =
                  a.whole
                  ∙ ap (λ (l : List ℕ). a.done ++ l) step.split
                  ∙ sym (append_assoc a.done (child ∷ []) step.later);
              walk = walk-next;
              next-is = (let more = length-append a.done (child ∷ []) in omega arith);
              list =
                  part-more queue next w'
                  ∙ ap (λ (x : ℕ). reached_in w' next ++ x ∷ [])
                  (stored w (queue + next) child e (omega arith))
                  ∙ ap (λ (l : List ℕ). l ++ child ∷ [])
                  (view-same next (λ j. queue + j) w w' (λ j h. other (queue + j) (λ z. omega arith)) ∙ a.list)
                  ∙ append_assoc (reached_in w₀ count) a.done (child ∷ []);
              same = λ q h. other q (λ z. omega arith) ∙ a.same q h;
            }

        pub queueing-less : length (linked_from w' child') < length (linked_from w child)
        queueing-less = walking-less w child a.rest w' child' step.later a.walk walk-next step.split
