-- Laws of the orders of a task's children, linked one behind the other.
use mathlib.Core.Path.{◌≡◌, refl, sym, ap, ◌∙◌}
use mathlib.Core.Bool.{true}
use mathlib.Core.List.{List, [], ◌∷◌, ◌++◌, append-nil, append_assoc, flat_map}
use mathlib.Core.Logic.{◌⊎◌, ⊎_elim}
use Prim.Native.Nat.{ℕ, ◌+◌, ◌≤◌, ◌<◌}
use native.Mathlib.Omega.{arith}
use lib.ListN.{length, set}
use Rattle.numbers.specs.Sums.{Task}
use Rattle.numbers.specs.Lists.{at, mem, distinct}
use Rattle.numbers.specs.Limits.{max_tasks}
use Rattle.numbers.proofs.Tests.{clash}
use Rattle.tree.proofs.Orders.{mem-here, mem-more, mem-left, mem-right, Apart, distinct_append}
use Rattle.tree.proofs.Concatenated.{flatMap-append, mem-flatMap}
use Rattle.children.specs.Scratch.{first, sibling, head, after, cells, field}
use Rattle.children.specs.Links.{Passes}
use Rattle.children.specs.Linked.{linked_from, linked_in, Linked}
use Rattle.children.proofs.Following.{last_of, passes_same, passes_append, last_snoc}
use Rattle.children.proofs.Storing.{stored, stored_other, stored-length}
use Rattle.children.proofs.Tails.{none-or-last, last-passes, last-only}
use Rattle.children.proofs.Walking.{Walking, Step, walking-none, walking-end, walking-step, walking-less, walking-same}
use Rattle.finding.specs.Joining.{OrderAt, Joined}

-- a task ends its order
order-self : (w : List ℕ) (c : ℕ) (l : List ℕ) → OrderAt w c l → mem c l ≡ true
order-self w c l o =
    ap (mem c) o.whole ∙ mem-right c o.front (c ∷ []) (mem-here c c [] refl)

-- each child has an order, and no task stands in two
pub record Orders (w : List ℕ) (i : ℕ) (f : ℕ → List ℕ) : Type 0 where
  pub each : (c : ℕ) → mem c (linked_in w i) ≡ true → OrderAt w c (f c)
  pub once : distinct (0 ∷ flat_map f (linked_in w i)) ≡ true

-- the orders of the children passed, one behind the other from nobody's entry on
pub record Chained (w : List ℕ) (done : List ℕ) (last : ℕ) (f : ℕ → List ℕ) : Type 0 where
  pub last-is : last_of 0 (flat_map f done) ≡ last
  pub links : Passes (field after w) (field after w 0) (flat_map f done) (field after w last)

pub record Linking (w₀ w : List ℕ) (i last child : ℕ) : Type 0 where
  pub long : length w ≡ cells
  pub done : List ℕ
  pub rest : List ℕ
  pub whole : linked_in w₀ i ≡ done ++ rest
  pub walk : Walking w child rest
  pub last-is : last ≡ last_of 0 done
  pub same :
      (q : ℕ) → (q ≡ after + 0 → ⊥) → ((c : ℕ) → mem c done ≡ true → q ≡ after + c → ⊥) → at w q ≡ at w₀ q
  pub chained : (f : ℕ → List ℕ) → Orders w₀ i f → Chained w done last f

-- none is passed
pub linking-none :
    (w : List ℕ) (i child : ℕ) → Linked w i → length w ≡ cells → child ≡ field first w i → Linking w w i 0 child
unfolding last_of Passes flat_map
linking-none w i child linked long e =
    record {
      long = long;
      done = [];
      rest = linked_in w i;
      whole = refl;
      walk = walking-none w i child linked e;
      last-is = refl;
      same = λ q d n. refl;
      chained = λ f o. record { last-is = refl; links = refl };
    }

module _ (w₀ w : List ℕ) (i last child : ℕ) (linked : Linked w₀ i) (l : Linking w₀ w i last child) where
  done-mem : (x : ℕ) → mem x l.done ≡ true → mem x (linked_in w₀ i) ≡ true
  done-mem x m = ap (mem x) l.whole ∙ mem-left x l.done l.rest m

  rest-mem : (x : ℕ) → mem x l.rest ≡ true → mem x (linked_in w₀ i) ≡ true
  rest-mem x m = ap (mem x) l.whole ∙ mem-right x l.done l.rest m

  -- the last one is nobody or one of those passed
  last-passed : (last ≡ 0) ⊎ (mem last l.done ≡ true)
  last-passed = none-or-last last l.done l.last-is

  pub linking-low : last ≤ max_tasks
  linking-low = ⊎_elim (λ z. omega arith) (λ m. (linked.each last (done-mem last m)).high) last-passed

  -- the orders of those passed and of those left have no task in common
  apart : (f : ℕ → List ℕ) → Orders w₀ i f → Apart (0 ∷ flat_map f l.done) (flat_map f l.rest)
  apart f o =
      let split : flat_map f (linked_in w₀ i) ≡ flat_map f l.done ++ flat_map f l.rest
      = ap (flat_map f) l.whole ∙ flatMap-append f l.done l.rest in
      distinct_append (0 ∷ flat_map f l.done) (flat_map f l.rest)
      (sym (ap (λ (k : List ℕ). distinct (0 ∷ k)) split) ∙ o.once)

  other-than :
      (f : ℕ → List ℕ) (o : Orders w₀ i f) (x : ℕ)
      → mem x (flat_map f l.rest) ≡ true
      → (x ≡ 0 → ⊥) × ((c : ℕ) → mem c l.done ≡ true → x ≡ c → ⊥)
  other-than f o x m = (
    (λ q. clash m (ap (λ (k : ℕ). mem k (flat_map f l.rest)) q
        ∙ (apart f o).apart 0 (mem-here 0 0 (flat_map f l.done) refl))),
    (λ c d q. clash m (ap (λ (k : ℕ). mem k (flat_map f l.rest)) q
        ∙ (apart f o).apart c
        (mem-more c 0 (flat_map f l.done)
        (mem-flatMap f l.done c c d (order-self w₀ c (f c) (o.each c (done-mem c d))))))),
  )

  -- the last one is linked to v
  module _ (v : ℕ) (w' : List ℕ) (e : w' ≡ set w (after + last) v) where
    redirected :
        (f : ℕ → List ℕ) → Orders w₀ i f → Passes (field after w') (field after w' 0) (flat_map f l.done) v
    redirected f o =
        let c = l.chained f o in
        let long = l.long in
        let low = linking-low in
        last-passes after w last v e (flat_map f l.done) (sym c.last-is) (omega arith) (apart f o).first c.links

    old : (q : ℕ) → (q ≡ after + 0 → ⊥) → ((c : ℕ) → mem c l.done ≡ true → q ≡ after + c → ⊥) → at w' q ≡ at w₀ q
    old q none d = last-only after w last v e l.done l.last-is q none d ∙ l.same q none d

    sized : length w' ≡ cells
    sized = stored-length w (after + last) v e ∙ l.long

  -- one child more
  module _ (d : child ≡ 0 → ⊥) where
    step : Step w child l.rest
    step = walking-step w child l.rest l.walk d

    -- where its order begins
    child-head : field head w child ≡ field head w₀ child
    child-head =
        let t = step.task in l.same (head + child) (λ z. omega arith) (λ c m z. omega arith)

    module _ (w' : List ℕ) (e : w' ≡ set w (after + last) (field head w child)) (next : ℕ) (n : next ≡ field sibling w' child) where
      same-link : (x : ℕ) → Task max_tasks x → field sibling w' x ≡ field sibling w x
      same-link x t = stored_other w (after + last) (field head w child) e (sibling + x) (λ z. omega arith)

      walk-next : Walking w' next step.later
      walk-next =
          let b = step.next next (n ∙ same-link child step.task) in
          walking-same w w' next step.later (λ x m. same-link x (b.task x m)) b

      -- its order, behind those before it
      chain_next : (f : ℕ → List ℕ) → Orders w₀ i f → Chained w' (l.done ++ child ∷ []) child f
      unfolding Passes flat_map
      chain_next f o =
          let in_rest : (x : ℕ) → mem x (f child) ≡ true → mem x (flat_map f l.rest) ≡ true
          = λ x m.
          mem-flatMap f l.rest child x (ap (mem child) step.split ∙ mem-here child child step.later refl) m in
          let own = o.each child (rest-mem child (ap (mem child) step.split ∙ mem-here child child step.later refl)) in
          let flat : flat_map f (l.done ++ child ∷ []) ≡ flat_map f l.done ++ (own.front ++ child ∷ [])
          = flatMap-append f l.done (child ∷ [])
          ∙ ap (λ (k : List ℕ). flat_map f l.done ++ k) (append-nil (f child) ∙ own.whole) in
          let front : Passes (field after w') (field head w child) own.front child
          = rw child-head
          (passes_same (field after w₀) (field after w') (field head w₀ child) own.front child
          (λ x m.
          let apart_from = other-than f o x
          (in_rest x (ap (mem x) own.whole ∙ mem-left x own.front (child ∷ []) m)) in
          old (field head w child) w' e (after + x) (λ z. apart_from.0 (omega arith))
          (λ c h z. apart_from.1 c h (omega arith)))
          own.links) in
          record {
            last-is =
                ap (last_of 0) (flat ∙ sym (append_assoc (flat_map f l.done) own.front (child ∷ [])))
                ∙ last_snoc 0 (flat_map f l.done ++ own.front) child;
            links =
                rw flat
                (passes_append (field after w') (field after w' 0) (flat_map f l.done) (field head w child)
                (own.front ++ child ∷ []) (field after w' child)
                (redirected (field head w child) w' e f o)
                (passes_append (field after w') (field head w child) own.front child (child ∷ []) (field after w' child) front
                (refl, refl)));
          }

      pub linking-next : Linking w₀ w' i child next
      linking-next =
          record {
            long = sized (field head w child) w' e;
            done = l.done ++ child ∷ [];
            rest = step.later;
            whole =
                l.whole
                ∙ ap (λ (k : List ℕ). l.done ++ k) step.split
                ∙ sym (append_assoc l.done (child ∷ []) step.later);
            walk = walk-next;
            last-is = sym (last_snoc 0 l.done child);
            same = λ q none other-child.
                old (field head w child) w' e q none
                (λ c m. other-child c (mem-left c l.done (child ∷ []) m));
            chained = chain_next;
          }

      pub linking-less : length (linked_from w' next) < length (linked_from w child)
      linking-less = walking-less w child l.rest w' next step.later l.walk walk-next step.split

  -- all children, and the task behind them
  pub linking-end :
      child ≡ 0
      → (w₁ : List ℕ)
      → w₁ ≡ set w (after + last) i
      → (w₂ : List ℕ)
      → w₂ ≡ set w₁ (head + i) (field after w₁ 0)
      → Joined w₀ i w₂
  linking-end z w₁ e₁ w₂ e₂ =
      let none : l.rest ≡ [] = walking-end w child l.rest l.walk z in
      let all : linked_in w₀ i ≡ l.done = l.whole ∙ ap (λ (k : List ℕ). l.done ++ k) none ∙ append-nil l.done in
      let t = linked.task in
      let long : length w₁ ≡ cells = sized i w₁ e₁ in
      let begins : field head w₂ i ≡ field after w₁ 0 = stored w₁ (head + i) (field after w₁ 0) e₂ (omega arith) in
      record {
        long = stored-length w₁ (head + i) (field after w₁ 0) e₂ ∙ long;
        order = λ f each once.
            record {
              front = flat_map f (linked_in w₀ i);
              whole = refl;
              links =
                  rw (begins, all)
                  (passes_same (field after w₁) (field after w₂) (field after w₁ 0) (flat_map f l.done) i
                  (λ x m. stored_other w₁ (head + i) (field after w₁ 0) e₂ (after + x) (λ q. omega arith))
                  (redirected i w₁ e₁ f (record { each = each; once = once })));
            };
        same = λ q not-head nobody-link d. stored_other w₁ (head + i) (field after w₁ 0) e₂ q not-head ∙ old i w₁ e₁ q nobody-link (λ c m. d c (done-mem c m));
      }
