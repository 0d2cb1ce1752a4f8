-- The words that `Plan::new` gives: a valid plan, the empty plan of the rules.
use mathlib.Core.Path.{◌≡◌, refl, sym, ap, subst, ◌∙◌}
use mathlib.Core.Logic.{⊎_elim}
use mathlib.Core.List.{List}
use Prim.Native.Nat.{ℕ, suc, ◌+◌, ◌≤◌, ◌<◌}
use native.Mathlib.Omega.{arith}
use lib.Dec.{leb}
use lib.ListN.{length, take, replicate, length-replicate, get_or-replicate, get_or-eq_default}
use Rattle.books.specs.Kind.{each}
use Rattle.numbers.specs.Sums.{only}
use Rattle.numbers.specs.Limits.{max_tasks}
use Rattle.numbers.specs.Lists.{at}
use Rattle.rules.specs.Phase
use Rattle.rules.specs.State.{State, none}
use Rattle.rules.specs.Reachable.{Reachable, start}
use Rattle.numbers.proofs.Tests.{le-or-lt}
use Rattle.words.specs.Layout.{words, head_base}
use Rattle.words.specs.Views.{column}
use Rattle.words.specs.Contents.{store_contents, contents}
use Rattle.words.proofs.Views.{column-length}
use Rattle.store.specs.Rows.{ZeroPast}
use Rattle.answer.specs.Meaning.{plan_of}
use Rattle.answer.specs.Sound.{Unused, Sound}
use Rattle.answer.specs.ValidPlan.{ValidPlan, NewPlan}
use Rattle.opening.proofs.Opening.{Blank, blank}

pub new-long : {w : List ℕ} → NewPlan w → length w ≡ words
new-long e = ap length e ∙ length-replicate {A = ℕ} words 0

new-zero : {w : List ℕ} → NewPlan w → (q : ℕ) → at w q ≡ 0
new-zero {w = w} e q =
    ap (λ (l : List ℕ). at l q) e
    ∙ ⊎_elim
    (λ (h : words ≤ q). get_or-eq_default (replicate {A = ℕ} words 0) 0 {n = q} (let l = length-replicate {A = ℕ} words 0 in omega arith))
    (λ (h : q < words). get_or-replicate words q 0 0 h)
    (le-or-lt words q)

module _ {w : List ℕ} (new : NewPlan w) where
  past : (k : ℕ) → ZeroPast max_tasks (column k w)
  past k a h = get_or-eq_default (column k w) 0 (let l = column-length k w in omega arith)

  -- nothing is written in them
  pub new-blank : Blank (contents w)
  unfolding contents store_contents
  new-blank =
      blank {n = max_tasks} {w = w} {w' = w} (omega arith) (new-long new)
      (record {
        size = refl;
        rows = λ q _. new-zero new q;
        later_rows = λ _ _ _. refl;
        head = λ q _ _. new-zero new q;
        ready = λ q _ _. new-zero new q;
      })
      (record {
        parents = past 0;
        works = past 5;
        outs = past 6;
        day = record { unended = past 3; standings = past 4; needs = past 7; booked = past 8; figures = past 9 };
      })

  head : (k : ℕ) → at w (head_base + k) ≡ 0
  head k = new-zero new (head_base + k)

  -- they mean the empty plan
  pub new-empty : plan_of w ≡ none
  unfolding contents store_contents
  new-empty =
      λ z.
      record {
        phase = head 0 z;
        size = head 1 z;
        processors = head 2 z;
        parents = take (head 3 z) (contents w).parents;
        activation = take (head 4 z) (contents w).activation;
        execution = take (head 8 z) (contents w).execution;
        standings = take (only (leb Phase.running (head 0 z)) (suc (head 1 z))) (contents w).standings;
        stores =
            each
            (λ _.
            record {
              bound = head 5 z;
              works = take (head 3 z) (contents w).stores.chilled.works;
              outs = take (head 3 z) (contents w).stores.chilled.outs;
              booked = take (only (leb Phase.running (head 0 z)) (suc (head 1 z))) (contents w).stores.chilled.booked;
            });
      }

  unused : (l : List ℕ) → ((a : ℕ) → at l a ≡ 0) → Unused (contents w).given l
  unused l z = record { nobody = z 0; later = λ a _. z a }

  new-sound : Sound (contents w)
  unfolding contents store_contents
  new-sound =
      let b = new-blank in
      let phase = head 0 in
      let size = head 1 in
      let processors = head 2 in
      let given = head 3 in
      let ranked = head 4 in
      let bound = head 5 in
      let placed = head 8 in
      record {
        long = new-long new;
        named = omega arith;
        small = omega arith;
        few = omega arith;
        bounded = omega arith;
        light = λ i. let x = b.works i in let y = b.outs i in (omega arith, omega arith);
        parents = unused (contents w).parents b.parents;
        works = unused (contents w).stores.chilled.works b.works;
        outs = unused (contents w).stores.chilled.outs b.outs;
        given =
            record {
              unopened = λ _. given;
              in_steps = λ e. absurd (omega arith);
              whole = λ h. absurd (omega arith);
              some = λ h. absurd (omega arith);
            };
        activation = record { few = omega arith; noted = λ e h. absurd (omega arith) };
        execution = record { few = omega arith; noted = λ e h. absurd (omega arith) };
        rest = λ _. b.rest;
        day = λ h. absurd (omega arith);
      }

  -- and are a valid plan
  pub new-valid : ValidPlan w
  new-valid = record { reached = subst (λ (s : State). Reachable s) (sym new-empty) start; sound = new-sound }
