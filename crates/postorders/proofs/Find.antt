-- What the tool that finds an order answers, case by case, and that this is what is promised.
use mathlib.Core.Path.{◌≡◌, refl, sym, ap, ◌∙◌}
use mathlib.Core.Bool.{true, false}
use mathlib.Core.Logic.{⊎_elim}
use mathlib.Core.List.{List}
use Prim.Native.Nat.{ℕ, ◌≤◌, ◌<◌}
use native.Mathlib.Omega.{arith}
use borrow.Author.Tests.{eq-eqb, ne_eqb, le-leb, lt-leb}
use lib.ListN.{length, drop, length-append, length-drop}
use lib.Seq.{take_at, drop_at}
use Rattle.numbers.specs.Sums.{Task}
use Rattle.numbers.specs.Lists.{at, mem}
use Rattle.tree.specs.Tree.{roots, chain}
use Rattle.rules.specs.Phase
use Rattle.rules.specs.State.{State, root_of}
use Rattle.rules.specs.Answer.{front}
use Rattle.rules.specs.Reachable.{Reachable}
use Rattle.streams.specs.Write.{Wrote, untouched, at_front}
use Rattle.postorders.specs.Find.{all_reach, found, find_ground, find_order}
use Rattle.postorders.specs.FindHolds.{FoundHolds, OneRoot, Reaches, Rooted, FindHolds, EveryFindHolds}
use Rattle.numbers.proofs.Tests.{decide, clash, same_or_not, le-or-lt}
use Rattle.numbers.proofs.Sums.{every_one, not-every}
use Rattle.streams.proofs.Alike.{refused-alike, granted-alike}
use Rattle.postorders.proofs.FoundOrder.{postorder-valid, found-alone, reach-soon, found-holds}

-- one equation a branch
module _ (s : State) (list : List ℕ) where
  pub find-early : s.phase < Phase.orders → find_order s list ≡ untouched 3 list
  unfolding find_order find_ground
  find-early early = rw (lt-leb Phase.orders s.phase early)

  pub find-several :
      Phase.orders ≤ s.phase → (OneRoot s → ⊥) → find_order s list ≡ untouched 7 list
  unfolding find_order find_ground
  find-several given several = rw (le-leb Phase.orders s.phase given, ne_eqb (roots s.size (at s.parents)) 1 several)

  find-stray :
      Phase.orders ≤ s.phase
      → OneRoot s
      → all_reach s.size (at s.parents) ≡ false
      → find_order s list ≡ untouched 12 list
  unfolding find_order find_ground
  find-stray given one stray =
      rw (le-leb Phase.orders s.phase given, eq-eqb (roots s.size (at s.parents)) 1 one, stray)

  find-short :
      Phase.orders ≤ s.phase
      → OneRoot s
      → all_reach s.size (at s.parents) ≡ true
      → length list < s.size
      → find_order s list ≡ untouched 11 list
  unfolding find_order find_ground
  find-short given one rooted short =
      rw (
        le-leb Phase.orders s.phase given,
        eq-eqb (roots s.size (at s.parents)) 1 one,
        rooted,
        lt-leb s.size (length list) short,
      )

  find-found :
      Phase.orders ≤ s.phase
      → OneRoot s
      → all_reach s.size (at s.parents) ≡ true
      → s.size ≤ length list
      → find_order s list ≡ at_front (found s) list
  unfolding find_order find_ground
  find-found given one rooted room =
      rw (
        le-leb Phase.orders s.phase given,
        eq-eqb (roots s.size (at s.parents)) 1 one,
        rooted,
        le-leb s.size (length list) room,
      )

-- the test of the chains of parents, and what it says
module _ (s : State) where
  pub test-reaches : all_reach s.size (at s.parents) ≡ true → (i : ℕ) → Task s.size i → Reaches s i
  unfolding all_reach
  test-reaches e i t = (
    s.size,
    every_one (λ i. mem (root_of s) (chain s.size (at s.parents) i)) s.size i e t,
  )

  test-stray :
      Reachable s
      → OneRoot s
      → all_reach s.size (at s.parents) ≡ false
      → (i : ℕ) × Task s.size i × (Reaches s i → ⊥)
  unfolding all_reach
  test-stray reached one e =
      let k =
      not-every (λ i. mem (root_of s) (chain s.size (at s.parents) i)) s.size e in
      (k.0, k.1, (λ far. clash (reach-soon s reached one k.0 k.1 far) k.2))

-- the five cases
by-case :
    {A : Type 0} (s : State) (list : List ℕ)
    → (s.phase < Phase.orders → A)
    → (Phase.orders ≤ s.phase → (OneRoot s → ⊥) → A)
    → (Phase.orders ≤ s.phase → OneRoot s → all_reach s.size (at s.parents) ≡ false → A)
    → (Rooted s → all_reach s.size (at s.parents) ≡ true → length list < s.size → A)
    → (Rooted s → all_reach s.size (at s.parents) ≡ true → s.size ≤ length list → A)
    → A
by-case s list early several stray short granted =
    ⊎_elim
    (λ given.
    ⊎_elim
    (λ one.
    ⊎_elim
    (λ (e : all_reach s.size (at s.parents) ≡ true).
    let rooted : Rooted s = record { whole = given; one = one; reach = test-reaches s e } in
    ⊎_elim (granted rooted e) (short rooted e) (le-or-lt s.size (length list)))
    (stray given one)
    (decide (all_reach s.size (at s.parents))))
    (several given)
    (same_or_not (roots s.size (at s.parents)) 1))
    early
    (le-or-lt Phase.orders s.phase)

-- a refusal, and a list with the order at its front
refusal-holds :
    (s : State) (list : List ℕ) (k : ℕ)
    → (k ≡ 0 → ⊥)
    → (s.phase < Phase.orders → k ≡ 3)
    → (Phase.orders ≤ s.phase → (OneRoot s → ⊥) → k ≡ 7)
    → (Phase.orders ≤ s.phase → OneRoot s → (i : ℕ) → Task s.size i → (Reaches s i → ⊥) → k ≡ 12)
    → (Rooted s → length list < s.size → k ≡ 11)
    → (Rooted s → s.size ≤ length list → ⊥)
    → FindHolds s list (untouched k list)
unfolding untouched
refusal-holds s list k some early several stray short granted =
    record {
      early = early;
      several = several;
      stray = stray;
      short = short;
      granted = λ rooted room. absurd (granted rooted room);
      refusal = λ _. (refl, refl);
      count = λ e. absurd (some e);
      front = λ e. absurd (some e);
      order = λ e. absurd (some e);
      past = refl;
      long = refl;
    }

front-holds :
    (s : State) (list : List ℕ)
    → Rooted s
    → s.size ≤ length list
    → FoundHolds s (found s)
    → FindHolds s list (at_front (found s) list)
unfolding at_front front
front-holds s list rooted room holds =
    let long : length (found s) ≡ s.size = (postorder-valid s (found s) holds.kind).whole in
    let taken = take_at (found s) (drop (length (found s)) list) s.size long in
    record {
      early = λ early. let given = rooted.whole in absurd (omega arith);
      several = λ _ several. absurd (several rooted.one);
      stray = λ _ _ i t stray. absurd (stray (rooted.reach i t));
      short = λ _ short. absurd (omega arith);
      granted = λ _ _. refl;
      refusal = λ d. absurd (d refl);
      count = λ _. long;
      front = λ _. taken;
      order = λ _. rw taken holds;
      past =
          drop_at (found s) (drop (length (found s)) list) s.size long ∙ ap (λ (k : ℕ). drop k list) long;
      long = rw (length-append, length-drop) (omega arith);
    }

list-holds : (s : State) → Reachable s → (list : List ℕ) → FindHolds s list (find_order s list)
list-holds s reached list =
    by-case s list
    (λ early.
    rw (find-early s list early)
    (refusal-holds s list 3 (λ e. omega arith) (λ _. refl) (λ given _. absurd (omega arith))
    (λ given _. absurd (omega arith)) (λ rooted _. let given = rooted.whole in absurd (omega arith))
    (λ rooted _. let given = rooted.whole in omega arith)))
    (λ given several.
    rw (find-several s list given several)
    (refusal-holds s list 7 (λ e. omega arith) (λ early. absurd (omega arith)) (λ _ _. refl)
    (λ _ one. absurd (several one)) (λ rooted _. absurd (several rooted.one)) (λ rooted _. several rooted.one)))
    (λ given one e.
    let stray = test-stray s reached one e in
    rw (find-stray s list given one e)
    (refusal-holds s list 12 (λ e. omega arith) (λ early. absurd (omega arith)) (λ _ several. absurd (several one))
    (λ _ _ _ _ _. refl) (λ rooted _. absurd (stray.2 (rooted.reach stray.0 stray.1)))
    (λ rooted _. stray.2 (rooted.reach stray.0 stray.1))))
    (λ rooted e short.
    let given = rooted.whole in
    rw (find-short s list given rooted.one e short)
    (refusal-holds s list 11 (λ e. omega arith) (λ early. absurd (omega arith))
    (λ _ several. absurd (several rooted.one)) (λ _ _ i t stray. absurd (stray (rooted.reach i t))) (λ _ _. refl)
    (λ _ room. omega arith)))
    (λ rooted e room.
    rw (find-found s list rooted.whole rooted.one e room)
    (front-holds s list rooted room (found-holds s reached rooted)))

pub every-find-holds : EveryFindHolds
every-find-holds = record { lists = list-holds; alone = found-alone }

-- no other answer and no other list would do
pub one-find :
    (s : State) → Reachable s → (list : List ℕ) (w w' : Wrote) → FindHolds s list w → FindHolds s list w' → w ≡ w'
one-find s reached list w w' h h' =
    by-case s list
    (λ early. refused-alike w w' list 3 (λ e. omega arith) (h.early early) (h'.early early) h.refusal h'.refusal)
    (λ given several.
    refused-alike w w' list 7 (λ e. omega arith) (h.several given several) (h'.several given several) h.refusal h'.refusal)
    (λ given one e.
    let k = test-stray s reached one e in
    refused-alike w w' list 12 (λ e. omega arith) (h.stray given one k.0 k.1 k.2)
    (h'.stray given one k.0 k.1 k.2) h.refusal h'.refusal)
    (λ rooted _ short.
    refused-alike w w' list 11 (λ e. omega arith) (h.short rooted short) (h'.short rooted short) h.refusal h'.refusal)
    (λ rooted _ room.
    let e = h.granted rooted room in
    let e' = h'.granted rooted room in
    granted-alike w w' s.size (e ∙ sym e') (h.count e ∙ sym (h'.count e')) (h.front e ∙ sym (h'.front e'))
    (h.past ∙ sym h'.past))
