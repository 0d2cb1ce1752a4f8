-- Laws of what `find_order` answers, by the rules.
use mathlib.Core.Path.{◌≡◌, sym, ap, ap₂, ◌∙◌}
use mathlib.Core.Bool.{true, false, cond}
use mathlib.Core.List.{List, ◌++◌}
use Prim.Native.Nat.{ℕ, ◌≤◌, ◌<◌}
use lib.Dec.{eqb}
use lib.ListN.{length, drop}
use borrow.Author.Tests.{eq-eqb, ne_eqb, le-leb}
use Rattle.numbers.specs.Lists.{at}
use Rattle.rules.specs.Phase
use Rattle.tree.specs.Tree.{roots, root}
use Rattle.rules.specs.Answer.{front}
use Rattle.streams.specs.Write.{Wrote, untouched, at_front}
use Rattle.postorders.specs.Postorder.{best_postorder}
use Rattle.postorders.specs.Find.{found_below, found, find_ground, find_order}
use Rattle.postorders.proofs.Find.{find-early, find-several, every-find-holds}
use Rattle.words.specs.Contents.{contents}
use Rattle.answer.specs.Meaning.{plan_of}
use Rattle.answer.specs.ValidPlan.{ValidPlan}
use Rattle.answer.proofs.Meant.{parents-meant, works-meant, outs-meant, parents-small}
use Rattle.finding.specs.Finding.{MayFind, find_number, Finds}

module _ (w : List ℕ) (valid : ValidPlan w) where
  abbrev n : ℕ
  n = (contents w).size

  abbrev par : ℕ → ℕ
  par = at (contents w).parents

  abbrev work : ℕ → ℕ
  work = at (contents w).stores.chilled.works

  abbrev out : ℕ → ℕ
  out = at (contents w).stores.chilled.outs

  same-parents : at (plan_of w).parents ≡ par
  same-parents = parents-meant (contents w) valid.sound

  pub may-find : roots n par ≡ 1 → MayFind n par work out
  may-find one =
      record {
        light =
            record {
              parented =
                  record {
                    small = valid.sound.small;
                    inside = λ i t. parents-small (contents w) valid.sound valid.reached i;
                  };
              works = λ i. (valid.sound.light i).0;
              outs = λ i. (valid.sound.light i).1;
            };
        one = one;
      }

  module _ (list : List ℕ) where
    -- 3 and 7
    pub told-early : (contents w).phase < Phase.orders → untouched 3 list ≡ find_order (plan_of w) list
    told-early early = sym (find-early (plan_of w) list early)

    pub told-several :
        Phase.orders ≤ (contents w).phase → (roots n par ≡ 1 → ⊥) → untouched 7 list ≡ find_order (plan_of w) list
    told-several given several =
        sym (find-several (plan_of w) list given (λ one. several (sym (ap (roots n) same-parents) ∙ one)))

    module _ (given : Phase.orders ≤ (contents w).phase) (one : roots n par ≡ 1) where
      ground-is : find_ground (plan_of w) (length list) ≡ find_number n par (length list)
      unfolding find_ground find_number
      ground-is = rw (le-leb Phase.orders (contents w).phase given, same-parents, eq-eqb (roots n par) 1 one)

      find-is :
          find_order (plan_of w) list
          ≡ cond (eqb (find_number n par (length list)) 0) (at_front (found (plan_of w)) list)
          (untouched (find_number n par (length list)) list)
      unfolding find_order
      find-is =
          ap (λ (k : ℕ). cond (eqb k 0) (at_front (found (plan_of w)) list) (untouched k list)) ground-is

      module _ (list' : List ℕ) (r : ℕ) (f : Finds n par work out list list' r) where
        -- 12 and 11
        pub told-refused : (r ≡ 0 → ⊥) → untouched r list' ≡ find_order (plan_of w) list
        told-refused d =
            let no : eqb (find_number n par (length list)) 0 ≡ false
            = ne_eqb (find_number n par (length list)) 0 (λ z. d (f.number ∙ z)) in
            let same : list' ≡ list = rw no at f.list_is in
            ap₂ untouched f.number same ∙ sym (rw no at find-is)

        -- the order
        found_is : found (plan_of w) ≡ best_postorder n n par work out (root n par)
        unfolding found found_below
        found_is =
            rw (same-parents, works-meant (contents w) valid.sound, outs-meant (contents w) valid.sound)

        pub told-found :
            r ≡ 0 → ◌≡◌ {A = Wrote} (record { number = 0; count = n; list = list' }) (find_order (plan_of w) list)
        unfolding at_front front
        told-found z =
            let yes : eqb (find_number n par (length list)) 0 ≡ true
            = eq-eqb (find_number n par (length list)) 0 (sym f.number ∙ z) in
            let answer : find_order (plan_of w) list ≡ at_front (found (plan_of w)) list = rw yes at find-is in
            let long : length (found (plan_of w)) ≡ n
            = sym (ap (λ (a : Wrote). a.count) answer)
            ∙ (every-find-holds.lists (plan_of w) valid.reached list).count (ap (λ (a : Wrote). a.number) answer) in
            let wrote : list' ≡ best_postorder n n par work out (root n par) ++ drop n list = rw yes at f.list_is in
            let whole : list' ≡ front (found (plan_of w)) list
            = wrote
            ∙ ap (λ (l : List ℕ). l ++ drop n list) (sym found_is)
            ∙ ap (λ (k : ℕ). found (plan_of w) ++ drop k list) (sym long) in
            let same : ◌≡◌ {A = Wrote} (record { number = 0; count = n; list = list' }) (at_front (found (plan_of w)) list)
            = ap₂ (λ (k : ℕ) (l : List ℕ). record { number = 0; count = k; list = l }) (sym long) whole in
            same ∙ sym answer
