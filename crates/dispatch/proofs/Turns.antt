-- The climb over the words of a plan, one turn after the other.
use mathlib.Core.Path.{◌≡◌, refl, sym, ap, subst, ◌∙◌}
use Prim.Native.Nat.{ℕ, ◌+◌, ◌-◌, ◌≤◌, ◌<◌}
use native.Mathlib.Omega.{arith}
use lib.ListN.{length, set}
use lib.Seq.{get_or-set_other}
use Rattle.books.specs.Kind
use Rattle.numbers.specs.Lists.{at}
use Rattle.books.specs.Standing.{waiting}
use Rattle.tree.specs.Tree.{chain}
use Rattle.words.specs.Layout.{rows}
use Rattle.words.specs.Contents.{Contents}
use Rattle.words.proofs.Contents.{Lengths}
use Rattle.store.specs.Rows.{terms_in}
use Rattle.store.specs.Store.{with_store, with_holdings, AtTask, gift, passed, MayPass, rested}
use Rattle.dispatch.specs.Climb.{MayClimb, climb_from, with_carried, DidClimb}
use Rattle.dispatch.proofs.Way.{Way, way-first, way-root, way-nothing, way-shorter, waiting-room, way-waiting, figure-room, gift-fits, booked_fits, way_next}

-- between two turns: i is the next task, `left` goes up, and nothing else has changed
pub record Climbing (x r : ℕ) (c₀ c : Contents) (i left offers : ℕ) : Type 0 where
  pub same : c ≡ with_carried c.stores.chilled.booked c.stores.chilled.figures c₀
  pub way :
      Way c₀.size (at c₀.parents) (terms_in c₀) (at c₀.standings) (climb_from x r c₀) c₀.stores.chilled.booked
      c.stores.chilled.booked c.stores.chilled.figures i left offers
  pub past : (a : ℕ) → c₀.size < a → at c.stores.chilled.figures a ≡ at c₀.stores.chilled.figures a

-- the tasks that are still above
abbrev pub above : Contents → ℕ → ℕ
above c i = length (chain c.size (at c.parents) i)

module _ {store x r : ℕ} {c₀ : Contents} (may : MayClimb store x r c₀) where
  pub below_in : x < rows
  below_in = let t = may.carrying.task.high in let s = may.carrying.small in omega arith

  pub climb-first : {i : ℕ} → Lengths c₀ → i ≡ at c₀.parents x → Climbing x r c₀ c₀ i r 0
  unfolding with_store with_holdings
  climb-first long e =
      record {
        same = λ _. c₀;
        way =
            subst
            (λ (k : ℕ).
            Way c₀.size (at c₀.parents) (terms_in c₀) (at c₀.standings) (climb_from x r c₀) c₀.stores.chilled.booked
            c₀.stores.chilled.booked c₀.stores.chilled.figures k r 0)
            (sym e)
            (way-first c₀.size (at c₀.parents) (terms_in c₀) (at c₀.standings) c₀.stores.chilled.booked
            c₀.stores.chilled.figures x r may.carrying (long.booked Kind.chilled) (long.figures Kind.chilled));
        past = λ _ _. refl;
      }

  module _ {c : Contents} {i left offers : ℕ} (climbing : Climbing x r c₀ c i left offers) where
    pub turn_in : i < rows
    turn_in = let m = climbing.way.inside in let s = may.carrying.small in omega arith

    pub standing_is : at c.standings i ≡ at c₀.standings i
    unfolding with_store with_holdings
    standing_is = ap (λ (d : Contents). at d.standings i) climbing.same

    at_task : AtTask store i c
    unfolding with_store with_holdings
    at_task =
        record {
          long = ap (λ (d : Contents). d.extent) climbing.same ∙ may.long;
          offset = may.offset;
          inside = (let o = may.offset in omega arith);
          task_in = turn_in;
        }

    -- a figure of a task is written
    past-set : (v : ℕ) (a : ℕ) → c₀.size < a → at (set c.stores.chilled.figures i v) a ≡ at c₀.stores.chilled.figures a
    past-set v a h =
        let m = climbing.way.inside in
        get_or-set_other c.stores.chilled.figures i a v 0 (λ e. omega arith) ∙ climbing.past a h

    -- past the root
    pub climb-root : i ≡ 0 → DidClimb x r c₀ c offers left
    climb-root z = record { same = climbing.same; carried = way-root climbing.way z; past = climbing.past }

    -- nothing is left
    pub climb-nothing : left ≡ 0 → DidClimb x r c₀ c offers left
    climb-nothing z = record { same = climbing.same; carried = way-nothing climbing.way z; past = climbing.past }

    module _ (higher : i ≡ 0 → ⊥) where
      -- a waiting task
      module _ (waits : at c.standings i ≡ waiting) where
        still : at c₀.standings i ≡ waiting
        still = sym standing_is ∙ waits

        pub may-rest : AtTask store i c × (left ≤ at c.stores.chilled.figures i)
        may-rest = (at_task, waiting-room climbing.way higher still)

        pub climb-waiting : {c' : Contents} → c' ≡ with_store Kind.chilled (rested i left c.stores.chilled) c → DidClimb x r c₀ c' offers left
        unfolding with_store with_holdings rested
        climb-waiting e =
            subst (λ (d : Contents). DidClimb x r c₀ d offers left) (sym e)
            (record {
              same =
                  ap (with_carried (rested i left c.stores.chilled).booked (rested i left c.stores.chilled).figures) climbing.same;
              carried = way-waiting climbing.way higher still;
              past = past-set (at c.stores.chilled.figures i - left);
            })

      -- a task that is offered what it lacks
      module _ (busy : at c.standings i ≡ waiting → ⊥) where
        active : at c₀.standings i ≡ waiting → ⊥
        active w = busy (standing_is ∙ w)

        lacks : gift i left c.stores.chilled ≡ at c₀.stores.chilled.needs i - (at c.stores.chilled.figures i - left)
        unfolding gift with_store with_holdings
        lacks = ap (λ (d : Contents). at d.stores.chilled.needs i - (at c.stores.chilled.figures i - left)) climbing.same

        pub may-pass : MayPass store i left c
        may-pass =
            record {
              at_task = at_task;
              figure_has = figure-room climbing.way higher active;
              gift_small = gift-fits climbing.way higher active (gift i left c.stores.chilled) lacks;
              booked_fits = booked_fits climbing.way higher active (gift i left c.stores.chilled) lacks;
            }

        -- and behind it the climb goes on from its parent
        module _ {c' : Contents} {i' : ℕ} (passes : c' ≡ with_store Kind.chilled (passed i left c.stores.chilled) c)
            (rises : i' ≡ at c'.parents i) where
          parent_is : i' ≡ at c₀.parents i
          unfolding with_store with_holdings
          parent_is =
              rises ∙ ap (λ (d : Contents). at d.parents i) passes ∙ ap (λ (d : Contents). at d.parents i) climbing.same

          pub climb-shorter : above c₀ i' < above c₀ i
          climb-shorter =
              subst (λ (k : ℕ). above c₀ k < above c₀ i) (sym parent_is) (way-shorter climbing.way higher)

          pub climb-next :
              {left' : ℕ}
              → left' ≡ left - gift i left c.stores.chilled
              → (left ≡ 0 → ⊥)
              → Climbing x r c₀ c' i' left' (offers + 1)
          unfolding with_store with_holdings passed
          climb-next e some =
              subst (λ (v : ℕ). Climbing x r c₀ c' i' v (offers + 1)) (sym e)
              (subst (λ (k : ℕ). Climbing x r c₀ c' k (left - gift i left c.stores.chilled) (offers + 1)) (sym parent_is)
              (subst (λ (d : Contents). Climbing x r c₀ d (at c₀.parents i) (left - gift i left c.stores.chilled) (offers + 1)) (sym passes)
              (record {
                same =
                    ap (with_carried (passed i left c.stores.chilled).booked (passed i left c.stores.chilled).figures) climbing.same;
                way = way_next climbing.way higher active (gift i left c.stores.chilled) lacks some;
                past = past-set (at c.stores.chilled.figures i - left + gift i left c.stores.chilled);
              })))
