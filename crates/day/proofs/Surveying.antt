-- The survey of a plan whose activation order is whole: what it asks, and that it answers the ground and the peak of the rules.
use mathlib.Core.Path.{◌≡◌, sym, ap, ap₂, subst, ◌∙◌}
use mathlib.Core.Bool.{Bool, true, cond}
use mathlib.Core.List.{List}
use Prim.Native.Nat.{ℕ, ◌<◌}
use native.Mathlib.Omega.{arith}
use lib.ListN.{length, take}
use lib.Seq.{get_or-take}
use borrow.Author.Tests.{eq-eqb}
use Rattle.numbers.specs.Sums.{within}
use Rattle.books.specs.Kind.{chilled}
use Rattle.numbers.specs.Lists.{at, every, distinct}
use Rattle.tree.specs.Tasks
use Rattle.tree.specs.Peak.{Peaked, peaked, no_peak}
use Rattle.rules.specs.Grounds as grounds
use Rattle.rules.specs.Reachable.{Reachable}
use Rattle.rules.proofs.Formed.{Formed}
use Rattle.rules.proofs.Reaching.{lives}
use Rattle.words.specs.Contents.{Contents}
use Rattle.words.proofs.Contents.{Lengths}
use Rattle.store.specs.Rows.{tasks_of, activation_of}
use Rattle.survey.specs.Survey.{Ordered, order_ground, ground_of, peaked_of}
use Rattle.answer.specs.Meaning.{meaning}
use Rattle.answer.specs.Sound.{Noted, Sound}
use Rattle.answer.proofs.Meant.{parents-meant, works-meant, outs-meant, ranked-length, parents-small}

-- the places noted of an order that is whole
pub noted_in :
    (size count : ℕ) (order places : List ℕ)
    → count ≡ size
    → Noted size count order places
    → (e : ℕ)
    → e < size
    → at places (at (take size order) e) ≡ e
noted_in size count order places all noted e h =
    ap (at places) (get_or-take size order e 0 h) ∙ noted.noted e (omega arith)

module _ (c : Contents) (sound : Sound c) (long : Lengths c) (reached : Reachable (meaning c)) (ranked_all : c.ranked ≡ c.size) where
  formed : Formed (meaning c)
  formed = (lives reached).formed

  order_is : (meaning c).activation ≡ activation_of c
  order_is = ap (λ (k : ℕ). take k c.activation) ranked_all

  -- what it asks
  pub whole-order : Ordered c
  whole-order =
      record {
        parented = record { small = sound.small; inside = λ i _. parents-small c sound reached i };
        ranked =
            record {
              inside = subst (λ (l : List ℕ). every (λ i. within i c.size) l ≡ true) order_is formed.activation-inside;
              once = subst (λ (l : List ℕ). distinct l ≡ true) order_is formed.activation-once;
              whole = ap length (sym order_is) ∙ ranked-length c sound long ∙ ranked_all;
              placed = noted_in c.size c.ranked c.activation c.ranks ranked_all sound.activation;
            };
      }

  -- the ground against the activation order
  pub ground-is : order_ground c.size (at (meaning c).parents) (meaning c).activation ≡ ground_of c
  ground-is =
      ap₂ (λ (f : ℕ → ℕ) (l : List ℕ). order_ground c.size f l) (parents-meant c sound) order_is

  peak_is : (grounds.peaks_of (meaning c)).chilled ≡ Tasks.peaked (tasks_of c chilled) (activation_of c)
  unfolding grounds.peaks_of
  peak_is =
      λ z.
      peaked c.size (parents-meant c sound z) (works-meant c sound z) (outs-meant c sound z) (order_is z)

  -- and, where there is none, the peak with its task
  module _ {high : Peaked} (is-high : high ≡ peaked_of c) (fine : ground_of c ≡ 0) where
    pub high-is-peaked : high ≡ (grounds.peaks_of (meaning c)).chilled
    high-is-peaked =
        is-high
        ∙ ap (λ (b : Bool). cond b (Tasks.peaked (tasks_of c chilled) (activation_of c)) no_peak) (eq-eqb (ground_of c) 0 fine)
        ∙ sym peak_is

    pub high-is-peak : high.trays ≡ grounds.peak_of (meaning c)
    unfolding grounds.peak_of grounds.peak_in grounds.peaks_of peaked
    high-is-peak = ap (λ (p : Peaked). p.trays) high-is-peaked
