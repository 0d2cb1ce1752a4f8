-- Laws of words that are set to 0, one after another.
use mathlib.Core.Path.{◌≡◌, refl, ap, ◌∙◌}
use mathlib.Core.Logic.{inl, inr, ⊎_elim}
use mathlib.Core.List.{List}
use Prim.Native.Nat.{ℕ, ◌+◌, ◌*◌, ◌≤◌, ◌<◌}
use native.Mathlib.Omega.{arith}
use lib.ListN.{set, length-set}
use lib.Seq.{get_or-set_same, get_or-set_other}
use Rattle.numbers.specs.Lists.{at}
use Rattle.numbers.proofs.Tests.{same_or_not}
use Rattle.words.specs.Layout.{row, words, head_base, activation_base, ready_base}
use Rattle.opening.specs.Cleared.{MayClear, Cleared, MayEmpty, Emptied}

-- between two turns
pub record Clearing (from to : ℕ) (w₀ w : List ℕ) (q : ℕ) : Type 0 where
  pub may : MayClear from to w₀
  pub done : Cleared from q w₀ w
  pub low : from ≤ q
  pub high : q ≤ to

pub clearing-first : {from to : ℕ} {w : List ℕ} → MayClear from to w → Clearing from to w w from
clearing-first may =
    record {
      may = may;
      done = record { size = refl; inside = λ q l h. absurd (omega arith); outside = λ _ _. refl };
      low = omega arith;
      high = may.forward;
    }

module _ {from to : ℕ} {w₀ w : List ℕ} {q : ℕ} (c : Clearing from to w₀ w q) where
  pub clearing-in : q < to → q < words
  clearing-in h = let b = c.may.inside in omega arith

  pub clearing-next : q < to → Clearing from to w₀ (set w q 0) (q + 1)
  clearing-next h =
      let long = c.done.size ∙ c.may.long in
      let b = c.may.inside in
      let low = c.low in
      record {
        may = c.may;
        done =
            record {
              size = length-set w q 0 ∙ c.done.size;
              inside =
                  λ p l u.
                  ⊎_elim
                  (λ (e : p ≡ q). ap (at (set w q 0)) e ∙ get_or-set_same w q 0 0 (omega arith))
                  (λ d. get_or-set_other w q p 0 0 d ∙ c.done.inside p l (omega arith))
                  (same_or_not p q);
              outside =
                  λ p o.
                  get_or-set_other w q p 0 0 (λ e. ⊎_elim (λ (l : p < from). omega arith) (λ (l : q + 1 ≤ p). omega arith) o)
                  ∙ c.done.outside p (⊎_elim (λ (l : p < from). inl l) (λ (l : q + 1 ≤ p). inr (omega arith)) o);
            };
        low = omega arith;
        high = omega arith;
      }

  pub clearing-end : to ≤ q → Cleared from to w₀ w
  clearing-end h =
      let u = c.high in
      record {
        size = c.done.size;
        inside = λ p l k. c.done.inside p l (omega arith);
        outside = λ p o. c.done.outside p (⊎_elim (λ (l : p < from). inl l) (λ (l : to ≤ p). inr (omega arith)) o);
      }

-- rows, head and ready set
pub emptied :
    {tasks : ℕ} {w w₁ w₂ w₃ : List ℕ}
    → MayEmpty tasks w
    → Cleared 0 (row * (tasks + 1)) w w₁
    → Cleared head_base activation_base w₁ w₂
    → Cleared ready_base words w₂ w₃
    → Emptied tasks w w₃
emptied {tasks} may rows head ready =
    let few = may.few in
    record {
      size = ready.size ∙ head.size ∙ rows.size;
      rows =
          λ q h.
          ready.outside q (inl (omega arith)) ∙ head.outside q (inl (omega arith)) ∙ rows.inside q (omega arith) (omega arith);
      later_rows =
          λ q l h.
          ready.outside q (inl (omega arith))
          ∙ head.outside q (inl (omega arith))
          ∙ rows.outside q (inr (omega arith));
      head = λ q l h. ready.outside q (inl (omega arith)) ∙ head.inside q l h;
      ready = λ q l h. ready.inside q l h;
    }

pub may-clear-head :
    {tasks : ℕ} {w w₁ : List ℕ} → MayEmpty tasks w → Cleared 0 (row * (tasks + 1)) w w₁ → MayClear head_base activation_base w₁
may-clear-head may rows = record { long = rows.size ∙ may.long; forward = omega arith; inside = omega arith }

pub may-clear-ready :
    {tasks : ℕ} {w w₁ w₂ : List ℕ}
    → MayEmpty tasks w
    → Cleared 0 (row * (tasks + 1)) w w₁
    → Cleared head_base activation_base w₁ w₂
    → MayClear ready_base words w₂
may-clear-ready may rows head =
    record { long = head.size ∙ rows.size ∙ may.long; forward = omega arith; inside = omega arith }
