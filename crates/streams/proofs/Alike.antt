-- What is answered by a tool that writes into a lent list is told by its number and by what becomes of the list.
use mathlib.Core.Path.{◌≡◌, sym, ap₂, ◌∙◌}
use mathlib.Core.List.{List, ◌++◌}
use Prim.Native.Nat.{ℕ}
use lib.ListN.{take, drop, take-append-drop}
use Rattle.streams.specs.Write.{Wrote}

-- a refusal leaves the list as it was
abbrev pub Refuses : List ℕ → Wrote → Type 0
Refuses list w = (w.number ≡ 0 → ⊥) → (w.count ≡ 0) × (w.list ≡ list)

module _ (w w' : Wrote) where
  -- two refusals by one number
  pub refused-alike :
      (list : List ℕ) (k : ℕ) → (k ≡ 0 → ⊥) → w.number ≡ k → w'.number ≡ k → Refuses list w → Refuses list w' → w ≡ w'
  refused-alike list k some e e' h h' =
      let a = h (λ z. some (sym e ∙ z)) in
      let b = h' (λ z. some (sym e' ∙ z)) in
      λ z.
      record {
        number = (e ∙ sym e') z;
        count = (a.0 ∙ sym b.0) z;
        list = (a.1 ∙ sym b.1) z;
      }

  -- two lists with the same first k entries, and the same behind them
  pub granted-alike :
      (k : ℕ)
      → w.number ≡ w'.number
      → w.count ≡ w'.count
      → take k w.list ≡ take k w'.list
      → drop k w.list ≡ drop k w'.list
      → w ≡ w'
  granted-alike k numbers counts front past =
      let whole : w.list ≡ w'.list =
      sym (take-append-drop k w.list) ∙ ap₂ (λ (a b : List ℕ). a ++ b) front past ∙ take-append-drop k w'.list
      in
      λ z. record { number = numbers z; count = counts z; list = whole z }
