-- The answer of a refusal, with the list that was lent.
use mathlib.Core.Path.{◌≡◌, ap}
use mathlib.Core.List.{List}
use Prim.Native.Nat.{ℕ}
use Rattle.streams.specs.Write as writing
use Rattle.answer.specs.declared.Wrote.{Wrote}
use Rattle.answer.specs.Meaning.{wrote_of}

pub unwritten : (r : Wrote) (k : ℕ) (list : List ℕ) → r ≡ record { number = k; count = 0 } → wrote_of r list ≡ writing.untouched k list
unfolding writing.untouched
unwritten r k list e = ap (λ (x : Wrote). wrote_of x list) e
