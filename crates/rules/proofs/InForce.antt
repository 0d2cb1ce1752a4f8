-- Laws of the bound in force.
use mathlib.Core.Path.{◌≡◌, refl}
use mathlib.Core.List.{List, [], ◌∷◌, ◌++◌, map}
use Prim.Native.Nat.{ℕ}
use Rattle.rules.specs.Day.{Event, started, ended, fetched, bounded, in_force}

-- what happens later goes by the bound that was in force before it
pub in-force-append : (l m : List Event) (found : ℕ) → in_force found (l ++ m) ≡ in_force (in_force found l) m
unfolding in_force
in-force-append [] m found = refl
in-force-append (started i ∷ l) m found = in-force-append l m found
in-force-append (ended i ∷ l) m found = in-force-append l m found
in-force-append (fetched ∷ l) m found = in-force-append l m found
in-force-append (bounded b ∷ l) m found = in-force-append l m b

-- starts leave it
pub starts-in-force : (l : List ℕ) (found : ℕ) → in_force found (map started l) ≡ found
unfolding in_force
starts-in-force [] found = refl
starts-in-force (i ∷ l) found = starts-in-force l found
