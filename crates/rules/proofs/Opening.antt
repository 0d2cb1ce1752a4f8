-- An accepted BEGIN opens a day.
use mathlib.Core.Path.{refl}
use mathlib.Core.List.{[], map}
use Prim.Native.Nat.{◌≤◌}
use native.Mathlib.Omega.{arith}
use Rattle.numbers.specs.Lists.{at}
use Rattle.books.specs.Standing.{running, count}
use Rattle.rules.specs.State.{State}
use Rattle.format.specs.Command.{begin}
use Rattle.rules.specs.Grounds.{peaks_of}
use Rattle.rules.specs.Obey.{fresh, terms_of, with_orders, completed, obey}
use Rattle.rules.specs.Day.{started, is_fetched}
use Rattle.tree.specs.Tree.{rank_in}
use Rattle.rules.proofs.Log.{nothing-logged, nothing-in-order}
use Rattle.rules.proofs.Formed.{Formed, Accepted}
use Rattle.rules.proofs.InDay.{InDay, fresh-waits, fresh-good, fresh-idle, begin-planned, proceed-in-day}

pub begin-in-day :
    (s : State) → Formed s → Accepted s begin → InDay (obey s begin).state (map started (obey s begin).started)
unfolding obey completed with_orders is_fetched
begin-in-day s formed a =
    let p = begin-planned s formed a in
    let good =
    fresh-good s.size (at s.parents) (rank_in s.activation) (terms_of s)
    in
    let few : count s.size (at (fresh s.size).standings) running ≤ s.processors =
    (let z = fresh-idle s.size in omega arith)
    in
    proceed-in-day (completed s) p (fresh s.size) (peaks_of s) 0 good few []
    (nothing-logged s.size (at (fresh s.size).standings) (λ i t. let z = fresh-waits s.size i t in omega arith))
    (nothing-in-order s.size (at s.parents)) refl
    (λ r t _ e. let w = fresh-waits s.size r t in omega arith)
