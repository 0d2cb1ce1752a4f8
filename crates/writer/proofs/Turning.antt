-- One command more is written: the tasks and the entries of an order, turn by turn.
use mathlib.Core.Path.{◌≡◌, ap, ◌∙◌}
use mathlib.Core.List.{List, [], ◌∷◌, ◌++◌, map, map-append, flat_map}
use Prim.Native.Nat.{ℕ, suc, ◌+◌, ◌<◌}
use native.Mathlib.Numerals.{add-one}
use lib.ListN.{length, take}
use Rattle.numbers.specs.Lists.{at}
use Rattle.format.specs.Command.{Command, bytes}
use Rattle.streams.specs.Instance.{Instance, task_of, tasks_to}
use Rattle.streams.proofs.Written.{bytes-append, bytes_one}
use Rattle.put.specs.declared.Page.{Page}
use Rattle.put.specs.Pages.{Puts}
use Rattle.put.proofs.Pages.{◌then◌, turn}

-- the tasks up to k, and the next
tasks-grow : (m : Instance) (k : ℕ) → flat_map bytes (tasks_to m (k + 1)) ≡ flat_map bytes (tasks_to m k) ++ bytes (task_of m (k + 1))
unfolding tasks_to
tasks-grow m k =
    rw (add-one k)
    (bytes-append (tasks_to m k) (task_of m (suc k) ∷ [])
    ∙ ap (λ (l : List ℕ). flat_map bytes (tasks_to m k) ++ l) (bytes_one (task_of m (suc k))))

pub task-turn : (m : Instance) (k : ℕ) {before between after : Page}
    → Puts (flat_map bytes (tasks_to m k)) before between
    → Puts (bytes (task_of m (k + 1))) between after
    → Puts (flat_map bytes (tasks_to m (k + 1))) before after
task-turn m k p q = rw (tasks-grow m k) (p then q)

-- the entries of an order so far, and the next
pub entry-turn : (next : ℕ → Command) (order : List ℕ) (k : ℕ)
    → k < length order
    → {i : ℕ}
    → i ≡ at order k
    → {before between after : Page}
    → Puts (flat_map bytes (map next (take k order))) before between
    → Puts (bytes (next i)) between after
    → Puts (flat_map bytes (map next (take (k + 1) order))) before after
entry-turn next order k more e p q =
    turn (λ l. flat_map bytes (map next l))
    (λ l i. ap (flat_map bytes) (map-append next l (i ∷ [])) ∙ bytes-append (map next l) (next i ∷ []))
    order k more p
    (rw (bytes_one (next (at order k)), ← e) q)
