-- Laws of noted places: a task stands in an order just where its noted place says so, and one entry more keeps this.
use mathlib.Core.Path.{◌≡◌, sym, ap, ◌∙◌}
use mathlib.Core.Bool.{true, false}
use mathlib.Core.Logic.{⊎_elim}
use mathlib.Core.List.{List}
use Prim.Native.Nat.{ℕ, ◌+◌, ◌≤◌, ◌<◌}
use native.Mathlib.Omega.{arith}
use lib.Dec.{eqb}
use lib.ListN.{length, take, set, length-take, get_or-eq_default}
use lib.Seq.{get_or-take, get_or-set_same, get_or-set_other}
use borrow.Author.Tests.{eq-eqb, ne_eqb}
use Rattle.numbers.specs.Lists.{at, mem, place}
use Rattle.numbers.proofs.Tests.{clash, fails, same_or_not, le-or-lt}
use Rattle.tree.proofs.Orders.{mem-at, place-lt, place_at}
use Rattle.numbers.specs.Limits.{max_tasks}
use Rattle.numbers.specs.Sums.{Task}

-- a task is looked for in an order that has `count` entries so far, each with its place noted
pub record Listed (order places : List ℕ) (count task : ℕ) : Type 0 where
  pub within : Task max_tasks task
  pub noted : (e : ℕ) → e < count → at places (at order e) ≡ e

-- each of the first entries stands among the first of its list
first-stands : (l : List ℕ) (k e : ℕ) → e < k → e < length l → mem (at l e) (take k l) ≡ true
first-stands l k e first inside =
    let long = length-take k l in
    rw (get_or-take k l e 0 first) at (mem-at (take k l) e (omega arith))

module _ (order places : List ℕ) (count task : ℕ) (listed : Listed order places count task) where
  -- who stands in the order stands at its noted place
  stands-there :
      mem task (take count order) ≡ true → (at places task < count) × (at order (at places task) ≡ task)
  stands-there stands =
      let e = place task (take count order) in
      let long = length-take count order in
      let first : e < count = omega (arith, place-lt task (take count order) stands) in
      let there : at order e ≡ task = sym (get_or-take count order e 0 first) ∙ place_at task (take count order) stands in
      let noted : at places task ≡ e = rw there at (listed.noted e first) in
      (omega arith, ap (at order) noted ∙ there)

  -- the test, where the noted place is one of the first, and where it is not
  pub seen : at places task < count → eqb (at order (at places task)) task ≡ mem task (take count order)
  seen first =
      ⊎_elim
      (λ (e : at order (at places task) ≡ task).
      let inside : at places task < length order =
      ⊎_elim
      (λ (past : length order ≤ at places task).
      absurd (let none = get_or-eq_default order 0 past in let some = listed.within.low in omega arith))
      (λ h. h) (le-or-lt (length order) (at places task))
      in
      eq-eqb (at order (at places task)) task e
      ∙ sym (rw e at (first-stands order count (at places task) first inside)))
      (λ d.
      ne_eqb (at order (at places task)) task d
      ∙ sym (fails (mem task (take count order)) (λ stands. d (stands-there stands).1)))
      (same_or_not (at order (at places task)) task)

  pub unseen : count ≤ at places task → mem task (take count order) ≡ false
  unseen past = fails (mem task (take count order)) (λ stands. omega (arith, (stands-there stands).0))

-- where a task is appended, its place is noted with the others
module _ (order places : List ℕ) (count i : ℕ) (more : count < length order) where
  pub append-noted :
      i < length places
      → mem i (take count order) ≡ false
      → ((e : ℕ) → e < count → at places (at order e) ≡ e)
      → (e : ℕ)
      → e < count + 1
      → at (set places i count) (at (set order count i) e) ≡ e
  append-noted inside new noted e h =
      ⊎_elim
      (λ (last : e ≡ count).
      let entry : at (set order count i) e ≡ i = ap (at (set order count i)) last ∙ get_or-set_same order count i 0 more in
      ap (at (set places i count)) entry ∙ get_or-set_same places i count 0 inside ∙ sym last)
      (λ earlier.
      let entry : at (set order count i) e ≡ at order e = get_or-set_other order count e i 0 earlier in
      let stands = first-stands order count e (omega arith) (omega arith) in
      let other : at order e ≡ i → ⊥ = λ same. clash (rw same at stands) new in
      ap (at (set places i count)) entry ∙ get_or-set_other places i (at order e) count 0 other ∙ noted e (omega arith))
      (same_or_not e count)
