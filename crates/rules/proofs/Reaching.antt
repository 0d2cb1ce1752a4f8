-- What holds of every plan that commands led to: it is formed, and from BEGIN on it is in its day.
use mathlib.Core.Path.{◌≡◌, refl, sym, ap, subst, ◌∙◌}
use mathlib.Core.Bool.{Bool, true, false, cond}
use mathlib.Core.Logic.{⊎_elim}
use mathlib.Core.List.{List, [], ◌∷◌, ◌++◌, map}
use Prim.Native.Nat.{ℕ, ◌≤◌}
use native.Mathlib.Omega.{arith}
use lib.Dec.{eqb, ltb}
use lib.ListN.{length, replicate}
use borrow.Author.Tests.{eqb-true, eq-eqb}
use Rattle.numbers.specs.Limits.{least_starts}
use Rattle.rules.specs.Phase
use Rattle.rules.specs.State.{State, none}
use Rattle.format.specs.Command.{Command, plan, task, activation, execution, begin, done, fetch, places, Decoded, refused, read, decode}
use Rattle.rules.specs.Grounds.{in_turn, ground_for}
use Rattle.rules.specs.Obey.{opened, with_task, with_orders, obey}
use Rattle.rules.specs.Answer.{Asking, Answered, refuse, accept, judge, respond, command}
use Rattle.rules.specs.Day.{Event, started, ended, fetched, bounded, after}
use Rattle.rules.specs.Reachable.{Reachable, start, next}
use Rattle.numbers.proofs.Tests.{decide, and-true}
use Rattle.rules.proofs.Formed.{Formed, Accepted, no-ground, none-formed, obey-formed}
use Rattle.rules.proofs.InDay.{InDay}
use Rattle.rules.proofs.Opening.{begin-in-day}
use Rattle.rules.proofs.Reporting.{done-in-day}
use Rattle.rules.proofs.Fetching.{fetch-in-day}
use Rattle.rules.proofs.Placing.{places-in-day}

-- a command leaves the plan as it was, or is obeyed without a ground against it
pub data Response (s : State) (d : Decoded) (list : List ℕ) : Type 0 where
  left_alone : (respond s d list).state ≡ s → Response s d list
  obeyed : (c : Command) → Accepted s c → (respond s d list).state ≡ (obey s c).state → Response s d list

-- the branches
short-list : (s : State) (d : Decoded) (list : List ℕ) → ltb (length list) least_starts ≡ true → (respond s d list).state ≡ s
unfolding respond refuse
short-list s d list e =
    ap
    (λ (t : Bool).
    (cond t (refuse 10 s list) (elim d [ refused k ↦ refuse k s list | read c used ↦ judge s c used list ])).state)
    e

not-read :
    (s : State) (k : ℕ) (list : List ℕ) → ltb (length list) least_starts ≡ false → (respond s (refused k) list).state ≡ s
unfolding respond refuse
not-read s k list e = ap (λ (t : Bool). (cond t (refuse 10 s list) (refuse k s list)).state) e

pub is_read :
    (s : State) (c : Command) (used : ℕ) (list : List ℕ)
    → ltb (length list) least_starts ≡ false
    → respond s (read c used) list ≡ judge s c used list
unfolding respond
is_read s c used list e = ap (λ (t : Bool). cond t (refuse 10 s list) (judge s c used list)) e

granted :
    (s : State) (c : Command) (used : ℕ) (list : List ℕ)
    → eqb (ground_for s c) 0 ≡ true
    → (judge s c used list).state ≡ (obey s c).state
unfolding judge accept
granted s c used list e =
    ap (λ (t : Bool). (cond t (accept (obey s c) used list) (refuse (ground_for s c) s list)).state) e

denied :
    (s : State) (c : Command) (used : ℕ) (list : List ℕ) → eqb (ground_for s c) 0 ≡ false → (judge s c used list).state ≡ s
unfolding judge refuse
denied s c used list e =
    ap (λ (t : Bool). (cond t (accept (obey s c) used list) (refuse (ground_for s c) s list)).state) e

pub response : (s : State) (d : Decoded) (list : List ℕ) → Response s d list
response s d list =
    ⊎_elim (λ (e : ltb (length list) least_starts ≡ true). left_alone (short-list s d list e))
    (λ (e : ltb (length list) least_starts ≡ false). by-decoded s d list e)
    (decide (ltb (length list) least_starts))
  where
    by-decoded : (s : State) (d : Decoded) (list : List ℕ) → ltb (length list) least_starts ≡ false → Response s d list
    by-decoded s (refused k) list e = left_alone (not-read s k list e)
    by-decoded s (read c used) list e =
        ⊎_elim
        (λ (g : eqb (ground_for s c) 0 ≡ true).
        obeyed c (no-ground s c (eqb-true (ground_for s c) 0 g))
        (ap (λ (a : Answered). a.state) (is_read s c used list e) ∙ granted s c used list g))
        (λ (g : eqb (ground_for s c) 0 ≡ false).
        left_alone (ap (λ (a : Answered). a.state) (is_read s c used list e) ∙ denied s c used list g))
        (decide (eqb (ground_for s c) 0))

-- so is the plan that a command leaves against which there is no ground
pub obeyed-reachable : (s : State) (c : Command) → ground_for s c ≡ 0 → Reachable s → Reachable (obey s c).state
obeyed-reachable s c g r =
    let list : List ℕ = replicate least_starts 0 in
    subst Reachable
    (ap (λ (a : Answered). a.state) (is_read s c 0 list refl) ∙ granted s c 0 list (eq-eqb (ground_for s c) 0 g)) (next (read c 0) list r)

-- the plan after any list of askings is one that commands led to
pub after-reachable : (l : List Asking) {s : State} → Reachable s → Reachable (after s l)
unfolding after command
after-reachable [] r = r
after-reachable (a ∷ l) r = after-reachable l (next (decode a.stream a.place) a.list r)

pub reachable : (l : List Asking) → Reachable (after none l)
reachable l = after-reachable l start

-- formed, and from BEGIN on in its day
pub record Lived (s : State) : Type 0 where
  pub formed : Formed s
  pub day : Phase.running ≤ s.phase → (happened : List Event) × InDay s happened

-- the day that an obeyed command leaves, if any
obey-day :
    (s : State) (c : Command)
    → Accepted s c
    → Lived s
    → Phase.running ≤ (obey s c).state.phase
    → (happened : List Event) × InDay (obey s c).state happened
unfolding obey opened with_task with_orders in_turn
obey-day s (plan n p bound) a lived h = absurd (omega arith)
obey-day s (task parent work out) a lived h = absurd (early (eqb (length s.parents) s.size) h)
  where
    early : (t : Bool) → Phase.running ≤ cond t Phase.orders Phase.steps → ⊥
    early true h = omega arith
    early false h = omega arith
obey-day s (activation i) a lived h =
    let e = eqb-true s.phase Phase.orders (and-true _ _ a.turn).0 in absurd (omega arith)
obey-day s (execution i) a lived h =
    let e = eqb-true s.phase Phase.orders (and-true _ _ a.turn).0 in absurd (omega arith)
obey-day s begin a lived h = (map started (obey s begin).started, begin-in-day s lived.formed a)
obey-day s (done j) a lived h =
    let e = eqb-true s.phase Phase.running a.turn in
    let day = lived.day (omega arith) in
    (day.0 ++ (ended j ∷ map started (obey s (done j)).started), done-in-day s day.0 day.1 j a)
obey-day s fetch a lived h =
    let e = eqb-true s.phase Phase.ready a.turn in
    let day = lived.day (omega arith) in
    (day.0 ++ (fetched ∷ []), fetch-in-day s day.0 day.1 a)
obey-day s (places bound) a lived h =
    let e = eqb-true s.phase Phase.running a.turn in
    let day = lived.day (omega arith) in (
      day.0 ++ (bounded bound ∷ map started (obey s (places bound)).started),
      places-in-day s day.0 day.1 bound a,
    )

none-lived : Lived none
none-lived = record { formed = none-formed; day = λ h. absurd (omega arith) }

-- what holds of the empty plan and is kept by every command that is obeyed holds of every plan that commands led to
pub by-commands :
    (P : State → Type 0)
    → P none
    → ((s : State) (c : Command) → Accepted s c → P s → P (obey s c).state)
    → {s : State}
    → Reachable s
    → P s
by-commands P empty kept start = empty
by-commands P empty kept (next {s = s} d list r) = go (response s d list) (by-commands P empty kept r)
  where
    go : Response s d list → P s → P (respond s d list).state
    go (left_alone e) p = subst P (sym e) p
    go (obeyed c a e) p = subst P (sym e) (kept s c a p)

pub lives : {s : State} → Reachable s → Lived s
lives =
    by-commands Lived none-lived (λ s c a l. record { formed = obey-formed s c a l.formed; day = obey-day s c a l })
