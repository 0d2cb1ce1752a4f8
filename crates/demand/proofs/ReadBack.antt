-- A plan that was written, read into a new one by calls: each finds the next command, and is accepted.
use mathlib.Core.Path.{◌≡◌, refl, sym, ap, subst, subst₂, ◌∙◌}
use mathlib.Core.Bool.{true}
use mathlib.Core.List.{List, [], ◌∷◌, ◌++◌, flat_map, append_assoc}
use Prim.Native.Nat.{ℕ, ◌+◌}
use native.Mathlib.Nat.{zero-add}
use native.Mathlib.Omega.{arith}
use lib.Dec.{eqb}
use lib.ListN.{length, take, drop, length-append, take-append-drop}
use borrow.Author.Tests.{eqb-true}
use Rattle.rules.specs.Phase
use Rattle.rules.specs.State.{State, none}
use Rattle.format.specs.Command.{Command, bytes, read, decode}
use Rattle.rules.specs.Grounds.{ground_for}
use Rattle.streams.specs.Stream.{obey_all, accepts_all}
use Rattle.streams.specs.Instance.{instance_of, unbegun, commands, written}
use Rattle.streams.specs.Write.{Wrote, write}
use Rattle.rules.specs.Reachable.{Reachable}
use Rattle.streams.specs.WriteHolds.{WriteHolds}
use Rattle.numbers.proofs.Tests.{and-true, and_both}
use Rattle.format.proofs.Bytes.{decode-bytes-at}
use Rattle.streams.proofs.Stream.{FitAll}
use Rattle.streams.proofs.Instance.{commands-lead, proper}
use Rattle.streams.proofs.Written.{every-write-holds, granted-whole}
use Rattle.answer.specs.Meaning.{plan_of}
use Rattle.answer.specs.ValidPlan.{NewPlan}
use Rattle.plan.proofs.NewPlan.{new-empty}
use Rattle.demand.specs.Calls.{Call, Calls, left_by, accepted, all_accepted, Reads}
use Rattle.demand.proofs.Followed.{followed}

-- calls that read the bytes of commands that are accepted in turn, wherever they stand
through :
    (cs : List Command) (calls : List Call) (w before rest stream : List ℕ)
    → stream ≡ before ++ flat_map bytes cs ++ rest
    → FitAll cs
    → accepts_all (plan_of w) cs ≡ true
    → Calls w calls
    → Reads stream (length before) (length before + length (flat_map bytes cs)) calls
    → (all_accepted calls ≡ true) × (plan_of (left_by w calls) ≡ obey_all (plan_of w) cs)
unfolding flat_map bytes accepts_all obey_all Calls left_by all_accepted Reads
through [] [] w before rest stream is fit grants e reads = (refl, refl)
through [] (c ∷ later) w before rest stream is fit grants e reads = let more = reads.3 in absurd (omega arith)
through (k ∷ cs) [] w before rest stream is fit grants e reads =
    absurd (omega (arith, reads, length-append (bytes k) (flat_map bytes cs)))
through (k ∷ cs) (c ∷ later) w before rest stream is fit grants e reads =
    let granted = and-true (eqb (ground_for (plan_of w) k) 0) _ grants in
    let split : stream ≡ before ++ bytes k ++ flat_map bytes cs ++ rest =
    is ∙ ap (λ (l : List ℕ). l ++ rest) (sym (append_assoc before (bytes k) (flat_map bytes cs)))
    in
    let found : decode c.asking.stream c.asking.place ≡ read k (length (bytes k)) =
    rw (reads.0, reads.1, split, append_assoc (before ++ bytes k) (flat_map bytes cs) rest)
    (decode-bytes-at before k (flat_map bytes cs ++ rest) fit.0)
    in
    let o =
    followed e.0 (record { used = length (bytes k); bytes = found; long = reads.2 })
    (eqb-true (ground_for (plan_of w) k) 0 granted.0)
    in
    let next =
    through cs later c.left (before ++ bytes k) rest stream split fit.1
    (subst (λ (s : State). accepts_all s cs ≡ true) (sym o.left) granted.1)
    e.1
    (subst₂ (λ (place end : ℕ). Reads stream place end later)
    (ap (λ (u : ℕ). length before + u) o.used-is ∙ sym (length-append before (bytes k)))
    (omega (arith, length-append before (bytes k), length-append (bytes k) (flat_map bytes cs)))
    reads.4)
    in (
      and_both (accepted c) (all_accepted later) o.accepts next.0,
      next.1 ∙ ap (λ (s : State). obey_all s cs) o.left,
    )

-- the plan that the writer answers of, from any stream that begins with what was written
pub read_back :
    {s : State}
    → Reachable s
    → (list : List ℕ) {r : Wrote}
    → r ≡ write s list
    → r.number ≡ 0
    → (stream w : List ℕ) (reading : List Call)
    → take r.count stream ≡ take r.count r.list
    → NewPlan w
    → Calls w reading
    → Reads stream 0 r.count reading
    → (all_accepted reading ≡ true) × (plan_of (left_by w reading) ≡ unbegun (instance_of s))
unfolding written Phase.holds_trays
read_back {s} reached list {r} is accepted stream w reading front new e reads =
    let m = instance_of s in
    let holds : WriteHolds s list r =
    subst (λ (x : Wrote). WriteHolds s list x) (sym is) (every-write-holds.lists s reached list)
    in
    let leads = commands-lead m (proper s reached (granted-whole s list r holds accepted)) none refl in
    let begins : stream ≡ written m ++ drop r.count stream =
    sym (take-append-drop r.count stream) ∙ ap (λ (l : List ℕ). l ++ drop r.count stream) (front ∙ holds.front accepted)
    in
    let both =
    through (commands m) reading w [] (drop r.count stream) stream begins leads.fitting
    (subst (λ (t : State). accepts_all t (commands m) ≡ true) (sym (new-empty new)) leads.accepted)
    e
    (subst (λ (end : ℕ). Reads stream 0 end reading) (holds.count accepted ∙ sym (zero-add (length (written m)))) reads)
    in (
      both.0,
      both.1 ∙ ap (λ (t : State). obey_all t (commands m)) (new-empty new) ∙ leads.obeyed,
    )
