-- How far a step comes: it uses no byte that has not come, waits only where few bytes are left and more may come, and goes on only
-- where it has used a byte.
use mathlib.Core.Path.{◌≡◌, refl, sym, ap, subst, ◌∙◌}
use mathlib.Core.Bool.{Bool, false}
use mathlib.Core.List.{List}
use mathlib.Core.Logic.{⊎_elim}
use Prim.Native.Nat.{ℕ, zero, suc, ◌+◌, ◌-◌, ◌≤◌, ◌<◌}
use native.Mathlib.Omega.{arith}
use borrow.Author.Tests.{eqb-true, eqb-false}
use lib.Dec.{eqb}
use lib.ListN.{length}
use Rattle.rules.specs.State.{State}
use Rattle.rules.specs.Answer.{Asking}
use Rattle.texts.specs.Text.{longest_line}
use Rattle.texts.specs.Printer as rules
use Rattle.rules.specs.Reachable.{Reachable}
use Rattle.texts.specs.Printer.{continues, waits, stops, Turn, idle, turn, behind, turns, step}
use Rattle.numbers.proofs.Tests.{decide, le-or-lt}
use Rattle.texts.proofs.Stepped.{Way, waiting, stopping, going_on, turn-kept, no_room, last_turn, next-turn}
use Rattle.texts.proofs.Printed.{going}
use Rattle.printing.proofs.Within.{turned, few-left, not-ended}

-- turns t from a place of the bytes at hand on
pub record Reach (stream : List ℕ) (place : ℕ) (is_last : Bool) (t : Turn) : Type 0 where
  pub within : place + t.used ≤ length stream
  pub few : t.verdict ≡ waits → length stream < place + t.used + 8
  pub awaited : t.verdict ≡ waits → is_last ≡ false
  pub third : (t.verdict ≡ waits → ⊥) → (t.verdict ≡ stops → ⊥) → t.verdict ≡ continues

reach-idle : (stream : List ℕ) (place : ℕ) (is_last : Bool) (s : State) (list : List ℕ) → place ≤ length stream → Reach stream place is_last (idle continues s list)
unfolding idle
reach-idle stream place is_last s list h =
    record { within = omega arith; few = λ e. absurd (omega arith); awaited = λ e. absurd (omega arith); third = λ _ _. refl }

reach-behind : (stream : List ℕ) (place used : ℕ) (is_last : Bool) (text : List ℕ) (t : Turn) → Reach stream (place + used) is_last t → Reach stream place is_last (behind used text t)
unfolding behind
reach-behind stream place used is_last text t h =
    record { within = omega (arith, h.within); few = λ e. omega (arith, h.few e); awaited = h.awaited; third = h.third }

module _ (s : State) (a : Asking) (offset : ℕ) (is_last : Bool) (r : Reachable s) (inside : a.place ≤ length a.stream) where
  reach-turn : Reach a.stream a.place is_last (turn s a offset is_last)
  unfolding idle
  reach-turn =
      record {
        within = turned s a offset is_last inside;
        few = λ e. omega (arith, few-left s a offset is_last e);
        awaited = not-ended s a offset is_last;
        third = third (turn-kept s a offset is_last r).way;
      }
    where
      third : Way s a.list (turn s a offset is_last)
          → ((turn s a offset is_last).verdict ≡ waits → ⊥)
          → ((turn s a offset is_last).verdict ≡ stops → ⊥)
          → (turn s a offset is_last).verdict ≡ continues
      third (waiting e) w q = absurd (w (ap (λ (t : Turn). t.verdict) e))
      third (stopping e) w q = absurd (q e)
      third (going_on e) w q = e

turns-reach : (more room : ℕ) (s : State) (a : Asking) (offset : ℕ) (is_last : Bool)
    → Reachable s
    → a.place ≤ length a.stream
    → Reach a.stream a.place is_last (turns more room s a offset is_last)
unfolding turns
turns-reach zero room s a offset is_last r inside = reach-idle a.stream a.place is_last s a.list inside
turns-reach (suc more) room s a offset is_last r inside =
    let one = reach-turn s a offset is_last r inside in
    let t = turn s a offset is_last in
    ⊎_elim
    (λ enough.
    ⊎_elim
    (λ e.
    subst (Reach a.stream a.place is_last) (sym (next-turn s a offset is_last more room enough (eqb-true t.verdict continues e)))
    (reach-behind a.stream a.place t.used is_last t.text _
    (turns-reach more (room - length t.text) t.state
    (record { stream = a.stream; place = a.place + t.used; list = t.list }) (offset + t.used) is_last
    (turn-kept s a offset is_last r).reached one.within)))
    (λ e.
    subst (Reach a.stream a.place is_last)
    (sym (last_turn s a offset is_last more room enough (eqb-false t.verdict continues e))) one)
    (decide (eqb t.verdict continues)))
    (λ few.
    subst (Reach a.stream a.place is_last) (sym (no_room s a offset is_last (suc more) room few))
    (reach-idle a.stream a.place is_last s a.list inside))
    (le-or-lt longest_line room)

pub step-reach : (s : State) (part list : List ℕ) (room : ℕ) (x : rules.Position)
    → Reachable s
    → x.place ≤ length part
    → Reach part x.place x.is_last (step s part list room x)
unfolding step
step-reach s part list room x r inside =
    turns-reach (suc (length part)) room s (record { stream = part; place = x.place; list = list }) x.offset x.is_last r inside

-- a step with room for a line goes on only where it has used a byte
pub step-some : (s : State) (part list : List ℕ) (room : ℕ) (x : rules.Position)
    → longest_line ≤ room
    → (step s part list room x).verdict ≡ continues
    → 0 < (step s part list room x).used
unfolding step behind
step-some s part list room x enough goes =
    let a : Asking = record { stream = part; place = x.place; list = list } in
    let t = turn s a x.offset x.is_last in
    ⊎_elim
    (λ e.
    let on = eqb-true t.verdict continues e in
    rw (next-turn s a x.offset x.is_last (length part) room enough on)
    (omega (arith, (going s list part x.place x.offset x.is_last on).1)))
    (λ e.
    let stays = eqb-false t.verdict continues e in
    absurd (stays (sym (ap (λ (u : Turn). u.verdict) (last_turn s a x.offset x.is_last (length part) room enough stays)) ∙ goes)))
    (decide (eqb t.verdict continues))
