-- From each place of the stream on there is something that steps print, if only nothing.
use Rattle.std.proofs.Common.{ℕ, zero, suc, ◌+◌, ◌-◌, ◌≤◌, ◌<◌, Bool, true, List, [], ◌++◌, length, refl, sym, subst, arith, append-nil, true≢false}
use Rattle.std.proofs.lemmas.List.{length-replicate}
use Rattle.std.specs.Prelude.{replicate}
use mathlib.Core.Logic.{⊎_elim}
use borrow.Author.Tests.{eqb-true, eqb-false}
use lib.Dec.{eqb}
use Rattle.numbers.specs.Limits.{least_starts}
use Rattle.numbers.proofs.Tests.{decide, le-or-lt}
use Rattle.rules.specs.State.{State}
use Rattle.rules.specs.Answer.{Asking}
use Rattle.rules.specs.Reachable.{Reachable}
use Rattle.texts.specs.Text.{longest_line}
use Rattle.texts.specs.Printer as printer
use Rattle.texts.specs.Printer.{continues, waits, stops, Turn, idle, behind, turn, turns, step, step_over, Part, Steps, steps_on, last_step}
use Rattle.texts.proofs.Stepped.{turn-kept, no_room, last_turn, next-turn}
use Rattle.stepping.proofs.Reach.{step-reach, step-some}

-- commands led to what turns leave
turns-reached : (more room : ℕ) (s : State) (a : Asking) (offset : ℕ) (is_last : Bool)
    → Reachable s
    → Reachable (turns more room s a offset is_last).state
unfolding turns idle behind
turns-reached zero room s a offset is_last r = r
turns-reached (suc more) room s a offset is_last r =
    let t = turn s a offset is_last in
    let kept = (turn-kept s a offset is_last r).reached in
    let P : Turn → Type 0 = λ u. Reachable u.state in
    ⊎_elim
    (λ enough.
    ⊎_elim
    (λ e.
    subst P (sym (next-turn s a offset is_last more room enough (eqb-true t.verdict continues e)))
    (turns-reached more (room - length t.text) t.state
    (record { stream = a.stream; place = a.place + t.used; list = t.list }) (offset + t.used) is_last kept))
    (λ e. subst P (sym (last_turn s a offset is_last more room enough (eqb-false t.verdict continues e))) kept)
    (decide (eqb t.verdict continues)))
    (λ few. subst P (sym (no_room s a offset is_last (suc more) room few)) r)
    (le-or-lt longest_line room)

-- and to what a step leaves
pub step-reached : (s : State) (part list : List ℕ) (room : ℕ) (x : printer.Position) → Reachable s → Reachable (step s part list room x).state
unfolding step
step-reached s part list room x r =
    turns-reached (suc (length part)) room s (record { stream = part; place = x.place; list = list }) x.offset x.is_last r

-- the whole stream as one part
whole : (stream : List ℕ) (place : ℕ) → Part stream place
whole stream place =
    record {
      before = [];
      part = stream;
      after = [];
      cut = sym (append-nil stream);
      start = place;
      stands = omega arith;
      is_last = true;
      last = λ _. refl;
      list = replicate least_starts 0;
      room = omega (arith, length-replicate {A = ℕ} least_starts 0);
    }

-- what steps print from a place on
pub record Rest (stream : List ℕ) (s : State) (place : ℕ) : Type 0 where
  pub text : List ℕ
  pub steps : Steps stream s place text

rest-within : (more : ℕ) (stream : List ℕ) (s : State) (place : ℕ)
    → Reachable s
    → place ≤ length stream
    → length stream - place < more
    → Rest stream s place
unfolding whole
rest-within zero stream s place r inside h = absurd (omega arith)
rest-within (suc more) stream s place r inside h =
    let p = whole stream place in
    let t = step_over p s longest_line in
    let x : printer.Position = record { place = place; filled = length stream; offset = place; is_last = true } in
    let reach = step-reach s stream p.list longest_line x r inside in
    ⊎_elim
    (λ e. record { text = t.text; steps = last_step p longest_line (eqb-true t.verdict stops e) })
    (λ e.
    let not_stopped = eqb-false t.verdict stops e in
    let goes = reach.third (λ q. absurd (true≢false (reach.awaited q))) not_stopped in
    let some = step-some s stream p.list longest_line x (omega arith) goes in
    let later =
    rest-within more stream t.state (place + t.used) (step-reached s stream p.list longest_line x r) reach.within
    (omega (arith, some, reach.within)) in
    record { text = t.text ++ later.text; steps = steps_on p longest_line not_stopped later.steps })
    (decide (eqb t.verdict stops))

pub rest : (stream : List ℕ) (s : State) (place : ℕ) → Reachable s → place ≤ length stream → Rest stream s place
rest stream s place r inside = rest-within (suc (length stream)) stream s place r inside (omega arith)
