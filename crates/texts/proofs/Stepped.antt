-- Steps over parts of the input print what the whole input gives.
use mathlib.Core.Path.{◌≡◌, refl, sym, subst}
use mathlib.Core.Bool.{Bool, true, false, cond}
use mathlib.Core.List.{List, ◌++◌, append_assoc}
use mathlib.Core.Logic.{⊎_elim}
use Prim.Native.Nat.{ℕ, zero, suc, ◌+◌, ◌-◌, ◌≤◌, ◌<◌}
use native.Mathlib.Omega.{arith}
use borrow.Author.Tests.{eqb-true, eqb-false, lt-ltb, le-ltb, eq-eqb, ne_eqb}
use lib.Dec.{eqb, leb}
use lib.ListN.{length}
use Rattle.rules.specs.State.{State, none}
use Rattle.format.specs.Command.{decode}
use Rattle.rules.specs.Answer.{Asking, command}
use Rattle.rules.specs.Reachable.{Reachable, start, next}
use Rattle.texts.specs.Text.{longest_line}
use Rattle.texts.specs.Printer.{continues, waits, stops, Turn, idle, answered, is_awaited, turn, behind, turns, step, print, Part, over, Prints, goes_on, stops_at, Steps, steps_on, last_step}
use Rattle.numbers.proofs.Tests.{decide, le-or-lt}
use Rattle.rules.proofs.Reaching.{lives}
use Rattle.theorem.proofs.Askings.{asking_holds}
use Rattle.texts.proofs.Printed.{prints}

-- a turn waits and leaves all as it was, stops, or goes on
pub data Way (s : State) (list : List ℕ) (t : Turn) : Type 0 where
  waiting : t ≡ idle waits s list → Way s list t
  stopping : t.verdict ≡ stops → Way s list t
  going_on : t.verdict ≡ continues → Way s list t

-- what holds of a turn of a plan that commands led to: they led to the plan that is left too, and the start list keeps its length
pub record Kept (s : State) (list : List ℕ) (t : Turn) : Type 0 where
  pub way : Way s list t
  pub reached : Reachable t.state
  pub long : length t.list ≡ length list

pub turn-kept : (s : State) (a : Asking) (offset : ℕ) (is_last : Bool) → Reachable s → Kept s a.list (turn s a offset is_last)
unfolding turn idle answered command
turn-kept s a offset is_last r = go (is_awaited is_last (decode a.stream a.place)) (leb (length a.stream) a.place)
  where
    chosen : (t : Bool) → Way s a.list (record { verdict = cond t continues stops; used = (command s a).answer.used; text = (answered (decode a.stream a.place) offset (command s a)).text; state = (command s a).state; list = (command s a).list })
    chosen true = going_on refl
    chosen false = stopping refl

    go : (t t' : Bool)
        → Kept s a.list
        (cond t (idle waits s a.list)
        (cond t' (idle stops s a.list) (answered (decode a.stream a.place) offset (command s a))))
    go true t' = record { way = waiting refl; reached = r; long = refl }
    go false true = record { way = stopping refl; reached = r; long = refl }
    go false false =
        record {
          way = chosen (eqb (command s a).answer.number 0);
          reached = next (decode a.stream a.place) a.list r;
          long = (asking_holds s a (lives r).formed).long;
        }

-- the turns of a step, one after another
module _ (s : State) (a : Asking) (offset : ℕ) (is_last : Bool) where
  abbrev first : Turn
  first = turn s a offset is_last

  abbrev later : Asking
  later = record { stream = a.stream; place = a.place + first.used; list = first.list }

  pub no_room : (more room : ℕ) → room < longest_line → turns more room s a offset is_last ≡ idle continues s a.list
  unfolding turns
  no_room zero room h = refl
  no_room (suc more) room h = rw (lt-ltb room longest_line h, turns)

  pub last_turn : (more room : ℕ)
      → longest_line ≤ room
      → (first.verdict ≡ continues → ⊥)
      → turns (suc more) room s a offset is_last ≡ first
  unfolding turns
  last_turn more room h e = rw (le-ltb room longest_line h, ne_eqb first.verdict continues e, turns)

  pub next-turn : (more room : ℕ)
      → longest_line ≤ room
      → first.verdict ≡ continues
      → turns (suc more) room s a offset is_last
      ≡ behind first.used first.text
      (turns more (room - length first.text) first.state later (offset + first.used) is_last)
  unfolding turns
  next-turn more room h e = rw (le-ltb room longest_line h, eq-eqb first.verdict continues e, turns)

-- what a step leaves, and what it means for all that is printed
record Ends (stream : List ℕ) (s : State) (place : ℕ) (t : Turn) : Type 0 where
  stop : t.verdict ≡ stops → Prints stream s place t.text
  go_on : (t.verdict ≡ stops → ⊥)
      → (text : List ℕ)
      → Prints stream t.state (place + t.used) text
      → Prints stream s place (t.text ++ text)
  reached : Reachable t.state

-- nothing is used and nothing printed
ends-idle : {stream : List ℕ} {s : State} {place : ℕ} (verdict : ℕ) (list : List ℕ)
    → (verdict ≡ stops → ⊥)
    → Reachable s
    → Ends stream s place (idle verdict s list)
unfolding idle
ends-idle {stream} {s} {place} verdict list not r =
    record {
      stop = λ e. absurd (not e);
      go_on = λ _ text h. subst (λ (n : ℕ). Prints stream s n text) (omega arith) h;
      reached = r;
    }

-- the part, with the place moved on
onward : {stream : List ℕ} {place : ℕ} (p : Part stream place) (used : ℕ) (list : List ℕ) → length list ≡ length p.list → Part stream (place + used)
onward p used list long =
    record {
      before = p.before;
      part = p.part;
      after = p.after;
      cut = p.cut;
      start = p.start + used;
      stands = omega (arith, p.stands);
      is_last = p.is_last;
      last = p.last;
      list = list;
      room = omega (arith, p.room);
    }

abbrev asking : {stream : List ℕ} {place : ℕ} → Part stream place → Asking
asking p = record { stream = p.part; place = p.start; list = p.list }

-- a turn that goes on, and the turns behind it
ends-behind : {stream : List ℕ} {s : State} {place : ℕ} (p : Part stream place) (t : Turn)
    → (over p s).verdict ≡ continues
    → Ends stream (over p s).state (place + (over p s).used) t
    → Ends stream s place (behind (over p s).used (over p s).text t)
unfolding behind
ends-behind {stream} {s} {place} p t goes h =
    record {
      stop = λ e. goes_on p goes (h.stop e);
      go_on = λ e text later.
          subst (λ (l : List ℕ). Prints stream s place l) (sym (append_assoc (over p s).text t.text text))
          (goes_on p goes
          (h.go_on e text
          (subst (λ (n : ℕ). Prints stream t.state n text) (omega arith) later)));
      reached = h.reached;
    }

ends_last : {stream : List ℕ} {s : State} {place : ℕ} (p : Part stream place)
    → Reachable s
    → ((over p s).verdict ≡ continues → ⊥)
    → Kept s p.list (over p s)
    → Ends stream s place (over p s)
ends_last {stream} {s} {place} p r not kept = go kept.way
  where
    go : Way s p.list (over p s) → Ends stream s place (over p s)
    go (going_on e) = absurd (not e)
    go (stopping e) = record { stop = λ _. stops_at p e; go_on = λ n. absurd (n e); reached = kept.reached }
    go (waiting e) = subst (λ (t : Turn). Ends stream s place t) (sym e) (ends-idle waits p.list (λ q. omega arith) r)

turns-end : (more room : ℕ) {stream : List ℕ} {s : State} {place : ℕ} (p : Part stream place)
    → Reachable s
    → Ends stream s place (turns more room s (asking p) place p.is_last)
unfolding turns onward
turns-end zero room p r = ends-idle continues p.list (λ q. omega arith) r
turns-end (suc more) room {stream} {s} {place} p r =
    let kept = turn-kept s (asking p) place p.is_last r in
    ⊎_elim
    (λ enough.
    ⊎_elim
    (λ e.
    let goes = eqb-true (over p s).verdict continues e in
    subst (Ends stream s place) (sym (next-turn s (asking p) place p.is_last more room enough goes))
    (ends-behind p _ goes
    (turns-end more (room - length (over p s).text) (onward p (over p s).used (over p s).list kept.long) kept.reached)))
    (λ e.
    let stays = eqb-false (over p s).verdict continues e in
    subst (Ends stream s place) (sym (last_turn s (asking p) place p.is_last more room enough stays)) (ends_last p r stays kept))
    (decide (eqb (over p s).verdict continues)))
    (λ few.
    subst (Ends stream s place) (sym (no_room s (asking p) place p.is_last (suc more) room few))
    (ends-idle continues p.list (λ q. omega arith) r))
    (le-or-lt longest_line room)

-- steps are turns
stepped : {stream : List ℕ} {s : State} {place : ℕ} {text : List ℕ} → Reachable s → Steps stream s place text → Prints stream s place text
unfolding step
stepped {s = s} r (steps_on p room e later) =
    let h = turns-end (suc (length p.part)) room p r in
    h.go_on e _ (stepped h.reached later)
stepped {s = s} r (last_step p room e) = (turns-end (suc (length p.part)) room p r).stop e

-- the whole output
pub steps-print : {stream text : List ℕ} → Steps stream none 0 text → text ≡ print stream
steps-print h = prints (stepped start h)
