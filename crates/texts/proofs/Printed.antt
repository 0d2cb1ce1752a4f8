-- However the input comes, what is printed is `print` of all of it.
use mathlib.Core.Path.{◌≡◌, refl, sym, ap, subst, ◌∙◌}
use mathlib.Core.Bool.{Bool, true, false, cond}
use mathlib.Core.List.{List, [], ◌++◌, append-nil}
use mathlib.Core.Logic.{⊎_elim}
use Prim.Native.Nat.{ℕ, zero, suc, ◌+◌, ◌≤◌, ◌<◌}
use native.Mathlib.Omega.{arith}
use borrow.Author.Tests.{le-ltb, eqb-true, eq-eqb, ne_eqb, le-leb, lt-leb}
use lib.Dec.{eqb, leb, ltb}
use lib.ListN.{length, take, drop, replicate}
use lib.Seq.{take-append_seam}
use Rattle.numbers.specs.Limits.{least_starts}
use Rattle.rules.specs.State.{State, none}
use Rattle.format.specs.Command.{Command, plan, task, activation, execution, begin, done, fetch, places, Decoded, refused, read, decode}
use Rattle.rules.specs.Grounds.{ground_for}
use Rattle.rules.specs.Obey.{Outcome, obey}
use Rattle.rules.specs.Answer.{Answered, Asking, refuse, front, accept, judge, respond, command}
use Rattle.texts.specs.Text.{line, accepted_line}
use Rattle.texts.specs.Printer.{continues, waits, stops, Turn, idle, said, answered, is_awaited, turn, print_from, print, said_of, Part, over, Prints, goes_on, waits_for, stops_at}
use Rattle.streams.specs.Stream.{asking, askings_from, askings}
use Rattle.numbers.proofs.Tests.{clash, same_or_not, le-or-lt}
use Rattle.format.proofs.Bytes.{Counts, decode-counts}
use Rattle.texts.proofs.Parts.{as-whole}
use Rattle.streams.proofs.Stream.{here, asks_none, asks-on, asks-last}

-- two answers that differ only in what stands behind the starts in their lists
record Alike (a a' : Answered) : Type 0 where
  answer : a.answer ≡ a'.answer
  state : a.state ≡ a'.state
  started : take a.answer.starts a.list ≡ take a'.answer.starts a'.list

refused-alike : (k : ℕ) (s : State) (list list' : List ℕ) → Alike (refuse k s list) (refuse k s list')
unfolding refuse
refused-alike k s list list' = record { answer = refl; state = refl; started = refl }

accepted-alike : (o : Outcome) (used : ℕ) (list list' : List ℕ) → Alike (accept o used list) (accept o used list')
unfolding accept front
accepted-alike o used list list' =
    record {
      answer = refl;
      state = refl;
      started =
          take-append_seam o.started (drop (length o.started) list)
          ∙ sym (take-append_seam o.started (drop (length o.started) list'));
    }

judged-alike : (s : State) (c : Command) (used : ℕ) (list list' : List ℕ) → Alike (judge s c used list) (judge s c used list')
unfolding judge
judged-alike s c used list list' = go (eqb (ground_for s c) 0)
  where
    go : (t : Bool)
        → Alike (cond t (accept (obey s c) used list) (refuse (ground_for s c) s list))
        (cond t (accept (obey s c) used list') (refuse (ground_for s c) s list'))
    go true = accepted-alike (obey s c) used list list'
    go false = refused-alike (ground_for s c) s list list'

responded-alike : (s : State) (d : Decoded) (list list' : List ℕ)
    → least_starts ≤ length list
    → least_starts ≤ length list'
    → Alike (respond s d list) (respond s d list')
unfolding respond
responded-alike s d list list' room room' =
    rw (le-ltb (length list) least_starts room, le-ltb (length list') least_starts room') (go d)
  where
    go : (d : Decoded)
        → Alike (elim d [ refused k ↦ refuse k s list | read c used ↦ judge s c used list ])
        (elim d [ refused k ↦ refuse k s list' | read c used ↦ judge s c used list' ])
    go (refused k) = refused-alike k s list list'
    go (read c used) = judged-alike s c used list list'

-- their lines are the same
line-alike : (c : Command) {a a' : Answered} → Alike a a' → line c a ≡ line c a'
unfolding line
line-alike (plan n p bound) h = refl
line-alike (task parent work out) h = refl
line-alike (activation i) h = refl
line-alike (execution i) h = refl
line-alike begin h = rw (h.started, h.answer, h.state)
line-alike (done j) h = rw (h.started, h.answer, h.state)
line-alike fetch h = rw h.state
line-alike (places bound) h = rw (h.started, h.state)

accepted_line-alike : (d : Decoded) {a a' : Answered} → Alike a a' → accepted_line d a ≡ accepted_line d a'
unfolding accepted_line
accepted_line-alike (refused k) h = refl
accepted_line-alike (read c used) h = line-alike c h

-- two turns that differ in their start lists at most
record Like (t t' : Turn) : Type 0 where
  verdict : t.verdict ≡ t'.verdict
  used : t.used ≡ t'.used
  text : t.text ≡ t'.text
  state : t.state ≡ t'.state

answered-alike : (d : Decoded) (offset : ℕ) {a a' : Answered} → Alike a a' → Like (answered d offset a) (answered d offset a')
unfolding answered said
answered-alike d offset h =
    record {
      verdict = rw h.answer;
      used = rw h.answer;
      text = rw (accepted_line-alike d h, h.answer);
      state = h.state;
    }

turn-alike : (s : State) (stream : List ℕ) (place : ℕ) (list list' : List ℕ) (offset : ℕ)
    → least_starts ≤ length list
    → least_starts ≤ length list'
    → Like (turn s (record { stream = stream; place = place; list = list }) offset true)
    (turn s (record { stream = stream; place = place; list = list' }) offset true)
unfolding turn is_awaited idle command
turn-alike s stream place list list' offset room room' = go (leb (length stream) place)
  where
    go : (t : Bool)
        → Like (cond t (idle stops s list) (answered (decode stream place) offset (respond s (decode stream place) list)))
        (cond t (idle stops s list') (answered (decode stream place) offset (respond s (decode stream place) list')))
    go true = record { verdict = refl; used = refl; text = refl; state = refl }
    go false = answered-alike (decode stream place) offset (responded-alike s (decode stream place) list list' room room')

stopped : stops ≡ continues → ⊥
stopped e = omega arith

chosen : (t : Bool) → cond t continues stops ≡ continues → t ≡ true
chosen true e = refl
chosen false e = absurd (stopped e)

module _ (s : State) (list : List ℕ) where
  judged-useful : (c : Command) (used : ℕ)
      → 0 < used
      → (judge s c used list).answer.number ≡ 0
      → 0 < (judge s c used list).answer.used
  unfolding judge accept refuse
  judged-useful c used some = go (eqb (ground_for s c) 0) refl
    where
      go : (t : Bool)
          → eqb (ground_for s c) 0 ≡ t
          → (cond t (accept (obey s c) used list) (refuse (ground_for s c) s list)).answer.number ≡ 0
          → 0 < (cond t (accept (obey s c) used list) (refuse (ground_for s c) s list)).answer.used
      go true e number = some
      go false e number = absurd (clash (eq-eqb (ground_for s c) 0 number) e)

  responded-useful : (d : Decoded) → Counts d → (respond s d list).answer.number ≡ 0 → 0 < (respond s d list).answer.used
  unfolding respond refuse
  responded-useful d h = go (ltb (length list) least_starts) d h
    where
      go : (t : Bool) (d : Decoded)
          → Counts d
          → (cond t (refuse 10 s list) (elim d [ refused k ↦ refuse k s list | read c used ↦ judge s c used list ])).answer.number ≡ 0
          → 0
          < (cond t (refuse 10 s list) (elim d [ refused k ↦ refuse k s list | read c used ↦ judge s c used list ])).answer.used
      go true d h e = absurd (omega arith)
      go false (refused k) h e = absurd (h e)
      go false (read c used) h e = judged-useful c used h e

  -- a turn that goes on has used a byte
  pub going : (stream : List ℕ) (place offset : ℕ) (is_last : Bool)
      → (turn s (record { stream = stream; place = place; list = list }) offset is_last).verdict ≡ continues
      → (place < length stream) × (0 < (turn s (record { stream = stream; place = place; list = list }) offset is_last).used)
  unfolding turn idle answered command
  going stream place offset is_last = go (is_awaited is_last (decode stream place))
    where
      a : Asking
      a = record { stream = stream; place = place; list = list }

      taken : Bool → Turn
      taken t =
          cond t (idle waits s list)
          (cond (leb (length stream) place) (idle stops s list) (answered (decode stream place) offset (command s a)))

      go : (t : Bool) → (taken t).verdict ≡ continues → (place < length stream) × (0 < (taken t).used)
      go true e = absurd (omega arith)
      go false e =
          ⊎_elim (λ out. absurd (stopped (rw (le-leb (length stream) place out) at e)))
          (λ within.
          let t = lt-leb (length stream) place within in
          let number = eqb-true (respond s (decode stream place) list).answer.number 0 (chosen _ (rw t at e)) in
          rw t (within, responded-useful (decode stream place) (decode-counts stream place) number))
          (le-or-lt (length stream) place)

-- the turn over the whole input with a list of 64 entries
abbrev whole-turn : State → List ℕ → ℕ → Turn
whole-turn s stream place = turn s (record { stream = stream; place = place; list = replicate least_starts 0 }) place true

like-whole : {stream : List ℕ} {place : ℕ} (p : Part stream place) (s : State)
    → ((over p s).verdict ≡ waits → ⊥)
    → Like (over p s) (whole-turn s stream place)
like-whole {stream} {place} p s goes =
    let e =
    as-whole s p.list p.before p.part p.after p.start place p.is_last p.last goes
    ∙ ap (λ (l : List ℕ). turn s (record { stream = l; place = length p.before + p.start; list = p.list }) place true)
    (sym p.cut)
    ∙ ap (λ (n : ℕ). turn s (record { stream = stream; place = n; list = p.list }) place true) (sym p.stands) in
    subst (λ (t : Turn). Like t (whole-turn s stream place)) (sym e)
    (turn-alike s stream place p.list (replicate least_starts 0) place p.room (omega arith))

-- nothing is printed where no byte is left
nothing_left : (s : State) (stream : List ℕ) (place : ℕ) → length stream ≤ place → (whole-turn s stream place).text ≡ []
unfolding turn is_awaited idle
nothing_left s stream place out = rw (le-leb (length stream) place out)

goes-not-waits : {v : ℕ} → v ≡ continues → v ≡ waits → ⊥
goes-not-waits e e' = omega arith

stops-not-waits : {v : ℕ} → v ≡ stops → v ≡ waits → ⊥
stops-not-waits e e' = omega arith

-- what is printed from a place on, with turns enough
from : {stream : List ℕ} {s : State} {place : ℕ} {text : List ℕ}
    → Prints stream s place text
    → (turns : ℕ)
    → length stream ≤ place + turns
    → print_from turns s stream place ≡ text
unfolding print_from
from (waits_for p w later) turns enough = from later turns enough
from {stream} {s} {place} (goes_on p goes later) zero enough =
    let l = like-whole p s (goes-not-waits goes) in
    let some = going s (replicate least_starts 0) stream place place true (sym l.verdict ∙ goes) in
    absurd (omega arith)
from {stream} {s} {place} (goes_on p goes later) (suc turns) enough =
    let l = like-whole p s (goes-not-waits goes) in
    let some = going s (replicate least_starts 0) stream place place true (sym l.verdict ∙ goes) in
    rw (← l.verdict, goes, ← l.text, ← l.state, ← l.used)
    (ap (λ (rest : List ℕ). (over p s).text ++ rest) (from later turns (omega (arith, l.used, some.1))))
from {stream} {s} {place} (stops_at p stop) zero enough =
    sym ((like-whole p s (stops-not-waits stop)).text ∙ nothing_left s stream place (omega arith))
from {stream} {s} {place} (stops_at p stop) (suc turns) enough =
    let l = like-whole p s (stops-not-waits stop) in
    rw (← l.verdict, stop, ← l.text) (append-nil (over p s).text)

-- the whole output
pub prints : {stream text : List ℕ} → Prints stream none 0 text → text ≡ print stream
unfolding print
prints {stream} h = sym (from h (length stream) (omega arith))

-- turn by turn the day printer asks what a run of the stream asks, and prints what is answered
module _ (s : State) (stream : List ℕ) (place : ℕ) where
  abbrev line-here : List ℕ
  line-here = said (decode stream place) place (here s stream place)

  printed-none : (turns : ℕ) → length stream ≤ place → print_from turns s stream place ≡ []
  unfolding print_from turn idle is_awaited
  printed-none zero out = refl
  printed-none (suc turns) out = rw (le-leb (length stream) place out, print_from)

  turned : place < length stream → turn s (asking stream place) place true ≡ answered (decode stream place) place (here s stream place)
  unfolding turn is_awaited
  turned more = rw (lt-leb (length stream) place more)

  printed-on : (turns : ℕ)
      → place < length stream
      → (here s stream place).answer.number ≡ 0
      → print_from (suc turns) s stream place ≡ line-here ++ print_from turns (here s stream place).state stream (place + (here s stream place).answer.used)
  unfolding print_from answered
  printed-on turns more e = rw (turned more, eq-eqb (here s stream place).answer.number 0 e, print_from) (rw (turned more))

  printed-last : (turns : ℕ)
      → place < length stream
      → ((here s stream place).answer.number ≡ 0 → ⊥)
      → print_from (suc turns) s stream place ≡ line-here ++ []
  unfolding print_from answered
  printed-last turns more some = rw (turned more, ne_eqb (here s stream place).answer.number 0 some, print_from)

as-run : (turns : ℕ) (s : State) (stream : List ℕ) (place : ℕ)
    → print_from turns s stream place ≡ said_of s (askings_from turns s stream place)
unfolding said_of print_from askings_from
as-run zero s stream place = refl
as-run (suc turns) s stream place =
    ⊎_elim (λ out. rw (printed-none s stream place (suc turns) out, asks_none s stream place (suc turns) out))
    (λ more.
    ⊎_elim
    (λ e.
    printed-on s stream place turns more e
    ∙ ap (λ (rest : List ℕ). line-here s stream place ++ rest)
    (as-run turns (here s stream place).state stream (place + (here s stream place).answer.used))
    ∙ ap (said_of s) (sym (asks-on s stream place turns more e)))
    (λ some. printed-last s stream place turns more some ∙ ap (said_of s) (sym (asks-last s stream place turns more some)))
    (same_or_not (here s stream place).answer.number 0))
    (le-or-lt (length stream) place)

-- the whole output is what the askings of the run are answered
pub prints-run : (stream : List ℕ) → print stream ≡ said_of none (askings stream)
unfolding print askings
prints-run stream = as-run (length stream) none stream 0
