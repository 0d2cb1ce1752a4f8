-- What comes of a stream of commands that is given to an empty plan.
use mathlib.Core.Path.{◌≡◌, refl, sym, ap, subst, ◌∙◌}
use mathlib.Core.Bool.{true, false}
use mathlib.Core.List.{List, [], ◌∷◌, ◌++◌, flat_map, append-nil, append_assoc}
use mathlib.Core.Logic.{⊎_elim}
use Prim.Native.Nat.{ℕ, zero, suc, ◌+◌, ◌≤◌, ◌<◌}
use native.Mathlib.Nat.{zero-add, add-zero, suc-add}
use native.Mathlib.Omega.{arith}
use borrow.Author.Tests.{eqb-true, eqb-false, eq-eqb, ne_eqb, le-leb, lt-leb, le-ltb}
use lib.Dec.{eqb, leb}
use lib.ListN.{length, replicate, length-append}
use Rattle.numbers.specs.Limits.{least_starts}
use Rattle.rules.specs.State.{State, none}
use Rattle.format.specs.Command.{Command, bytes, read, decode}
use Rattle.rules.specs.Grounds.{ground_for}
use Rattle.rules.specs.Obey.{obey}
use Rattle.rules.specs.Answer.{Asking, Answered, accept, command}
use Rattle.rules.specs.Day.{after, accepted}
use Rattle.rules.specs.Reachable.{Reachable}
use Rattle.streams.specs.Stream.{Run, asking, stopped, prepend, read_in, run_from, run, askings_from, askings, obey_all, accepts_all, RunHolds, StreamHolds}
use Rattle.numbers.proofs.Tests.{le-or-lt, and_both, and-true}
use Rattle.format.proofs.Bytes.{read-by, fits, decode-bytes-at}
use Rattle.rules.proofs.Judging.{judge-accepted, ground-own}
use Rattle.rules.proofs.Steps.{Refused, is-refused, is-obeyed, Step, step}
use Rattle.rules.proofs.Reaching.{is_read, reachable}

-- a command with no ground against it is accepted, with any start list that is long enough
pub granted-answer :
    (s : State) (a : Asking) (c : Command) (used : ℕ)
    → decode a.stream a.place ≡ read c used
    → ground_for s c ≡ 0
    → least_starts ≤ length a.list
    → command s a ≡ accept (obey s c) used a.list
unfolding command
granted-answer s a c used e g long =
    rw e (is_read s c used a.list (le-ltb (length a.list) least_starts long) ∙ judge-accepted s c used a.list g)

-- such a command at a place of a stream
record Granted (s : State) (stream : List ℕ) (place : ℕ) (c : Command) (used : ℕ) : Type 0 where
  reads : decode stream place ≡ read c used
  no-ground : ground_for s c ≡ 0

module _ {s : State} {stream : List ℕ} {place : ℕ} {c : Command} {used : ℕ} (g : Granted s stream place c used) where
  -- it uses a byte at least, and none past the end
  within : (0 < used) × (place + used ≤ length stream)
  within =
      let r = read-by stream place c used g.reads in
      let long = r.long in
      (omega arith, r.within)

  left : leb (length stream) place ≡ false
  left = lt-leb (length stream) place (omega (arith, within.0, within.1))

  answered : command s (asking stream place) ≡ accept (obey s c) used (replicate least_starts 0)
  answered = granted-answer s (asking stream place) c used g.reads g.no-ground (omega arith)

  left-state : (command s (asking stream place)).state ≡ (obey s c).state
  unfolding accept
  left-state = ap (λ (a : Answered). a.state) answered

-- one equation a turn: at the end, with a command that is obeyed, and with one that is refused
module _ (s : State) (stream : List ℕ) (place : ℕ) where
  ended : (turns : ℕ) → length stream ≤ place → run_from turns s stream place ≡ stopped 0 s place
  unfolding run_from
  ended zero out = refl
  ended (suc turns) out = rw (le-leb (length stream) place out, run_from)

  went_on : (turns : ℕ) (c : Command) (used : ℕ)
      → Granted s stream place c used
      → run_from (suc turns) s stream place ≡ prepend (c ∷ []) (run_from turns (obey s c).state stream (place + used))
  unfolding run_from read_in accept
  went_on turns c used g = rw (left g, run_from) (rw (answered g, g.reads) (rw (answered g)))

  was-refused : (turns : ℕ)
      → place < length stream
      → Refused s (asking stream place)
      → run_from (suc turns) s stream place ≡ stopped (command s (asking stream place)).answer.number s place
  unfolding run_from accepted
  was-refused turns more r = rw (lt-leb (length stream) place more, run_from) (rw r.not-accepted)

-- and of the askings
module _ (s : State) (stream : List ℕ) (place : ℕ) where
  abbrev pub here : Answered
  here = command s (asking stream place)

  pub asks_none : (turns : ℕ) → length stream ≤ place → askings_from turns s stream place ≡ []
  unfolding askings_from
  asks_none zero out = refl
  asks_none (suc turns) out = rw (le-leb (length stream) place out, askings_from)

  pub asks-on : (turns : ℕ)
      → place < length stream
      → here.answer.number ≡ 0
      → askings_from (suc turns) s stream place ≡ asking stream place ∷ askings_from turns here.state stream (place + here.answer.used)
  unfolding askings_from
  asks-on turns more e = rw (lt-leb (length stream) place more, eq-eqb here.answer.number 0 e, askings_from)

  pub asks-last : (turns : ℕ)
      → place < length stream
      → (here.answer.number ≡ 0 → ⊥)
      → askings_from (suc turns) s stream place ≡ asking stream place ∷ []
  unfolding askings_from
  asks-last turns more some = rw (lt-leb (length stream) place more, ne_eqb here.answer.number 0 some, askings_from)

  -- a refusal has a number
  has-number : Refused s (asking stream place) → here.answer.number ≡ 0 → ⊥
  unfolding accepted
  has-number r = eqb-false here.answer.number 0 r.not-accepted

-- where a command is obeyed
asks-granted : (s : State) (stream : List ℕ) (place turns : ℕ) (c : Command) (used : ℕ)
    → Granted s stream place c used
    → askings_from (suc turns) s stream place ≡ asking stream place ∷ askings_from turns (obey s c).state stream (place + used)
unfolding accept
asks-granted s stream place turns c used g =
    asks-on s stream place turns (omega (arith, (within g).0, (within g).1)) (ap (λ (a : Answered). a.answer.number) (answered g))
    ∙ ap (λ (a : Answered). asking stream place ∷ askings_from turns a.state stream (place + a.answer.used)) (answered g)

-- what comes of a stream from a place on, however many turns there are
data Runs (stream : List ℕ) : State → ℕ → Run → Type 0 where
  ends : (s : State) (place : ℕ) → length stream ≤ place → Runs stream s place (stopped 0 s place)
  obeys : (s : State) (place : ℕ) (c : Command) (used : ℕ) (r : Run)
      → Granted s stream place c used
      → Runs stream (obey s c).state (place + used) r
      → Runs stream s place (prepend (c ∷ []) r)
  refuses : (s : State) (place : ℕ)
      → place < length stream
      → Refused s (asking stream place)
      → Runs stream s place (stopped (command s (asking stream place)).answer.number s place)

-- turns enough come to it
runs : (turns : ℕ) (s : State) (stream : List ℕ) (place : ℕ)
    → length stream ≤ place + turns
    → Runs stream s place (run_from turns s stream place)
runs zero s stream place h = rw (ended s stream place zero (omega arith)) (ends s place (omega arith))
runs (suc turns) s stream place h =
    ⊎_elim (λ out. rw (ended s stream place (suc turns) out) (ends s place out))
    (λ more. go more (step s (asking stream place)) (λ s' used. runs turns s' stream (place + used)))
    (le-or-lt (length stream) place)
  where
    go : place < length stream
        → Step s (asking stream place)
        → ((s' : State) (used : ℕ)
        → length stream ≤ place + used + turns
        → Runs stream s' (place + used) (run_from turns s' stream (place + used)))
        → Runs stream s place (run_from (suc turns) s stream place)
    go more (is-refused r) later = rw (was-refused s stream place turns more r) (refuses s place more r)
    go more (is-obeyed c used o) later =
        let g : Granted s stream place c used
        = record {
          reads = o.decoded;
          no-ground = ground-own s c o.granted.turn o.granted.limits ∙ o.granted.own;
        } in
        rw (went_on s stream place turns c used g)
        (obeys s place c used _ g (later (obey s c).state used (omega (arith, (within g).0))))

comes-to : {stream : List ℕ} {s : State} {place : ℕ} {r : Run}
    → Runs stream s place r
    → (turns : ℕ)
    → length stream ≤ place + turns
    → run_from turns s stream place ≡ r
comes-to {stream} (ends s place out) turns h = ended s stream place turns out
comes-to (obeys s place c used r g later) zero h = absurd (omega (arith, (within g).0, (within g).1))
comes-to {stream} (obeys s place c used r g later) (suc turns) h =
    went_on s stream place turns c used g ∙ ap (prepend (c ∷ [])) (comes-to later turns (omega (arith, (within g).0)))
comes-to (refuses s place more r) zero h = absurd (omega arith)
comes-to {stream} (refuses s place more r) (suc turns) h = was-refused s stream place turns more r

-- as many turns as bytes are left are enough
pub enough : (turns turns' : ℕ) (s : State) (stream : List ℕ) (place : ℕ)
    → length stream ≤ place + turns
    → length stream ≤ place + turns'
    → run_from turns s stream place ≡ run_from turns' s stream place
enough turns turns' s stream place h h' = comes-to (runs turns' s stream place h') turns h

-- the plan is what the askings give
asked : {stream : List ℕ} {s : State} {place : ℕ} {r : Run}
    → Runs stream s place r
    → (turns : ℕ)
    → length stream ≤ place + turns
    → r.state ≡ after s (askings_from turns s stream place)
unfolding stopped prepend after
asked {stream} (ends s place out) turns h = rw (asks_none s stream place turns out)
asked (obeys s place c used r g later) zero h = absurd (omega (arith, (within g).0, (within g).1))
asked {stream} (obeys s place c used r g later) (suc turns) h =
    rw (asks-granted s stream place turns c used g)
    (asked later turns (omega (arith, (within g).0))
    ∙ ap (λ (t : State). after t (askings_from turns (obey s c).state stream (place + used))) (sym (left-state g)))
asked (refuses s place more r) zero h = absurd (omega arith)
asked {stream} (refuses s place more r) (suc turns) h = rw (asks-last s stream place turns more (has-number s stream place r)) (sym r.unchanged)

holds : {stream : List ℕ} {s : State} {place : ℕ} {r : Run} → Runs stream s place r → place ≤ length stream → RunHolds s stream r
unfolding stopped prepend accepts_all obey_all
holds (ends s place out) inside =
    record {
      whole = λ e. omega arith;
      within = inside;
      refusal = λ d. absurd (d refl);
      accepted = refl;
      obeyed = refl;
    }
holds (obeys s place c used r g later) inside =
    let l = holds later (within g).1 in
    record {
      whole = l.whole;
      within = l.within;
      refusal = l.refusal;
      accepted = and_both (eqb (ground_for s c) 0) _ (eq-eqb (ground_for s c) 0 g.no-ground) l.accepted;
      obeyed = l.obeyed;
    }
holds {stream} (refuses s place more r) inside =
    record {
      whole = λ e. absurd (has-number s stream place r e);
      within = inside;
      refusal = λ d. (more, refl);
      accepted = refl;
      obeyed = refl;
    }

-- every stream
pub stream-holds : (stream : List ℕ) → StreamHolds stream
unfolding run askings
stream-holds stream =
    let whole = runs (length stream) none stream 0 (omega arith) in
    let state = asked whole (length stream) (omega arith) in
    record {
      runs = holds whole (omega arith);
      asked = state;
      reached = subst (λ (s : State). Reachable s) (sym state) (reachable (askings stream));
    }

-- the commands of a list fit their widths
abbrev pub FitAll : List Command → Type 0
FitAll [] = Unit {0}
FitAll (c ∷ later) = fits c × FitAll later

prepend-none : (r : Run) → prepend [] r ≡ r
unfolding prepend
prepend-none r = refl

prepend-more : (c : Command) (later : List Command) (r : Run) → prepend (c ∷ []) (prepend later r) ≡ prepend (c ∷ later) r
unfolding prepend
prepend-more c later r = refl

-- the bytes of commands that are accepted in turn, wherever they stand: the run goes on behind them
pub through : (cs : List Command) (turns : ℕ) (s : State) (before rest stream : List ℕ)
    → stream ≡ before ++ flat_map bytes cs ++ rest
    → FitAll cs
    → accepts_all s cs ≡ true
    → run_from (length cs + turns) s stream (length before)
    ≡ prepend cs (run_from turns (obey_all s cs) stream (length before + length (flat_map bytes cs)))
unfolding flat_map accepts_all obey_all
through [] turns s before rest stream e f h = rw (zero-add turns, add-zero (length before)) (sym (prepend-none _))
through (c ∷ later) turns s before rest stream e f h =
    let here = length before in
    let a = and-true (eqb (ground_for s c) 0) _ h in
    let split : stream ≡ before ++ bytes c ++ flat_map bytes later ++ rest
    = e ∙ ap (λ (l : List ℕ). l ++ rest) (sym (append_assoc before (bytes c) (flat_map bytes later))) in
    let g : Granted s stream here c (length (bytes c))
    = record {
      reads =
          rw (split, append_assoc (before ++ bytes c) (flat_map bytes later) rest)
          (decode-bytes-at before c (flat_map bytes later ++ rest) f.0);
      no-ground = eqb-true (ground_for s c) 0 a.0;
    } in
    let next =
    rw (length-append before (bytes c))
    at (through later turns (obey s c).state (before ++ bytes c) rest stream split f.1 a.1) in
    let end : here + length (bytes c) + length (flat_map bytes later) ≡ here + length (bytes c ++ flat_map bytes later)
    = omega (arith, length-append (bytes c) (flat_map bytes later)) in
    ap (λ (n : ℕ). run_from n s stream here) (suc-add (length later) turns)
    ∙ went_on s stream here (length later + turns) c (length (bytes c)) g
    ∙ ap (prepend (c ∷ [])) next
    ∙ prepend-more c later _
    ∙ ap (λ (n : ℕ). prepend (c ∷ later) (run_from turns (obey_all (obey s c).state later) stream n)) end

-- the bytes of commands that are accepted in turn are accepted whole, and the plan has obeyed them
pub written : (cs : List Command)
    → FitAll cs
    → accepts_all none cs ≡ true
    → run (flat_map bytes cs)
    ≡ record { number = 0; place = length (flat_map bytes cs); commands = cs; state = obey_all none cs }
unfolding run stopped prepend
written cs f h =
    let stream = flat_map bytes cs in
    let whole : run_from (length cs + length stream) none stream 0 ≡ _
    = through cs (length stream) none [] [] stream (sym (append-nil stream)) f h in
    enough (length stream) (length cs + length stream) none stream 0 (omega arith) (omega arith)
    ∙ whole
    ∙ ap (prepend cs) (ended (obey_all none cs) stream (0 + length stream) (length stream) (omega arith))
    ∙ rw (zero-add (length stream), append-nil cs)
