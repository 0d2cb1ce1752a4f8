-- The bytes of a written plan, and what is promised of them and of the list that they are written to.
use mathlib.Core.Path.{◌≡◌, refl, sym, ap, ap₂, ◌∙◌}
use mathlib.Core.Bool.{true, false}
use mathlib.Core.Logic.{⊎_elim}
use mathlib.Core.List.{List, [], ◌∷◌, ◌++◌, map, flat_map, append-nil}
use Prim.Native.Nat.{ℕ, zero, suc, ◌+◌, ◌*◌, ◌≤◌, ◌<◌}
use native.Mathlib.Omega.{arith}
use borrow.Author.Tests.{lt-ltb, le-ltb}
use lib.ListN.{length, take, drop, length-append, length-drop}
use lib.Seq.{take-append_seam, drop-append_seam}
use Rattle.books.specs.Kind.{each}
use Rattle.rules.specs.Phase
use Rattle.rules.specs.State.{State, none}
use Rattle.format.specs.Command.{Command, activation, execution, forms, find, byte_of, operands_of, widths_of, room, bytes}
use Rattle.rules.specs.Obey.{with_books}
use Rattle.rules.specs.Answer.{front}
use Rattle.rules.specs.Reachable.{Reachable}
use Rattle.streams.specs.Stream.{Run, run}
use Rattle.streams.specs.Instance.{Instance, instance_of, unbegun, opening_of, task_of, tasks_to, commands, written}
use Rattle.streams.specs.Write.{Wrote, untouched, at_front, is_whole, written_length, write}
use Rattle.streams.specs.WriteHolds.{WrittenHolds, WriteHolds, EveryWriteHolds}
use Rattle.numbers.proofs.Tests.{decide, clash, le-or-lt}
use Rattle.tree.proofs.Concatenated.{flatMap-append}
use Rattle.streams.proofs.Alike.{refused-alike, granted-alike}
use Rattle.format.proofs.Number.{length-littles}
use Rattle.streams.proofs.Stream as streams
use Rattle.streams.proofs.Staged.{staged}
use Rattle.streams.proofs.Instance.{Proper, commands-lead, whole-given, proper, begun-whole}

-- the bytes of commands, one list behind another
pub bytes-append : (a b : List Command) → flat_map bytes (a ++ b) ≡ flat_map bytes a ++ flat_map bytes b
bytes-append = flatMap-append bytes

pub bytes_one : (c : Command) → flat_map bytes (c ∷ []) ≡ bytes c
unfolding flat_map
bytes_one c = append-nil (bytes c)

-- how long they are
bytes-long : (c : Command) → length (bytes c) ≡ 1 + room (widths_of c)
unfolding bytes
bytes-long c = omega (arith, length-littles (widths_of c) (operands_of c))

tasks-long : (m : Instance) (k : ℕ) → length (flat_map bytes (tasks_to m k)) ≡ 7 * k
unfolding tasks_to flat_map widths_of find forms byte_of room
tasks-long m zero = refl
tasks-long m (suc k) =
    let last = task_of m (suc k) in
    rw (bytes-append (tasks_to m k) (last ∷ []), bytes_one last, length-append (flat_map bytes (tasks_to m k)) (bytes last))
    (omega (arith, tasks-long m k, bytes-long last))

order-long : (next : ℕ → Command) (width : ℕ) → ((i : ℕ) → length (bytes (next i)) ≡ width) → (l : List ℕ)
    → length (flat_map bytes (map next l)) ≡ width * length l
unfolding flat_map
order-long next width each [] = omega arith
order-long next width each (i ∷ l) =
    rw (length-append (bytes (next i)) (flat_map bytes (map next l)), each i, order-long next width each l) (omega arith)

-- a written plan in its four parts
pub written-parts :
    (m : Instance)
    → written m
    ≡ bytes (opening_of m)
    ++ flat_map bytes (tasks_to m m.size)
    ++ flat_map bytes (map activation m.activation)
    ++ flat_map bytes (map execution m.execution)
unfolding written commands
written-parts m = rw (bytes-append, bytes-append, bytes-append, bytes_one)

written-long : (m : Instance) → Proper m → length (written m) ≡ written_length m
unfolding written_length widths_of find forms byte_of room
written-long m g =
    let act = g.activation.whole in
    let exec = g.execution.whole in
    rw (written-parts m, length-append, length-append, length-append)
    (omega (
      arith,
      bytes-long (opening_of m),
      tasks-long m m.size,
      order-long activation 3 (λ i. bytes-long (activation i)) m.activation,
      order-long execution 3 (λ i. bytes-long (execution i)) m.execution,
    ))

-- what comes of reading it into an empty plan
written_read :
    (m : Instance)
    → Proper m
    → run (written m) ≡ record { number = 0; place = length (written m); commands = commands m; state = unbegun m }
unfolding written Phase.holds_trays
written_read m g =
    let leads = commands-lead m g none refl in
    rw (← leads.obeyed) (streams.written (commands m) leads.fitting leads.accepted)

-- so the bytes tell the plan
written-alike : (m m' : Instance) → Proper m → Proper m' → written m ≡ written m' → m ≡ m'
unfolding unbegun
written-alike m m' g g' e =
    ap (λ (r : Run). instance_of r.state) (sym (written_read m g) ∙ ap run e ∙ written_read m' g')

-- before BEGIN nothing is there but what was given
same-plan : (s : State) → Reachable s → s.phase ≡ Phase.orders → unbegun (instance_of s) ≡ s
unfolding unbegun with_books
same-plan s reached now =
    let books = (staged reached).no-books (omega arith) in
    ap (λ (phase : ℕ). with_books s phase [] (each (λ _. []))) (sym now)
    ∙ ap₂ (with_books s s.phase) (sym books.0) (sym books.1)

plan-holds : (s : State) → Reachable s → is_whole s ≡ true → WrittenHolds s
plan-holds s reached whole =
    let g = proper s reached whole in
    record {
      sized = written-long (instance_of s) g;
      restored = written_read (instance_of s) g;
      same = same-plan s reached;
      alike = λ s' reached' whole'. written-alike (instance_of s) (instance_of s') g (proper s' reached' whole');
    }

-- one equation a branch: an order is not complete, the list is too short, or the plan is written
module _ (s : State) (list : List ℕ) where
  pub write-early : is_whole s ≡ false → write s list ≡ untouched 3 list
  unfolding write
  write-early early = rw early

  pub write-short : is_whole s ≡ true → length list < written_length (instance_of s) → write s list ≡ untouched 11 list
  unfolding write
  write-short whole short = rw (whole, lt-ltb (length list) (written_length (instance_of s)) short)

  pub write-whole :
      is_whole s ≡ true → written_length (instance_of s) ≤ length list → write s list ≡ at_front (written (instance_of s)) list
  unfolding write
  write-whole whole room = rw (whole, le-ltb (length list) (written_length (instance_of s)) room)

-- a refusal, and a list with its front written
refusal-holds :
    (s : State) (list : List ℕ) (k : ℕ)
    → (k ≡ 0 → ⊥)
    → (is_whole s ≡ false → k ≡ 3)
    → (is_whole s ≡ true → length list < written_length (instance_of s) → k ≡ 11)
    → (is_whole s ≡ true → written_length (instance_of s) ≤ length list → ⊥)
    → WriteHolds s list (untouched k list)
unfolding untouched
refusal-holds s list k some early short granted =
    record {
      early = early;
      short = short;
      granted = λ whole room. absurd (granted whole room);
      refusal = λ _. (refl, refl);
      count = λ e. absurd (some e);
      front = λ e. absurd (some e);
      past = refl;
      long = refl;
    }

front-holds :
    (s : State) (list : List ℕ)
    → is_whole s ≡ true
    → written_length (instance_of s) ≤ length list
    → length (written (instance_of s)) ≡ written_length (instance_of s)
    → WriteHolds s list (at_front (written (instance_of s)) list)
unfolding at_front front
front-holds s list whole room long =
    let entries = written (instance_of s) in
    record {
      early = λ early. absurd (clash whole early);
      short = λ _ short. absurd (omega arith);
      granted = λ _ _. refl;
      refusal = λ d. absurd (d refl);
      count = λ _. refl;
      front = λ _. take-append_seam entries _;
      past = drop-append_seam entries _;
      long = rw (length-append, length-drop) (omega arith);
    }

-- the three cases
by-case :
    {A : Type 0} (s : State) (list : List ℕ)
    → (is_whole s ≡ false → A)
    → (is_whole s ≡ true → length list < written_length (instance_of s) → A)
    → (is_whole s ≡ true → written_length (instance_of s) ≤ length list → A)
    → A
by-case s list early short granted =
    ⊎_elim
    (λ (whole : is_whole s ≡ true). ⊎_elim (granted whole) (short whole) (le-or-lt (written_length (instance_of s)) (length list)))
    early
    (decide (is_whole s))

list-holds : (s : State) → Reachable s → (list : List ℕ) → WriteHolds s list (write s list)
list-holds s reached list =
    by-case s list
    (λ early.
    rw (write-early s list early)
    (refusal-holds s list 3 (λ e. omega arith) (λ _. refl) (λ whole _. absurd (clash whole early)) (λ whole _. clash whole early)))
    (λ whole short.
    rw (write-short s list whole short)
    (refusal-holds s list 11 (λ e. omega arith) (λ early. absurd (clash whole early)) (λ _ _. refl) (λ _ room. omega arith)))
    (λ whole room.
    rw (write-whole s list whole room) (front-holds s list whole room (plan-holds s reached whole).sized))

pub every-write-holds : EveryWriteHolds
every-write-holds = record { given = whole-given; begun = begun-whole; plans = plan-holds; lists = list-holds }

-- what is written is whole
pub granted-whole : (s : State) (list : List ℕ) (w : Wrote) → WriteHolds s list w → w.number ≡ 0 → is_whole s ≡ true
granted-whole s list w h e =
    ⊎_elim (λ whole. whole) (λ early. let three = h.early early in absurd (omega arith)) (decide (is_whole s))

-- no other answer and no other list would do
pub one-write : (s : State) (list : List ℕ) (w w' : Wrote) → WriteHolds s list w → WriteHolds s list w' → w ≡ w'
one-write s list w w' h h' =
    by-case s list
    (λ early. refused-alike w w' list 3 (λ e. omega arith) (h.early early) (h'.early early) h.refusal h'.refusal)
    (λ whole short.
    refused-alike w w' list 11 (λ e. omega arith) (h.short whole short) (h'.short whole short) h.refusal h'.refusal)
    (λ whole room.
    let e = h.granted whole room in
    let e' = h'.granted whole room in
    let counts : w.count ≡ w'.count = h.count e ∙ sym (h'.count e') in
    granted-alike w w' w.count (e ∙ sym e') counts
    (h.front e ∙ sym (ap (λ (k : ℕ). take k w'.list) counts ∙ h'.front e'))
    (h.past ∙ ap (λ (k : ℕ). drop k list) counts ∙ sym (ap (λ (k : ℕ). drop k w'.list) counts ∙ h'.past)))
