-- All streams accepted before get the same answers: BEGIN as it was, and as it is.
use mathlib.Core.Path.{◌≡◌, refl, sym, ap, ◌∙◌}
use mathlib.Core.Bool.{Bool, true, false, ◌&&◌, ◌||◌}
use mathlib.Core.Logic.{⊎_elim}
use mathlib.Core.List.{List, [], ◌∷◌}
use Prim.Native.Nat.{ℕ, ◌+◌, ◌≤◌}
use native.Mathlib.Omega.{arith}
use borrow.Author.Tests.{eqb-true, eq-eqb, ne_eqb, leb-true, le-ltb}
use lib.Dec.{eqb, leb}
use lib.ListN.{length}
use Rattle.numbers.specs.Limits.{least_starts}
use Rattle.rules.specs.Phase
use Rattle.rules.specs.State.{State}
use Rattle.format.specs.Command.{plan, task, activation, execution, begin, done, fetch, places, Decoded, refused, read, forms, find, byte_of, widths_of, room, littles, bytes, decode}
use Rattle.rules.specs.Grounds.{no_execution, in_turn, in_limits, peaks_of, demand, own_ground, ground_for}
use Rattle.rules.specs.Obey.{Outcome, with_orders, completed, proceed, fresh, obey}
use Rattle.rules.specs.Answer.{Asking, Answered, refuse, accept, judge, command}
use Rattle.rules.specs.Day.{answers, accepts, is_begin}
use Rattle.streams.specs.OneOrder.{one_order, ground_before, outcome_before, begin_before, command_before, answers_before, none_refused, EveryOneOrderHolds}
use Rattle.numbers.proofs.Tests.{decide, clash, same_or_not, or_left, or-none, and-true, and_none}
use Rattle.format.proofs.Bytes.{read-by}
use Rattle.rules.proofs.Judging.{judge-refused, judge-accepted}
use Rattle.rules.proofs.Completing.{either_order, begin-ground}
use Rattle.rules.proofs.Formed.{demand-none}
use Rattle.rules.proofs.Reaching.{is_read}
use Rattle.streams.proofs.OneOrder.{no-entries, completed-given, found, begin-in-turn, one-order-holds, part-late}

-- what is complete stays as it is
completed-whole : (s : State) → length s.activation ≡ s.size → length s.execution ≡ s.size → completed s ≡ s
unfolding completed with_orders
completed-whole s ranked placed =
    either_order (λ l. with_orders s s.activation l ≡ s) s
    (λ none.
    let zero = eqb-true (length s.execution) 0 none in
    let act = no-entries s.activation (omega arith) in
    let exec = no-entries s.execution zero in
    ap (with_orders s s.activation) (act ∙ sym exec))
    (λ _. refl)

-- BEGIN as it was: where it was in turn, it still is
module _ (s : State) where
  -- the plan was in orders with a full activation order
  abbrev full_order : Bool
  full_order = eqb s.phase Phase.orders && eqb (length s.activation) s.size

  abbrev both : Bool
  both = full_order && eqb (length s.execution) s.size

  -- what was accepted is accepted, and is answered alike
  accepted-before :
      ground_before s ≡ 0
      → (ground_for s begin ≡ 0) × (obey s begin ≡ outcome_before s)
  unfolding ground_before outcome_before obey
  accepted-before g =
      let was = demand-none both 3 (own_ground s begin) (λ q. omega arith) g in
      let last = and-true full_order (eqb (length s.execution) s.size) was.0 in
      let first = and-true (eqb s.phase Phase.orders) (eqb (length s.activation) s.size) last.0 in
      let ranked = eqb-true (length s.activation) s.size first.1 in
      let placed = eqb-true (length s.execution) s.size last.1 in
      let turn = begin-in-turn s (eqb-true s.phase Phase.orders first.0) ranked (or_left _ (no_execution s) last.1) in (
        begin-ground s turn ∙ was.1,
        ap (λ (t : State). proceed t Phase.running (fresh s.size) (peaks_of s) 0) (completed-whole s ranked placed),
      )

  -- the ground is the same but for a plan without an execution order
  ground-before : one_order s ≡ false → ground_for s begin ≡ ground_before s
  unfolding ground_before one_order in_turn in_limits ground_for
  ground-before other =
      ap (λ (t : Bool). demand t 3 (own_ground s begin)) (without full_order (eqb (length s.execution) s.size) (no_execution s) other)
    where
      without : (a b c : Bool) → (a && c) ≡ false → (a && (b || c)) ≡ (a && b)
      without true b c none = rw none (or-none b)
      without false b c none = refl

  late-before : 1 ≤ s.size → one_order s ≡ true → ground_before s ≡ 3
  unfolding ground_before
  late-before some one =
      let none = (found s one).none in
      rw (ne_eqb (length s.execution) s.size (λ e. omega arith), and_none full_order)

  -- the answer to BEGIN as it was
  module _ (list : List ℕ) where
    begin-accepted :
        ground_before s ≡ 0 → judge s begin (length (bytes begin)) list ≡ begin_before s list
    unfolding begin_before
    begin-accepted g =
        let now = accepted-before g in
        judge-accepted s begin (length (bytes begin)) list now.0
        ∙ rw (eq-eqb (ground_before s) 0 g) (ap (λ (o : Outcome). accept o (length (bytes begin)) list) now.1)

    begin-other : one_order s ≡ false → judge s begin (length (bytes begin)) list ≡ begin_before s list
    unfolding begin_before
    begin-other other =
        ⊎_elim begin-accepted
        (λ (some : ground_before s ≡ 0 → ⊥).
        judge-refused s begin (ground_before s) (length (bytes begin)) list (ground-before other) some
        ∙ rw (ne_eqb (ground_before s) 0 some))
        (same_or_not (ground_before s) 0)

-- BEGIN uses one byte
begin-read :
    (stream : List ℕ) (place : ℕ)
    → is_begin (decode stream place) ≡ true
    → decode stream place ≡ read begin (length (bytes begin))
unfolding is_begin byte_of bytes widths_of find forms room littles
begin-read stream place e = go (decode stream place) refl e
  where
    go : (d : Decoded) → decode stream place ≡ d → is_begin d ≡ true → d ≡ read begin (length (bytes begin))
    go (refused k) is e = absurd (clash e refl)
    go (read (plan n p bound) used) is e = absurd (clash e refl)
    go (read (task parent work out) used) is e = absurd (clash e refl)
    go (read (activation i) used) is e = absurd (clash e refl)
    go (read (execution i) used) is e = absurd (clash e refl)
    go (read begin used) is e =
        let by = read-by stream place begin used is in ap (read begin) (sym by.long ∙ ap (λ (l : List ℕ). 1 + room l) (sym by.wide))
    go (read (done i) used) is e = absurd (clash e refl)
    go (read fetch used) is e = absurd (clash e refl)
    go (read (places bound) used) is e = absurd (clash e refl)

module _ (s : State) (a : Asking) where
  abbrev asked : Decoded
  asked = decode a.stream a.place

  abbrev judged : Bool
  judged = is_begin asked && leb least_starts (length a.list)

  -- an asking is answered as before where BEGIN is
  by-begin :
      (is_begin asked ≡ true → command_before s a ≡ begin_before s a.list → judge s begin (length (bytes begin)) a.list ≡ begin_before s a.list)
      → command s a ≡ command_before s a
  unfolding command_before command
  by-begin same =
      ⊎_elim
      (λ (is : judged ≡ true).
      let both = and-true (is_begin asked) (leb least_starts (length a.list)) is in
      let was : command_before s a ≡ begin_before s a.list = rw is in
      rw (begin-read a.stream a.place both.0)
      (is_read s begin (length (bytes begin)) a.list (le-ltb (length a.list) least_starts (leb-true least_starts (length a.list) both.1))
      ∙ same both.0 was)
      ∙ sym was)
      (λ (other : judged ≡ false). rw other)
      (decide judged)

  other-asking : (is_begin asked && one_order s) ≡ false → command s a ≡ command_before s a
  other-asking other =
      by-begin (λ is _. begin-other s a.list (sym (ap (λ (t : Bool). t && one_order s) is) ∙ other))

  accepted-asking : accepts (command_before s a) ≡ true → command s a ≡ command_before s a
  unfolding begin_before refuse
  accepted-asking took =
      by-begin
      (λ _ was.
      ⊎_elim (begin-accepted s a.list)
      (λ (some : ground_before s ≡ 0 → ⊥).
      let refusal : begin_before s a.list ≡ refuse (ground_before s) s a.list = rw (ne_eqb (ground_before s) 0 some) in
      absurd (some (eqb-true (ground_before s) 0 (ap accepts (sym (was ∙ refusal)) ∙ took))))
      (same_or_not (ground_before s) 0))

accepted-streams :
    (asks : List Asking) (s : State) → none_refused (answers_before s asks) ≡ true → answers s asks ≡ answers_before s asks
unfolding answers answers_before none_refused
accepted-streams [] s all = refl
accepted-streams (a ∷ later) s all =
    let both = and-true (accepts (command_before s a)) (none_refused (answers_before (command_before s a).state later)) all in
    let here = accepted-asking s a both.0 in
    rw here (ap (λ (l : List Answered). command_before s a ∷ l) (accepted-streams later (command_before s a).state both.1))

pub every-one-order-holds : EveryOneOrderHolds
every-one-order-holds =
    record {
      stays = completed-given;
      plans = one-order-holds;
      part = part-late;
      streams = λ s asks. accepted-streams asks s;
      others = other-asking;
      late = late-before;
    }
