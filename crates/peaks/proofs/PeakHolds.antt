-- The peak of every order comes with its task: BEGIN's, and the desk's.
use mathlib.Core.Path.{◌≡◌, refl, sym, ap, subst, ◌∙◌}
use mathlib.Core.Bool.{Bool, true, false, ◌&&◌}
use mathlib.Core.List.{List, [], ◌∷◌, ◌++◌, append-nil}
use mathlib.Core.Logic.{⊎_elim}
use Prim.Native.Nat.{ℕ, ◌≤◌, ◌<◌, max}
use native.Mathlib.Omega.{arith}
use lib.Dec.{eqb, leb}
use lib.ListN.{length, get_or, drop}
use borrow.Author.Tests.{eqb-true, eq-eqb, ne_eqb}
use Rattle.numbers.specs.Sums.{every_to, within}
use Rattle.numbers.specs.Lists.{at, mem, every, distinct, place, largest}
use Rattle.numbers.specs.Limits.{max_tasks}
use Rattle.tree.specs.Peak.{sum_at, sums, peak, Peaked, peak_task, peaked}
use Rattle.tree.specs.Tree.{roots, ordered}
use Rattle.tree.specs.Tasks
use Rattle.tree.specs.Tasks.{Tasks}
use Rattle.rules.specs.State.{State, store_of, tasks_in}
use Rattle.format.specs.Command.{Command, plan, task, activation, execution, begin, done, fetch, places, read, decode, byte_of}
use Rattle.rules.specs.Grounds.{demand, peaks_of, no_peaks}
use Rattle.rules.specs.Obey.{with_orders, completed, proceed, obey}
use Rattle.rules.specs.Answer.{Asking, Answered, refuse, accept, command}
use Rattle.peaks.specs.Desk.{StepRecord, desk_ground, desk_answer, desk_tasks, desk}
use Rattle.rules.specs.Day.{is_begin, begins_day, accepted}
use Rattle.rules.specs.Reachable.{Reachable}
use Rattle.peaks.specs.PeakHolds.{SetsPeak, SetPeaksOf, PeakHolds, DeskPeakHolds, EveryPeakHolds}
use Rattle.numbers.proofs.Tests.{clash, and-true, le-or-lt}
use Rattle.numbers.proofs.Sums.{count-le}
use Rattle.numbers.proofs.Places.{nowhere, TwoPlaces, same, ahead, behind, two-places}
use Rattle.tree.proofs.Orders.{every-mem, mem-among, mem-here, within-task}
use Rattle.tree.proofs.Peaks.{sum-among, largest-here, largest-later}
use Rattle.books.proofs.EachStore.{of-each}
use Rattle.rules.proofs.Formed.{Formed, Accepted, demand-none}
use Rattle.rules.proofs.InDay.{begin-planned}
use Rattle.rules.proofs.Steps.{Step, is-refused, is-obeyed, step}
use Rattle.rules.proofs.Reaching.{lives}

-- an order taken apart at the task of the largest sum, where those of `ended` have run
record Found (n : ℕ) (par work out : ℕ → ℕ) (ended order : List ℕ) : Type 0 where
  earlier : List ℕ
  task : ℕ
  later : List ℕ
  is_task : task ≡ at order (place (largest (sums n par work out ended order)) (sums n par work out ended order))
  stands : order ≡ earlier ++ task ∷ later
  sum : sum_at n par work out (earlier ++ ended) task ≡ largest (sums n par work out ended order)
  below :
      (pre : List ℕ) (x : ℕ) (post : List ℕ)
      → earlier ≡ pre ++ x ∷ post
      → sum_at n par work out (pre ++ ended) x < largest (sums n par work out ended order)

module _ (n : ℕ) (par work out : ℕ → ℕ) where
  -- the first is the one
  found_here :
      (ended : List ℕ) (x : ℕ) (later : List ℕ)
      → largest (sums n par work out (x ∷ ended) later) ≤ sum_at n par work out ended x
      → Found n par work out ended (x ∷ later)
  unfolding sums largest
  found_here ended x later low =
      record {
        earlier = [];
        task = x;
        later = later;
        is_task = rw (largest-here (sum_at n par work out ended x) (sums n par work out (x ∷ ended) later) low);
        stands = refl;
        sum = omega arith;
        below = λ pre y post e. absurd (nowhere pre y post e);
      }

  -- it stands later
  found-later :
      (ended : List ℕ) (x : ℕ) (later : List ℕ)
      → sum_at n par work out ended x < largest (sums n par work out (x ∷ ended) later)
      → Found n par work out (x ∷ ended) later
      → Found n par work out ended (x ∷ later)
  unfolding sums largest
  found-later ended x later above f =
      let high : max (sum_at n par work out ended x) (largest (sums n par work out (x ∷ ended) later))
      ≡ largest (sums n par work out (x ∷ ended) later)
      = omega arith in
      record {
        earlier = x ∷ f.earlier;
        task = f.task;
        later = f.later;
        is_task =
            rw (largest-later (sum_at n par work out ended x) (sums n par work out (x ∷ ended) later) above) f.is_task;
        stands = ap (◌∷◌ x) f.stands;
        sum = rw high (sym (sum-among n par work out f.earlier x ended f.task) ∙ f.sum);
        below = λ pre y post e. rw high (ahead f.earlier f.below pre y post e);
      }
    where
      ahead :
          (earlier : List ℕ)
          → ((pre : List ℕ) (y : ℕ) (post : List ℕ)
          → earlier ≡ pre ++ y ∷ post
          → sum_at n par work out (pre ++ x ∷ ended) y < largest (sums n par work out (x ∷ ended) later))
          → (pre : List ℕ) (y : ℕ) (post : List ℕ)
          → x ∷ earlier ≡ pre ++ y ∷ post
          → sum_at n par work out (pre ++ ended) y < largest (sums n par work out (x ∷ ended) later)
      ahead earlier below [] y post e =
          let same : x ≡ y = ap (λ (l : List ℕ). get_or l 0 0) e in rw (← same) above
      ahead earlier below (v ∷ pre) y post e =
          let same : x ≡ v = ap (λ (l : List ℕ). get_or l 0 0) e in
          rw (← same, ← sum-among n par work out pre x ended y) (below pre y post (ap (drop 1) e))

  found : (ended : List ℕ) (x : ℕ) (later : List ℕ) → Found n par work out ended (x ∷ later)
  unfolding sums largest
  found ended x [] = found_here ended x [] (omega arith)
  found ended x (y ∷ later) =
      ⊎_elim (found_here ended x (y ∷ later)) (λ above. found-later ended x (y ∷ later) above (found (x ∷ ended) y later))
      (le-or-lt (largest (sums n par work out (x ∷ ended) (y ∷ later))) (sum_at n par work out ended x))

-- the peak of an order of tasks, with its task
pub sets-peak :
    (t : Tasks) (order : List ℕ)
    → every (λ i. within i t.size) order ≡ true
    → 1 ≤ length order
    → SetsPeak t order (Tasks.peaked t order)
unfolding peaked peak peak_task
sets-peak t [] inside some = absurd (omega arith)
sets-peak t (y ∷ order) inside some = go (found t.size t.parent t.work t.out [] y order)
  where
    go : Found t.size t.parent t.work t.out [] (y ∷ order) → SetsPeak t (y ∷ order) (Tasks.peaked t (y ∷ order))
    go f =
        let is = f.is_task in
        let x : ℕ = (Tasks.peaked t (y ∷ order)).task in
        let stands : y ∷ order ≡ f.earlier ++ x ∷ f.later = rw (← is) f.stands in
        record {
          highest = refl;
          task =
              within-task t.size x
              (every-mem (λ i. within i t.size) (y ∷ order) x inside
              (ap (mem x) stands ∙ mem-among x x f.earlier f.later ∙ mem-here x x (f.earlier ++ f.later) refl));
          earlier = f.earlier;
          later = f.later;
          stands = stands;
          sum = rw (← is) (rw (append-nil f.earlier) at f.sum);
          below = λ pre z post e. rw (append-nil pre) at (f.below pre z post e);
        }

-- BEGIN, where it is accepted
begun-peak :
    (s : State)
    → Formed s
    → Accepted s begin
    → SetPeaksOf s (peaks_of s)
unfolding peaks_of completed with_orders roots
begun-peak s formed a k =
    let p = begin-planned s formed a in
    let whole = p.valid.whole in
    let one = p.rooted in
    subst (SetsPeak (tasks_in s (store_of s k)) s.activation)
    (sym (of-each (λ k. Tasks.peaked (tasks_in s (store_of s k)) s.activation) k))
    (sets-peak (tasks_in s (store_of s k)) s.activation p.valid.inside
    (let some = count-le (λ i. eqb (at s.parents i) 0) s.size in omega arith))

-- what is told of each command that is obeyed
obeyed-told :
    (s : State) (c : Command) (used : ℕ)
    → Formed s
    → Accepted s c
    → is_begin (read c used) ≡ true
    → SetPeaksOf s (obey s c).peaks
unfolding byte_of is_begin obey proceed
obeyed-told s (plan n p bound) used h a e = absurd (clash e refl)
obeyed-told s (task parent work out) used h a e = absurd (clash e refl)
obeyed-told s (activation i) used h a e = absurd (clash e refl)
obeyed-told s (execution i) used h a e = absurd (clash e refl)
obeyed-told s begin used h a e = begun-peak s h a
obeyed-told s (done j) used h a e = absurd (clash e refl)
obeyed-told s fetch used h a e = absurd (clash e refl)
obeyed-told s (places bound) used h a e = absurd (clash e refl)

obeyed-none : (s : State) (c : Command) (used : ℕ) → is_begin (read c used) ≡ false → (obey s c).peaks ≡ no_peaks
unfolding byte_of is_begin obey proceed
obeyed-none s (plan n p bound) used e = refl
obeyed-none s (task parent work out) used e = refl
obeyed-none s (activation i) used e = refl
obeyed-none s (execution i) used e = refl
obeyed-none s begin used e = absurd (clash refl e)
obeyed-none s (done j) used e = refl
obeyed-none s fetch used e = refl
obeyed-none s (places bound) used e = refl

-- one asking
pub peak-holds : (s : State) → Reachable s → (a : Asking) → PeakHolds s a (command s a)
unfolding accepted accept refuse
peak-holds s reached a = go (step s a)
  where
    go : Step s a → PeakHolds s a (command s a)
    go (is-refused r) =
        record {
          told = λ e. absurd (clash (and-true (accepted s a) (is_begin (decode a.stream a.place)) e).0 r.not-accepted);
          none = λ _. ap (λ (v : Answered). v.answer.peaks) r.answered;
        }
    go (is-obeyed c used o) =
        let is-begin : begins_day a (command s a) ≡ is_begin (read c used)
        = ap (λ (t : Bool). t && is_begin (decode a.stream a.place)) o.is-accepted ∙ ap is_begin o.decoded in
        let answered : (command s a).answer.peaks ≡ (obey s c).peaks = ap (λ (v : Answered). v.answer.peaks) o.answered in
        record {
          told = λ e.
              subst (SetPeaksOf s) (sym answered)
              (obeyed-told s c used (lives reached).formed o.granted (sym is-begin ∙ e));
          none = λ e. answered ∙ obeyed-none s c used (sym is-begin ∙ e);
        }

-- the checks of the desk leave an order of tasks, and one at least
desk-tasks :
    (n : ℕ) (par : ℕ → ℕ) (order : List ℕ)
    → desk_ground n par order ≡ 0
    → (every (λ i. within i n) order ≡ true) × (1 ≤ length order)
unfolding desk_ground
desk-tasks n par order e =
    let four =
    demand-none
    (eqb (length order) n && within n max_tasks && every_to (λ i. leb (par i) n) n && every (λ i. within i n) order) 4
    (demand (distinct order) 5 (demand (eqb (roots n par) 1) 7 (demand (ordered par order) 8 0))) (λ q. omega arith) e
    in
    let listed =
    and-true (eqb (length order) n && within n max_tasks && every_to (λ i. leb (par i) n) n) (every (λ i. within i n) order)
    four.0
    in
    let parents = and-true (eqb (length order) n && within n max_tasks) (every_to (λ i. leb (par i) n) n) listed.0 in
    let sized = and-true (eqb (length order) n) (within n max_tasks) parents.0 in
    let whole = eqb-true (length order) n sized.0 in
    let low = (within-task max_tasks n sized.1).low in
    (listed.1, omega arith)

-- the desk
pub desk-peak-holds :
    (records : List StepRecord) (order : List ℕ) → DeskPeakHolds records order (desk records order)
unfolding desk desk_answer
desk-peak-holds records order =
    let n : ℕ = (desk_tasks records).size in
    let par : ℕ → ℕ = (desk_tasks records).parent in
    record {
      told = λ e.
          (let tasks = desk-tasks n par order e in
          rw (eq-eqb (desk_ground n par order) 0 e) (sets-peak (desk_tasks records) order tasks.0 tasks.1));
      none = λ d. rw (ne_eqb (desk_ground n par order) 0 d);
    }

pub every-peak-holds : EveryPeakHolds
every-peak-holds = record { begins = peak-holds; desks = desk-peak-holds }

-- no other peak and no other task would do
pub one-peak :
    (t : Tasks) (order : List ℕ) (p p' : Peaked) → SetsPeak t order p → SetsPeak t order p' → p ≡ p'
one-peak t order p p' h h' =
    go (two-places h.earlier h'.earlier h.later h'.later p.task p'.task (sym h.stands ∙ h'.stands))
  where
    trays : p.trays ≡ p'.trays
    trays = h.highest ∙ sym h'.highest

    go : TwoPlaces h.earlier h'.earlier p.task p'.task → p ≡ p'
    go (same e) = λ z. record { trays = trays z; task = e z }
    go (ahead post e) = absurd (let low = h'.below h.earlier p.task post e in let high = h.sum in omega arith)
    go (behind post e) = absurd (let low = h.below h'.earlier p'.task post e in let high = h'.sum in omega arith)
