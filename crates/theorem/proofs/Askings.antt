-- One asking of a plan that commands led to: its starts are few, and fit its start list.
use mathlib.Core.Path.{◌≡◌, ap}
use mathlib.Core.Bool.{true}
use mathlib.Core.List.{List}
use Prim.Native.Nat.{ℕ, ◌≤◌}
use native.Mathlib.Omega.{arith}
use lib.ListN.{length, drop, length-append, length-drop}
use lib.Seq.{drop-append_seam}
use Rattle.numbers.specs.Lists.{at, every}
use Rattle.books.specs.Kind.{Each}
use Rattle.tree.specs.Peak.{Peaked}
use Rattle.rules.specs.State.{State}
use Rattle.format.specs.Command.{Command, plan, task, activation, execution, begin, done, fetch, places}
use Rattle.numbers.specs.Sums.{within}
use Rattle.books.specs.Booking.{Books}
use Rattle.rules.specs.Obey.{with_orders, completed, with_bound, ahead, begun, proceed, obey, free}
use Rattle.rules.specs.Answer.{Asking, Answered, refuse, front, accept, command}
use Rattle.theorem.specs.Theorem.{AskingHolds}
use Rattle.numbers.proofs.Tests.{clash}
use Rattle.books.proofs.Starts.{starts-length}
use Rattle.rules.proofs.Formed.{Formed, completed-formed}
use Rattle.rules.proofs.Steps.{Refused, Obeyed, Step, is-refused, is-obeyed, step}

-- no more tasks start than there are processors
proceed-few :
    (s : State) (phase : ℕ) (k : Books) (peaks : Each Peaked) (offers : ℕ)
    → every (λ i. within i s.size) s.execution ≡ true
    → length (proceed s phase k peaks offers).started ≤ s.processors
unfolding proceed begun free
proceed-few s phase k peaks offers inside =
    let few =
    starts-length s.size (at s.parents) s.execution inside
    (free s.size s.processors (ahead s k).standings) (ahead s k).standings
    in
    omega arith

obey-few : (s : State) (c : Command) → Formed s → length (obey s c).started ≤ s.processors
unfolding obey completed with_orders with_bound
obey-few s (plan n p bound) h = omega arith
obey-few s (task parent work out) h = omega arith
obey-few s (activation i) h = omega arith
obey-few s (execution i) h = omega arith
obey-few s begin h = proceed-few (completed s) _ _ _ _ (completed-formed s h).execution-inside
obey-few s (done j) h = proceed-few s _ _ _ _ h.execution-inside
obey-few s fetch h = omega arith
obey-few s (places bound) h = proceed-few (with_bound s bound) _ _ _ _ h.execution-inside

-- starts that fit leave a list as long as it was
pub front_long : (l list : List ℕ) → length l ≤ length list → length (front l list) ≡ length list
unfolding front
front_long l list h = simp (length-append, length-drop) (omega arith)

front-behind : (l list : List ℕ) → drop (length l) (front l list) ≡ drop (length l) list
unfolding front
front-behind l list = drop-append_seam l (drop (length l) list)

module _ (s : State) (a : Asking) (formed : Formed s) where
  refused-holds : Refused s a → AskingHolds s a
  unfolding refuse
  refused-holds r =
      record {
        refusal = λ _. r.answered;
        few = rw r.answered (omega arith);
        fitting = rw r.answered (omega arith);
        long = ap (λ (v : Answered). length v.list) r.answered;
        behind = ap (λ (v : Answered). drop (command s a).answer.starts v.list) r.answered;
      }

  obeyed-holds : (c : Command) (used : ℕ) → Obeyed s a c used → AskingHolds s a
  unfolding accept
  obeyed-holds c used o =
      let few = obey-few s c formed in
      let limit = formed.limited in
      let enough = o.listed in
      record {
        refusal = λ e. absurd (clash o.is-accepted e);
        few = rw o.answered few;
        fitting = rw o.answered (omega arith);
        long = rw o.answered (front_long (obey s c).started a.list (omega arith));
        behind = rw o.answered (front-behind (obey s c).started a.list);
      }

  pub asking_holds : AskingHolds s a
  asking_holds = go (step s a)
    where
      go : Step s a → AskingHolds s a
      go (is-refused r) = refused-holds r
      go (is-obeyed c used o) = obeyed-holds c used o
