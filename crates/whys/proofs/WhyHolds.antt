-- The reason that is told is the first that is true: case by case, and then of every plan that commands led to.
use mathlib.Core.Path.{◌≡◌, refl, sym, ap, ap₂}
use mathlib.Core.Bool.{true, false}
use mathlib.Core.Logic.{inl, inr, ⊎_elim}
use mathlib.Core.List.{List}
use Prim.Native.Nat.{ℕ, ◌≤◌, ◌<◌}
use native.Mathlib.Omega.{arith}
use Rattle.books.specs.Kind.{Each, of}
use Rattle.numbers.specs.Lists.{at}
use Rattle.rules.specs.Phase
use Rattle.books.specs.Standing
use Rattle.rules.specs.State.{State}
use Rattle.books.specs.Booking.{fed}
use Rattle.numbers.specs.Sums.{within}
use Rattle.rules.specs.Day.{Event}
use Rattle.whys.specs.Why.{Reason, refused, ended, running, not_booked, unfed, no_processor, first_waiting, lacks, unended_child, why}
use Rattle.whys.specs.WhyHolds.{LackIsExact, NotBooked, Unfed, Says, precedence, ReasonHolds, EveryReasonHolds}
use Rattle.books.proofs.EachStore.{each_same}
use Rattle.numbers.proofs.Tests.{decide, clash, same_or_not, le-or-lt}
use Rattle.numbers.proofs.Sums.{Task}
use Rattle.tree.proofs.Orders.{within-task, task-within}
use Rattle.books.proofs.Ahead.{first-waiting-one}
use Rattle.rules.proofs.InDay.{InDay, Going, still-going, four-standings}
use Rattle.rules.proofs.Reaching.{lives}
use Rattle.whys.proofs.Why.{why-outside, why-nobody, why-ended, why-running, why-waiting, why-unfed, why-no-processor, lack-exact, first_found, child-found, no-child, all-taken}

-- what is refused: outside running, and for a number that is no task
module _ (s : State) (i : ℕ) where
  refused-phase : (s.phase ≡ Phase.running → ⊥) → ReasonHolds s i (refused 3)
  refused-phase out = record { says = inl (refl, out); first = only }
    where
      only : (other : Reason) → precedence other ≤ 3 → Says s i other → other ≡ refused 3
      only (refused k) h (inl e) = ap refused e.0
      only (refused k) h (inr e) = absurd (omega (arith, e.0))
      only ended h x = absurd (omega arith)
      only running h x = absurd (omega arith)
      only (not_booked y lack) h x = absurd (omega arith)
      only (unfed c) h x = absurd (omega arith)
      only no_processor h x = absurd (omega arith)

  refused-task : s.phase ≡ Phase.running → (Task s.size i → ⊥) → ReasonHolds s i (refused 4)
  refused-task runs none = record { says = inr (refl, none); first = only }
    where
      only : (other : Reason) → precedence other ≤ 4 → Says s i other → other ≡ refused 4
      only (refused k) h (inl e) = absurd (e.1 runs)
      only (refused k) h (inr e) = ap refused e.0
      only ended h x = absurd (omega arith)
      only running h x = absurd (omega arith)
      only (not_booked y lack) h x = absurd (omega arith)
      only (unfed c) h x = absurd (omega arith)
      only no_processor h x = absurd (omega arith)

-- a task of a plan that runs
module _ (s : State) {happened : List Event} (day : InDay s happened) (runs : s.phase ≡ Phase.running) (i : ℕ)
    (task : Task s.size i) where
  going : Going s
  going = still-going s day.course runs

  not-refused : (k : ℕ) → Says s i (refused k) → ⊥
  not-refused k (inl e) = e.1 runs
  not-refused k (inr e) = e.1 task

  told-ended : at s.standings i ≡ Standing.finished → ReasonHolds s i ended
  told-ended e = record { says = e; first = only }
    where
      only : (other : Reason) → precedence other ≤ precedence ended → Says s i other → other ≡ ended
      only (refused k) h x = absurd (not-refused k x)
      only ended h x = refl
      only running h x = absurd (omega arith)
      only (not_booked y lack) h x = absurd (omega arith)
      only (unfed c) h x = absurd (omega arith)
      only no_processor h x = absurd (omega arith)

  told-running : at s.standings i ≡ Standing.running → ReasonHolds s i running
  told-running e = record { says = e; first = only }
    where
      only : (other : Reason) → precedence other ≤ precedence running → Says s i other → other ≡ running
      only (refused k) h x = absurd (not-refused k x)
      only ended h x = absurd (omega arith)
      only running h x = refl
      only (not_booked y lack) h x = absurd (omega arith)
      only (unfed c) h x = absurd (omega arith)
      only no_processor h x = absurd (omega arith)

  -- the first waiting task is one, and lacks one number of places
  only-lack : {x y : ℕ} {l m : Each ℕ} → NotBooked s i x l → NotBooked s i y m → not_booked x l ≡ not_booked y m
  only-lack {x} {y} {l} {m} a b =
      let same = first-waiting-one s.size (at s.parents) s.activation day.planned.valid (at s.standings) x y a.first b.first in
      let exact : LackIsExact s x (of m) = rw same b.exact in
      ap₂ not_booked same (only-exact a.exact exact)
    where
      only-exact : {x : ℕ} {l m : Each ℕ} → LackIsExact s x (of l) → LackIsExact s x (of m) → l ≡ m
      only-exact {x} {l} {m} a b =
          each_same (of l) (of m)
          (λ k.
          let low : of l k < of m k → ⊥ = λ h. let u = a.booked in let v = b.waits (of l) k h in omega arith in
          let high : of m k < of l k → ⊥ = λ h. let u = b.booked in let v = a.waits (of m) k h in omega arith in
          omega arith)

  told-waiting :
      at s.standings i ≡ Standing.waiting → ReasonHolds s i (not_booked (first_waiting s) (lacks s (first_waiting s)))
  told-waiting e =
      let fw = first_found s day.planned going i task e in
      let says : NotBooked s i (first_waiting s) (lacks s (first_waiting s)) =
      record { asked = e; first = fw; exact = lack-exact s day.planned going (first_waiting s) fw }
      in
      record { says = says; first = only says }
    where
      only :
          {x : ℕ} {l : Each ℕ}
          → NotBooked s i x l
          → (other : Reason)
          → precedence other ≤ precedence (not_booked x l)
          → Says s i other
          → other ≡ not_booked x l
      only told (refused k) h x = absurd (not-refused k x)
      only told ended h x = absurd (omega arith)
      only told running h x = absurd (omega arith)
      only told (not_booked y lack) h x = only-lack x told
      only told (unfed c) h x = absurd (omega arith)
      only told no_processor h x = absurd (omega arith)

  told-unfed :
      at s.standings i ≡ Standing.activated
      → fed s.size (at s.parents) (at s.standings) i ≡ false
      → ReasonHolds s i (unfed (unended_child s i))
  told-unfed e f = record { says = child-found s day.planned going i f; first = only (child-found s day.planned going i f) }
    where
      only : {c : ℕ} → Unfed s i c → (other : Reason) → precedence other ≤ precedence (unfed c) → Says s i other → other ≡ unfed c
      only told (refused k) h x = absurd (not-refused k x)
      only told ended h x = absurd (omega arith)
      only told running h x = absurd (omega arith)
      only told (not_booked y lack) h x = absurd (let w = x.asked in omega arith)
      only {c} told (unfed d) h x =
          let low : d < c → ⊥ = λ h. x.unended (told.lowest d x.task h x.child) in
          let high : c < d → ⊥ = λ h. told.unended (x.lowest c told.task h told.child) in
          let same : d ≡ c = omega arith in
          ap unfed same
      only told no_processor h x = absurd (omega arith)

  told-no-processor :
      at s.standings i ≡ Standing.activated
      → fed s.size (at s.parents) (at s.standings) i ≡ true
      → ReasonHolds s i no_processor
  told-no-processor e f = record { says = all-taken s day.planned going i task e f; first = only }
    where
      only : (other : Reason) → precedence other ≤ precedence no_processor → Says s i other → other ≡ no_processor
      only (refused k) h x = absurd (not-refused k x)
      only ended h x = absurd (omega arith)
      only running h x = absurd (omega arith)
      only (not_booked y lack) h x = absurd (let w = x.asked in omega arith)
      only (unfed c) h x = absurd (no-child s day.planned going i c f x)
      only no_processor h x = refl

  -- one of them is told
  told : ReasonHolds s i (why s i)
  told =
      let four = four-standings s day.course i task in
      ⊎_elim (λ e. rw (why-ended s i runs task e) (told-ended e))
      (λ not-ended.
      ⊎_elim (λ e. rw (why-running s i runs task e) (told-running e))
      (λ not-running.
      ⊎_elim (λ e. rw (why-waiting s i runs task e) (told-waiting e))
      (λ not-waiting.
      let booked : at s.standings i ≡ Standing.activated = omega arith in
      ⊎_elim (λ (f : fed s.size (at s.parents) (at s.standings) i ≡ true). rw (why-no-processor s i runs task booked f) (told-no-processor booked f))
      (λ (f : fed s.size (at s.parents) (at s.standings) i ≡ false). rw (why-unfed s i runs task booked f) (told-unfed booked f))
      (decide (fed s.size (at s.parents) (at s.standings) i)))
      (same_or_not (at s.standings i) Standing.waiting))
      (same_or_not (at s.standings i) Standing.running))
      (same_or_not (at s.standings i) Standing.finished)

pub every-reason-holds : EveryReasonHolds
every-reason-holds s reached i =
    ⊎_elim
    (λ (runs : s.phase ≡ Phase.running).
    let day = (lives reached).day (omega arith) in
    ⊎_elim (λ (t : within i s.size ≡ true). told s day.1 runs i (within-task s.size i t))
    (λ (t : within i s.size ≡ false).
    let none : Task s.size i → ⊥ = λ task. clash (task-within s.size i task) t in
    rw (why-nobody s i runs none) (refused-task s i runs none))
    (decide (within i s.size)))
    (λ out. rw (why-outside s i out) (refused-phase s i out))
    (same_or_not s.phase Phase.running)

-- no other reason would do: what is promised of it fixes the reason and its values
pub one-reason : {s : State} {i : ℕ} {r other : Reason} → ReasonHolds s i r → ReasonHolds s i other → other ≡ r
one-reason {s} {i} {r} {other} holds others =
    ⊎_elim (λ (h : precedence other ≤ precedence r). holds.first other h others.says)
    (λ (h : precedence r < precedence other). sym (others.first r (omega arith) holds.says))
    (le-or-lt (precedence other) (precedence r))
