-- n and p of a plan stay those that PLAN gave, and M is the bound in force, until a next plan is opened.
use mathlib.Core.Path.{◌≡◌, refl, sym, ap, subst, subst₂, ◌∙◌}
use mathlib.Core.Bool.{Bool, true, false, ◌&&◌}
use mathlib.Core.List.{List, [], ◌∷◌, ◌++◌, map}
use Prim.Native.Nat.{ℕ}
use Rattle.rules.specs.State.{State}
use Rattle.format.specs.Command.{Command, Decoded, plan, task, activation, execution, begin, done, fetch, places, byte_of, operands_of, refused, read, decode}
use Rattle.rules.specs.Obey.{opened, with_task, with_orders, completed, unloaded, with_books, with_bound, proceed, obey}
use Rattle.rules.specs.Answer.{Asking, command}
use Rattle.rules.specs.Day.{Event, started, reported, events, log, in_force, accepted, is_plan, opens_plan, next_plan, after}
use Rattle.numbers.proofs.Tests.{clash, or-false}
use Rattle.rules.proofs.InForce.{in-force-append, starts-in-force}
use Rattle.rules.proofs.Steps.{Step, is-refused, is-obeyed, step}
use Rattle.theorem.proofs.Refusals.{nothing-happens}
use Rattle.demand.specs.Demand.{OpenedWith}

-- what obeying a decoded command leaves
unfoldable leaves : State → Decoded → State
leaves s (refused k) = s
leaves s (read c used) = (obey s c).state

module _ {n p : ℕ} where
  -- a command that is obeyed and opens no plan
  obeyed-stays :
      {m : ℕ} (s : State) (c : Command) (used : ℕ)
      → OpenedWith n p m s
      → is_plan (read c used) ≡ false
      → OpenedWith n p (in_force m (reported (read c used) ++ map started (obey s c).started)) (obey s c).state
  unfolding is_plan reported in_force byte_of operands_of obey with_task with_orders completed unloaded with_bound proceed with_books
  obeyed-stays s (plan k q b) used h e = absurd (clash refl e)
  obeyed-stays s (task parent work out) used h e = record { size = h.size; processors = h.processors; bound = h.bound }
  obeyed-stays s (activation i) used h e = record { size = h.size; processors = h.processors; bound = h.bound }
  obeyed-stays s (execution i) used h e = record { size = h.size; processors = h.processors; bound = h.bound }
  obeyed-stays {m = m} s begin used h e =
      record { size = h.size; processors = h.processors; bound = h.bound ∙ sym (starts-in-force (obey s begin).started m) }
  obeyed-stays {m = m} s (done j) used h e =
      record { size = h.size; processors = h.processors; bound = h.bound ∙ sym (starts-in-force (obey s (done j)).started m) }
  obeyed-stays s fetch used h e = record { size = h.size; processors = h.processors; bound = h.bound }
  obeyed-stays s (places b) used h e =
      record { size = h.size; processors = h.processors; bound = sym (starts-in-force (obey s (places b)).started b) }

  -- any asking that opens no plan
  asked-stays :
      {m : ℕ} (s : State) (a : Asking)
      → OpenedWith n p m s
      → opens_plan s a ≡ false
      → OpenedWith n p (in_force m (events s a)) (command s a).state
  unfolding accepted opens_plan in_force
  asked-stays {m = m} s a h e = go (step s a)
    where
      go : Step s a → OpenedWith n p (in_force m (events s a)) (command s a).state
      go (is-refused r) =
          subst₂ (λ (t : State) (l : List Event). OpenedWith n p (in_force m l) t) (sym r.unchanged)
          (sym (nothing-happens s a r.not-accepted)) h
      go (is-obeyed c used o) =
          subst₂ (λ (t : State) (l : List Event). OpenedWith n p (in_force m l) t) (sym o.after) (sym o.happens)
          (obeyed-stays s c used h
          (ap is_plan (sym o.decoded) ∙ sym (ap (λ (t : Bool). t && is_plan (decode a.stream a.place)) o.is-accepted) ∙ e))

  pub opened-stays :
      (later : List Asking) {m : ℕ} (s : State)
      → OpenedWith n p m s
      → next_plan s later ≡ false
      → OpenedWith n p (in_force m (log s later)) (after s later)
  unfolding after log next_plan in_force
  opened-stays [] s h e = h
  opened-stays (a ∷ later) {m = m} s h e =
      let both = or-false (opens_plan s a) (next_plan (command s a).state later) e in
      subst (λ (b : ℕ). OpenedWith n p b (after (command s a).state later))
      (sym (in-force-append (events s a) (log (command s a).state later) m))
      (opened-stays later (command s a).state (asked-stays s a h both.0) both.1)

  -- an accepted PLAN
  pub opened-first :
      {m : ℕ} (s : State) (a : Asking) (used : ℕ)
      → accepted s a ≡ true
      → decode a.stream a.place ≡ read (plan n p m) used
      → OpenedWith n p m (command s a).state
  unfolding obey opened leaves
  opened-first {m = m} s a used granted bytes = go (step s a)
    where
      go : Step s a → OpenedWith n p m (command s a).state
      go (is-refused r) = absurd (clash granted r.not-accepted)
      go (is-obeyed c u o) =
          subst (λ (t : State). OpenedWith n p m t)
          (ap (leaves s) (sym bytes ∙ o.decoded) ∙ sym o.after)
          (record { size = refl; processors = refl; bound = refl })
