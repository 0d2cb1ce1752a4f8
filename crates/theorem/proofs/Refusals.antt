-- The refused askings of a list leave no trace.
use mathlib.Core.Path.{◌≡◌, refl, ap, ◌∙◌}
use mathlib.Core.Bool.{false, cond}
use mathlib.Core.List.{List, [], ◌∷◌, ◌++◌}
use Rattle.rules.specs.State.{State}
use Rattle.rules.specs.Answer.{Asking, command}
use Rattle.theorem.specs.Theorem.{accepted_only}
use Rattle.rules.specs.Day.{Event, after, log, events, accepted}
use Rattle.rules.proofs.Steps.{Step, is-refused, is-obeyed, step}

-- nothing happens with a refused asking
pub nothing-happens : (s : State) (a : Asking) → accepted s a ≡ false → events s a ≡ []
unfolding accepted events
nothing-happens s a e = rw e

-- the plan is the same without them
pub after-accepted : (asks : List Asking) (s : State) → after s asks ≡ after s (accepted_only s asks)
unfolding after accepted_only
after-accepted [] s = refl
after-accepted (a ∷ later) s = go (step s a) (after-accepted later (command s a).state)
  where
    go :
        Step s a
        → after (command s a).state later ≡ after (command s a).state (accepted_only (command s a).state later)
        → after (command s a).state later
        ≡ after s (cond (accepted s a) (a ∷ []) [] ++ accepted_only (command s a).state later)
    go (is-refused r) h =
        rw r.not-accepted
        (h ∙ ap (λ (t : State). after t (accepted_only (command s a).state later)) r.unchanged)
    go (is-obeyed c used o) h = rw o.is-accepted h

-- and so is what happened
pub log-accepted : (asks : List Asking) (s : State) → log s asks ≡ log s (accepted_only s asks)
unfolding log accepted_only
log-accepted [] s = refl
log-accepted (a ∷ later) s = go (step s a) (log-accepted later (command s a).state)
  where
    go :
        Step s a
        → log (command s a).state later ≡ log (command s a).state (accepted_only (command s a).state later)
        → events s a ++ log (command s a).state later
        ≡ log s (cond (accepted s a) (a ∷ []) [] ++ accepted_only (command s a).state later)
    go (is-refused r) h =
        rw r.not-accepted
        (ap (λ (l : List Event). l ++ log (command s a).state later) (nothing-happens s a r.not-accepted)
        ∙ h
        ∙ ap (λ (t : State). log t (accepted_only (command s a).state later)) r.unchanged)
    go (is-obeyed c used o) h = rw o.is-accepted (ap (λ (l : List Event). events s a ++ l) h)
