-- FETCH in code: the root stands last in the activation order, and nothing is booked any more.
use mathlib.Core.Path.{◌≡◌, refl, sym, ap, ◌∙◌}
use mathlib.Core.List.{List}
use Prim.Native.Nat.{ℕ, ◌-◌, ◌≤◌}
use native.Mathlib.Omega.{arith}
use lib.ListN.{set}
use lib.Seq.{get_or-take}
use borrow.Author.Tests.{eq-eqb, ne_eqb}
use Rattle.books.specs.Kind.{chilled, each}
use Rattle.numbers.specs.Sums.{Task}
use Rattle.numbers.specs.Lists.{at}
use Rattle.rules.specs.Phase
use Rattle.rules.specs.State.{State, root_of}
use Rattle.format.specs.Command.{fetch}
use Rattle.rules.specs.Grounds.{in_turn, in_limits, own_ground, ground_for}
use Rattle.rules.specs.Reachable.{Reachable}
use Rattle.books.specs.Booking.{total}
use Rattle.rules.specs.Obey.{with_books, unloaded, plain, obey}
use Rattle.numbers.proofs.Sums.{sum-zero}
use Rattle.rules.proofs.Judging.{ground-turn, ground-own}
use Rattle.rules.proofs.Formed.{no-ground}
use Rattle.rules.proofs.InDay.{Planned}
use Rattle.rules.proofs.Fetching.{root-found, last-is-root, nothing}
use Rattle.rules.proofs.Reaching.{lives}
use Rattle.words.specs.Contents.{Contents, with_head, store_with_head}
use Rattle.store.specs.Rows.{rows_of}
use Rattle.store.specs.Store.{with_store, with_holdings, held_alone}
use Rattle.store.proofs.Rows.{rows-set, zero-set}
use Rattle.dispatch.specs.Ended.{with_progress}
use Rattle.answer.specs.Meaning.{meaning}
use Rattle.answer.specs.Sound.{Closed, Sound}
use Rattle.answer.proofs.Meant.{standings-rows, booked-rows, activation-meant}
use Rattle.day.specs.Day.{made_over}
use Rattle.day.proofs.Staying.{in-its-day, phase-same, alone-same, day-sound}

-- out of turn outside ready
pub fetch-late : (c : Contents) → (c.phase ≡ Phase.ready → ⊥) → ground_for (meaning c) fetch ≡ 3
unfolding in_turn
fetch-late c d = ground-turn (meaning c) fetch (ne_eqb c.phase Phase.ready d)

module _ (c : Contents) (reached : Reachable (meaning c)) (sound : Sound c) (now : c.phase ≡ Phase.ready) where
  abbrev s : State
  s = meaning c

  abbrev n : ℕ
  n = c.size

  abbrev root : ℕ
  root = root_of (meaning c)

  on : Phase.running ≤ c.phase
  on = omega arith

  planned : Planned s
  planned = ((lives reached).day on).1.planned

  -- and in turn there
  pub fetch-free : ground_for (meaning c) fetch ≡ 0
  unfolding in_turn in_limits own_ground
  fetch-free = ground-own (meaning c) fetch (eq-eqb c.phase Phase.ready now) refl

  pub root-task : Task c.size (root_of (meaning c))
  root-task = (root-found s planned).0

  pub last_entry : at c.activation (c.size - 1) ≡ root_of (meaning c)
  last_entry =
      let t = root-task in
      sym
      (ap (λ (l : List ℕ). at l (n - 1)) (activation-meant c sound on)
      ∙ get_or-take n c.activation (n - 1) 0 (let low = t.low in let high = t.high in omega arith))
      ∙ last-is-root s planned

  booked-then : rows_of n (set c.stores.chilled.booked root 0) ≡ set s.stores.chilled.booked root 0
  booked-then =
      rows-set n c.stores.chilled.booked root 0 root-task.high
      ∙ ap (λ (l : List ℕ). set l root 0) (sym (booked-rows c sound on))

  means : meaning (made_over (root_of (meaning c)) c) ≡ unloaded s
  unfolding made_over with_store with_holdings held_alone with_head store_with_head unloaded with_books
  means =
      λ z.
      record {
        phase = Phase.over;
        size = s.size;
        processors = s.processors;
        parents = s.parents;
        activation = s.activation;
        execution = s.execution;
        standings = sym (standings-rows c sound on) z;
        stores =
            each
            (λ _.
            record {
              bound = s.stores.chilled.bound;
              works = s.stores.chilled.works;
              outs = s.stores.chilled.outs;
              booked = booked-then z;
            });
      }

  -- what the rules do with the fetch
  pub fetches : obey (meaning c) fetch ≡ plain (meaning (made_over (root_of (meaning c)) c))
  unfolding obey
  fetches = ap plain (sym means)

  -- nothing is booked
  total-then : 0 ≡ total n (at (rows_of n (set c.stores.chilled.booked root 0)))
  unfolding total
  total-then =
      let day = (lives reached).day on in
      sym
      (ap (λ (l : List ℕ). total n (at l)) booked-then
      ∙ sum-zero (at (set s.stores.chilled.booked root 0)) n (nothing s day.0 day.1 (no-ground s fetch fetch-free) chilled))

  kept_then : Closed (made_over (root_of (meaning c)) c)
  unfolding made_over with_store with_holdings held_alone with_head store_with_head
  kept_then =
      let was = (sound.day on).closed (omega arith) in
      record {
        next = was.next;
        active = was.active;
        ended = was.ended;
        totals = total-then;
        uses = refl;
        past =
            record {
              unended = was.past.unended;
              standings = was.past.standings;
              needs = was.past.needs;
              booked = zero-set n c.stores.chilled.booked root 0 root-task.high was.past.booked;
              figures = was.past.figures;
            };
      }

  pub fetch-sound : Sound (made_over (root_of (meaning c)) c)
  unfolding made_over with_progress with_store with_holdings held_alone with_head store_with_head
  fetch-sound =
      day-sound (in-its-day sound on)
      (phase-same Phase.over (alone-same c root 0 c.standings c.unended c.active c.ended))
      sound.long (omega arith) (omega arith) (λ e. absurd (omega arith)) (λ _. kept_then)
