-- DONE in code: the ground against a report, and what an accepted one leaves.
use mathlib.Core.Path.{◌≡◌, sym, ap, ◌∙◌}
use mathlib.Core.Bool.{Bool, true, false, cond}
use mathlib.Core.List.{List}
use Prim.Native.Nat.{ℕ, ◌≤◌}
use native.Mathlib.Omega.{arith}
use lib.Dec.{eqb}
use lib.ListN.{length, set}
use borrow.Author.Tests.{eqb-true, eq-eqb, ne_eqb}
use Rattle.books.specs.Kind.{of, each}
use Rattle.numbers.specs.Sums.{Task, within}
use Rattle.numbers.specs.Lists.{at}
use Rattle.numbers.specs.Limits.{least_starts}
use Rattle.tree.specs.Peak.{no_peak}
use Rattle.rules.specs.Phase
use Rattle.books.specs.Standing.{running, finished}
use Rattle.format.specs.Command.{done}
use Rattle.rules.specs.Reachable.{Reachable}
use Rattle.rules.specs.Grounds.{demand, in_turn, in_limits, no_peaks, own_ground, ground_for}
use Rattle.books.specs.Booking.{Climbed, dispatch}
use Rattle.rules.specs.Obey.{ended_standings, shared, ended, phase_after, proceed, obey}
use Rattle.rules.specs.Answer.{accept}
use Rattle.tree.proofs.Orders.{within-task}
use Rattle.rules.proofs.Formed.{demand-none}
use Rattle.rules.proofs.Judging.{ground-turn, ground-limits, ground-own}
use Rattle.words.specs.Contents.{Contents}
use Rattle.store.specs.Rows.{books}
use Rattle.dispatch.specs.Finished.{dispatched_from}
use Rattle.answer.specs.Meaning.{meaning}
use Rattle.answer.specs.Sound.{Sound}
use Rattle.day.specs.Day.{MayGoOn, WentOn}
use Rattle.answer.proofs.Meant.{in-running, parents-meant, standings-rows, books-rows, standings-meant, terms-meant, still_kept, staffed}
use Rattle.day.proofs.Staying.{Whole, in-its-day}
use Rattle.day.proofs.Proceeding.{same, sound-then}

module _ (c : Contents) (j : ℕ) where
  -- out of turn outside a running day, and in turn in it
  pub report-late : (c.phase ≡ Phase.running → ⊥) → ground_for (meaning c) (done j) ≡ 3
  unfolding in_turn
  report-late d = ground-turn (meaning c) (done j) (ne_eqb c.phase Phase.running d)

  module _ (now : c.phase ≡ Phase.running) where
    turn : in_turn (meaning c) (done j) ≡ true
    unfolding in_turn
    turn = eq-eqb c.phase Phase.running now

    -- no task of the plan
    pub report-outside : within j c.size ≡ false → ground_for (meaning c) (done j) ≡ 4
    unfolding in_limits
    report-outside e = ground-limits (meaning c) (done j) turn e

    module _ (sound : Sound c) (inside : within j c.size ≡ true) where
      own : ground_for (meaning c) (done j) ≡ demand (eqb (at c.standings j) running) 6 0
      unfolding in_limits own_ground
      own =
          ground-own (meaning c) (done j) turn inside
          ∙ ap (λ (f : ℕ → ℕ). demand (eqb (f j) running) 6 0) (standings-meant c sound now)

      -- a task that does not run
      pub report-idle : (at c.standings j ≡ running → ⊥) → ground_for (meaning c) (done j) ≡ 6
      report-idle d = own ∙ ap (λ (b : Bool). demand b 6 0) (ne_eqb (at c.standings j) running d)

      -- and no ground is left
      pub report-free : at c.standings j ≡ running → ground_for (meaning c) (done j) ≡ 0
      report-free e = own ∙ ap (λ (b : Bool). demand b 6 0) (eq-eqb (at c.standings j) running e)

-- a report against which there is no ground
pub record Accepted (c : Contents) (j : ℕ) : Type 0 where
  pub now : c.phase ≡ Phase.running
  pub task : Task c.size j
  pub runs : at c.standings j ≡ running

pub accepted : (c : Contents) (j : ℕ) → Sound c → ground_for (meaning c) (done j) ≡ 0 → Accepted c j
unfolding ground_for in_turn in_limits own_ground
accepted c j sound none =
    let turn =
    demand-none (eqb c.phase Phase.running) 3
    (demand (within j c.size) 4 (demand (eqb (at (meaning c).standings j) running) 6 0)) (λ q. omega arith) none
    in
    let limits =
    demand-none (within j c.size) 4 (demand (eqb (at (meaning c).standings j) running) 6 0) (λ q. omega arith) turn.1
    in
    let stands = demand-none (eqb (at (meaning c).standings j) running) 6 0 (λ q. omega arith) limits.1 in
    let now = eqb-true c.phase Phase.running turn.0 in
    record {
      now = now;
      task = within-task c.size j limits.0;
      runs =
          ap (λ (f : ℕ → ℕ). f j) (sym (standings-meant c sound now))
          ∙ eqb-true (at (meaning c).standings j) running stands.0;
    }

-- for a task that has a parent
module _ (c : Contents) (j : ℕ) (reached : Reachable (meaning c)) (sound : Sound c) (a : Accepted c j)
    (higher : at c.parents j ≡ 0 → ⊥) where
  on : Phase.running ≤ c.phase
  on = in-running c sound a.now

  -- what its parts ask
  pub may-go-on : (list : List ℕ) → least_starts ≤ length list → MayGoOn c j list
  may-go-on list room =
      record {
        now = a.now;
        may =
            record {
              kept = still_kept c reached sound a.now;
              task = a.task;
              runs = a.runs;
              higher = higher;
            };
        busy = staffed c reached sound a.now;
        few = sound.few;
        room = room;
      }

  whole : Whole c
  whole = in-its-day sound on

  -- sharing out of the rules, by the words
  shared-is : shared (meaning c) j ≡ dispatched_from c j
  unfolding shared ended_standings
  shared-is =
      λ z.
      dispatch c.size (parents-meant c sound z) (terms-meant c sound a.now z) (at (set (standings-rows c sound on z) j finished))
      (books-rows c sound on z).booked j

  phase_is : phase_after (meaning c) j ≡ Phase.running
  unfolding phase_after
  phase_is =
      ap (λ (f : ℕ → ℕ). cond (eqb (f j) 0) Phase.ready Phase.running) (parents-meant c sound)
      ∙ ap (λ (t : Bool). cond t Phase.ready Phase.running) (ne_eqb (at c.parents j) 0 higher)

  module _ {c' : Contents} {list list' : List ℕ} {count offers : ℕ} (e : WentOn c j c' list list' count offers) where
    ended_is : books e.left ≡ ended (meaning c) j
    unfolding ended ended_standings
    ended_is =
        e.finished.books
        ∙ (λ z.
        record {
          standings = set (sym (standings-rows c sound on) z) j finished;
          booked = each (λ k. (of (sym shared-is z).share k).booked);
        })

    offers-are : offers ≡ length (shared (meaning c) j).offered
    offers-are = e.finished.offered ∙ ap (λ (d : Climbed). length d.offered) (sym shared-is)

    pub report-sound : Sound c'
    report-sound = sound-then whole e.proceeded

    -- all that the caller of a report receives
    report-same :
        (used : ℕ)
        → accept (obey (meaning c) (done j)) used list
        ≡ accept (proceed (meaning c) Phase.running (books e.left) no_peaks offers) used list
    unfolding obey
    report-same used =
        λ z. accept (proceed (meaning c) (phase_is z) (sym ended_is z) no_peaks (sym offers-are z)) used list

    pub report-answers :
        (used : ℕ)
        → record {
          answer = record { number = 0; used = used; starts = count; peaks = no_peaks; offers = offers };
          state = meaning c';
          list = list';
        }
        ≡ accept (obey (meaning c) (done j)) used list
    report-answers used = same whole e.proceeded used no_peak offers ∙ sym (report-same used)
