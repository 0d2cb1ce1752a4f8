-- Booking ahead and then starting: what the first leaves is what the second asks.
use mathlib.Core.Path.{◌≡◌, refl, sym, ap, ◌∙◌}
use mathlib.Core.List.{List}
use Prim.Native.Nat.{ℕ, ◌-◌}
use native.Mathlib.Omega.{arith}
use lib.ListN.{length, take}
use Rattle.numbers.specs.Lists.{at}
use Rattle.books.specs.Standing.{running, count}
use Rattle.rules.specs.Obey.{free}
use Rattle.books.specs.Booking.{Books, starts, start}
use Rattle.rules.specs.Answer.{front}
use Rattle.tree.proofs.Ranks.{tree_of}
use Rattle.rules.proofs.Settling as settling
use Rattle.words.specs.Contents.{Contents}
use Rattle.store.specs.Rows.{books, terms_in, activation_of, execution_of}
use Rattle.store.proofs.Same.{same-trans}
use Rattle.booking.specs.Booked.{BookedAhead}
use Rattle.starting.specs.Started.{MayStart, started_of, Started}
use Rattle.day.specs.Advanced.{booked_ahead, starts_then, Advanced}

module _ {c c₁ : Contents} {list : List ℕ} (may : MayStart c list) (booked : BookedAhead c c₁) where
  standings-are : (books c₁).standings ≡ (booked_ahead c).standings
  standings-are = ap (λ (k : Books). k.standings) booked.books

  -- as many run as before
  active-is : c₁.active ≡ count c.size (at (booked_ahead c).standings) running
  active-is =
      booked.kept.cached.runs ∙ (λ z. count (booked.same.size z) (at (standings-are z)) running)

  still-active : c₁.active ≡ c.active
  still-active =
      let i = may.kept.invariant in
      let p = may.kept.cached.placed in
      active-is
      ∙ settling.running-ahead c.size (at c.parents) (activation_of c) i.valid
      (tree_of c.size (at c.parents) (activation_of c) i.valid (λ k _. i.parents k)) (terms_in c)
      i.roomy c.processors (execution_of c) p.inside p.once p.whole (books c)
      (booked_ahead c) i.good (let r = may.kept.cached.runs in let b = may.busy in omega arith) refl (starts_then c) refl
      ∙ sym may.kept.cached.runs

  pub then-may-start : MayStart c₁ list
  then-may-start =
      record {
        kept = booked.kept;
        busy = (let a = still-active in let p = booked.same.processors in let b = may.busy in omega arith);
        few = (let p = booked.same.processors in let f = may.few in omega arith);
        room = may.room;
      }

  starts-are : started_of c₁ ≡ starts_then c
  unfolding free
  starts-are =
      λ z.
      starts (booked.same.size z) (at (booked.same.parents z)) (take (booked.same.size z) (booked.same.execution z))
      (booked.same.processors z - active-is z) (standings-are z)

  -- what both leave
  pub advanced : {c₂ : Contents} {list₂ : List ℕ} {k : ℕ} → Started c₁ c₂ list list₂ k → Advanced c c₂ list list₂ k
  advanced started =
      record {
        kept = started.kept;
        same = same-trans booked.same started.same;
        books =
            started.books
            ∙ (λ z. record { standings = start (starts-are z) (standings-are z); booked = (booked.books z).booked });
        counted = started.counted ∙ ap length starts-are;
        listed = started.listed ∙ ap (λ (l : List ℕ). front l list) starts-are;
      }
