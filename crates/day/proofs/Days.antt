-- BEGIN, DONE and 08, one part after the other.
use mathlib.Core.Path.{◌≡◌, refl, sym, ap, subst, ◌∙◌}
use mathlib.Core.List.{List}
use Prim.Native.Nat.{ℕ, ◌≤◌}
use native.Mathlib.Omega.{arith}
use lib.ListN.{set}
use Rattle.books.specs.Kind.{chilled}
use Rattle.numbers.specs.Lists.{at}
use Rattle.rules.specs.Phase
use Rattle.books.specs.Standing.{running, finished, count}
use Rattle.rules.proofs.Reporting.{one_fewer}
use Rattle.words.specs.Contents.{Contents, with_head, store_with_head}
use Rattle.store.specs.Rows.{books}
use Rattle.store.specs.Kept.{Kept}
use Rattle.store.proofs.Rows.{at_rows}
use Rattle.store.proofs.Same.{same_refl}
use Rattle.store.proofs.InStore.{by_kind}
use Rattle.starting.specs.Started.{MayStart}
use Rattle.survey.specs.Prepare.{Prepared}
use Rattle.dispatch.specs.Finished.{Finished}
use Rattle.day.specs.Advanced.{Advanced}
use Rattle.day.specs.Day.{MayBegin, Begun, MayGoOn, WentOn, with_bound, MayResize, Resized}
use Rattle.day.proofs.Same.{same-tasks, prepared-same}
use Rattle.day.proofs.Staying.{head-cached}

-- a running day is in its phase
same-phase : (d : Contents) → d.phase ≡ Phase.running → d ≡ with_head 0 Phase.running d
unfolding with_head store_with_head
same-phase d e = ap (λ (p : ℕ). with_head 0 p d) e

-- a day on which nothing has happened
module _ {c c₁ : Contents} {list : List ℕ} (may : MayBegin c list) (prepared : Prepared c c₁) where
  pub begin-advances : MayStart c₁ list
  begin-advances =
      let s = (prepared-same prepared).processors in
      let few = may.few in
      let idle = prepared.idle in
      record { kept = prepared.kept; busy = omega arith; few = omega arith; room = may.room }

  pub begun :
      {c₂ c₃ : Contents} {list₂ : List ℕ} {count : ℕ}
      → Advanced c₁ c₂ list list₂ count
      → c₃ ≡ with_head 0 Phase.running c₂
      → Begun c c₃ list list₂ count
  begun advanced phased =
      record {
        between = c₁;
        after = _;
        same = prepared-same prepared;
        kept = prepared.kept;
        books = prepared.books;
        advanced = advanced;
        phased = phased;
      }

-- a day on which a task has ended
module _ {c c₁ : Contents} {j : ℕ} {list : List ℕ} {offers : ℕ} (may : MayGoOn c j list) (ends : Finished c j c₁ offers) where
  -- one task fewer runs
  fewer : c₁.active ≤ c.active
  fewer =
      let i = may.may.kept.invariant in
      let t = may.may.task in
      let here = at_rows c.size c.standings j t.high ∙ may.may.runs in
      let one = one_fewer c.size (books c).standings j i.good.sized t here in
      let was = may.may.kept.cached.runs in
      let is : c₁.active ≡ count c.size (at (set (books c).standings j finished)) running =
      ends.kept.cached.runs ∙ (λ z. count (ends.same.size z) (at (ends.books z).standings) running)
      in
      omega arith

  pub end-advances : MayStart c₁ list
  end-advances =
      let s = ends.same.processors in
      let few = may.few in
      let busy = may.busy in
      let less = fewer in
      record { kept = ends.kept; busy = omega arith; few = omega arith; room = may.room }

  pub went_on :
      {c₂ : Contents} {list₂ : List ℕ} {count : ℕ}
      → Advanced c₁ c₂ list list₂ count
      → WentOn c j c₂ list list₂ count offers
  went_on {c₂ = c₂} advanced =
      record {
        left = c₁;
        finished = ends;
        proceeded =
            record {
              between = c₁;
              after = c₂;
              same = same-tasks ends.same;
              kept = ends.kept;
              books = refl;
              advanced = advanced;
              phased = same-phase c₂ (advanced.same.phase ∙ ends.same.phase ∙ may.now);
            };
      }

-- a day with another bound
module _ {c : Contents} {bound : ℕ} {list : List ℕ} (may : MayResize c bound list) where
  -- the books are within it
  kept-within : Kept (with_bound bound c)
  unfolding with_bound with_head store_with_head
  kept-within =
      let i = may.kept.invariant in
      let booked = (may.kept.cached.stores chilled).totals in
      let within = may.within in
      record {
        invariant =
            record {
              small = i.small;
              bounded = by_kind _ may.bounded;
              valid = i.valid;
              parents = i.parents;
              roomy = by_kind _ (i.roomy chilled);
              good =
                  record {
                    sized = i.good.sized;
                    shape = i.good.shape;
                    stock =
                        by_kind _
                        (let stock = i.good.stock chilled in
                        record { sized = stock.sized; books = stock.books; within = omega arith });
                  };
            };
        cached = head-cached c.phase bound may.kept.cached;
      }

  then-starts : MayStart (with_bound bound c) list
  unfolding with_bound with_head store_with_head
  then-starts = record { kept = kept-within; busy = may.busy; few = may.few; room = may.room }

  then-resized :
      {c₂ : Contents} {list₂ : List ℕ} {count : ℕ}
      → Advanced (with_bound bound c) c₂ list list₂ count
      → Resized c bound c₂ list list₂ count
  unfolding with_bound with_head store_with_head
  then-resized {c₂ = c₂} advanced =
      record {
        between = with_bound bound c;
        after = c₂;
        same = same-tasks (same_refl (with_bound bound c));
        kept = kept-within;
        books = refl;
        advanced = advanced;
        phased = same-phase c₂ (advanced.same.phase ∙ may.now);
      }

  -- once it is written
  module _ {c₁ : Contents} (is : c₁ ≡ with_bound bound c) where
    pub resize-advances : MayStart c₁ list
    resize-advances = subst (λ (d : Contents). MayStart d list) (sym is) then-starts

    pub resized :
        {c₂ : Contents} {list₂ : List ℕ} {count : ℕ} → Advanced c₁ c₂ list list₂ count → Resized c bound c₂ list list₂ count
    resized {c₂ = c₂} {list₂ = list₂} {count = count} advanced =
        then-resized (subst (λ (d : Contents). Advanced d c₂ list list₂ count) is advanced)
