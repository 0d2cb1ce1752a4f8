-- Booking ahead and starting, the end of BEGIN, of DONE and of 08, said of the plan: the answer, the plan and the start list are those of
-- the rules, and the plan stays sound.
use mathlib.Core.Path.{◌≡◌, sym, ap, ap₂, subst, fun_ext, ◌∙◌}
use mathlib.Core.List.{List}
use Prim.Native.Nat.{ℕ}
use native.Mathlib.Omega.{arith}
use lib.ListN.{length, take}
use Rattle.books.specs.Kind.{Each, each}
use Rattle.books.specs.Kind
use Rattle.numbers.specs.Lists.{at}
use Rattle.tree.specs.Need.{need}
use Rattle.tree.specs.Peak.{Peaked}
use Rattle.rules.specs.Phase
use Rattle.rules.specs.State.{needs}
use Rattle.books.specs.Booking.{Books, activate, starts, start}
use Rattle.rules.specs.Obey.{terms_of, with_books, ahead, begun, proceed, free}
use Rattle.rules.specs.Answer as rules
use Rattle.words.specs.Contents.{Contents, with_head, store_with_head}
use Rattle.store.specs.Rows.{books, terms_in, activation_of, execution_of}
use Rattle.store.specs.Cached.{Cached}
use Rattle.store.proofs.InStore.{by_kind}
use Rattle.answer.specs.Meaning.{meaning, answered_of}
use Rattle.answer.specs.Sound.{Sound}
use Rattle.day.specs.Advanced.{booked_ahead, starts_then}
use Rattle.day.specs.Day.{SameTasks, Proceeded}
use Rattle.answer.proofs.Meant.{parents-meant, outs-meant, needs-columns}
use Rattle.day.proofs.Same.{same-tasks, then_same}
use Rattle.day.proofs.Staying.{Whole, phase-same, head-cached, day-sound}

module _ {c : Contents} (whole : Whole c) {k : Books} {c' : Contents} {list list' : List ℕ} {count : ℕ}
    (p : Proceeded c k c' list list' count) where
  abbrev m : Contents
  m = p.between

  -- the needs of the plan, by the columns of its day
  needs-are : needs (meaning c) ≡ at m.stores.chilled.needs
  needs-are =
      needs-columns c whole.sound
      ∙ sym
      (fun_ext (p.kept.cached.stores Kind.chilled).needed
      ∙ (λ z.
      need (p.same.size z) (at (p.same.parents z)) (at (p.same.works z)) (at (p.same.outs z))))

  -- and what booking finds of each store
  terms-are : terms_of (meaning c) ≡ terms_in m
  terms-are =
      fun_ext
      (by_kind (λ d. terms_of (meaning c) d ≡ terms_in m d)
      (λ z.
      record {
        bound = sym p.same.bound z;
        need = needs-are z;
        out = (outs-meant c whole.sound ∙ ap at (sym p.same.outs)) z;
      }))

  order_is : (meaning c).activation ≡ activation_of c
  order_is = ap (λ (n : ℕ). take n c.activation) whole.ranked_all

  execution-is : (meaning c).execution ≡ execution_of c
  execution-is = ap (λ (n : ℕ). take n c.execution) whole.placed_all

  -- booking ahead and starting of the rules, by the words
  ahead-is : ahead (meaning c) k ≡ booked_ahead m
  unfolding ahead
  ahead-is =
      λ z.
      activate (sym p.same.size z) ((parents-meant c whole.sound ∙ ap at (sym p.same.parents)) z) (terms-are z)
      ((order_is ∙ (λ y. take (sym p.same.size y) (sym p.same.activation y))) z) (sym p.books z)

  begun-is : begun (meaning c) (ahead (meaning c) k) ≡ starts_then m
  unfolding begun
  begun-is =
      λ z.
      starts (sym p.same.size z) ((parents-meant c whole.sound ∙ ap at (sym p.same.parents)) z)
      ((execution-is ∙ (λ y. take (sym p.same.size y) (sym p.same.execution y))) z)
      (free (sym p.same.size z) (sym p.same.processors z) (ahead-is z).standings) (ahead-is z).standings

  books-are :
      books p.after
      ≡ record {
        standings = start (begun (meaning c) (ahead (meaning c) k)) (ahead (meaning c) k).standings;
        booked = (ahead (meaning c) k).booked;
      }
  books-are =
      p.advanced.books
      ∙ sym
      (ap₂ (λ (l : List ℕ) (b : Books). record { standings = start l b.standings; booked = b.booked }) begun-is ahead-is)

  -- what is given is as before
  kept-tasks : SameTasks c p.after
  kept-tasks = then_same p.same (same-tasks p.advanced.same)

  abbrev then : Contents
  then = with_head 0 Phase.running p.after

  state-is : (peaks : Each Peaked) (offers : ℕ) → meaning then ≡ (proceed (meaning c) Phase.running k peaks offers).state
  unfolding proceed with_books with_head store_with_head
  state-is peaks offers =
      let t = kept-tasks in
      λ z.
      record {
        phase = Phase.running;
        size = t.size z;
        processors = t.processors z;
        parents = take (t.given z) (t.parents z);
        activation = take (t.ranked z) (t.activation z);
        execution = take (t.placed z) (t.execution z);
        standings = (books-are z).standings;
        stores =
            each
            (λ _.
            record {
              bound = t.bound z;
              works = take (t.given z) (t.works z);
              outs = take (t.given z) (t.outs z);
              booked = (books-are z).booked.chilled;
            });
      }

  -- all that the caller receives
  pub same :
      (used : ℕ) (peak : Peaked) (offers : ℕ)
      → answered_of (record { number = 0; used = used; starts = count; peak = peak.trays; by = peak.task; offers = offers }) c' list'
      ≡ rules.accept (proceed (meaning c) Phase.running k (each (λ _. peak)) offers) used list
  unfolding rules.accept proceed
  same used peak offers =
      let l : List ℕ = begun (meaning c) (ahead (meaning c) k) in
      let many : count ≡ length l = p.advanced.counted ∙ ap length (sym begun-is) in
      let written : list' ≡ rules.front l list =
      p.advanced.listed ∙ ap (λ (m : List ℕ). rules.front m list) (sym begun-is)
      in
      λ z.
      record {
        answer = record { number = 0; used = used; starts = many z; peaks = each (λ _. peak); offers = offers };
        state = (ap meaning p.phased ∙ state-is (each (λ _. peak)) offers) z;
        list = written z;
      }

  then-cached : Cached then
  unfolding with_head store_with_head
  then-cached = head-cached Phase.running p.after.stores.chilled.bound p.advanced.kept.cached

  pub sound-then : Sound c'
  unfolding with_head store_with_head
  sound-then =
      subst (λ (d : Contents). Sound d) (sym p.phased)
      (day-sound whole (phase-same Phase.running kept-tasks)
      p.advanced.kept.cached.long (omega arith) (omega arith) (λ _. then-cached) (λ late. absurd (omega arith)))
