-- `book_next` meets its contract: the next task is read, tested and booked.
use mathlib.Core.Path.{◌≡◌, refl, sym, ap, ap₂, subst, ◌∙◌}
use mathlib.Core.Bool.{Bool, true, false≢true}
use mathlib.Core.List.{List}
use Prim.Native.Nat.{ℕ, ◌+◌, ◌-◌, ◌<◌}
use native.Mathlib.Omega.{arith}
use lib.Dec.{leb}
use lib.ListN.{set}
use Rattle.books.specs.Kind.{all}
use Rattle.books.specs.Kind
use Rattle.numbers.specs.Lists.{at}
use Rattle.words.specs.Layout.{activation_base, chilled, head_base, next}
use Rattle.words.specs.Contents.{Contents, contents, with_head}
use Rattle.words.proofs.Contents.{lengths, contents-head}
use Rattle.store.specs.Store.{AtTask, MayGrant, granted, with_store}
use Rattle.store.proofs.InStore.{total-within}
use Rattle.booking.specs.Booked.{SomeWait, MayActivate, DidActivate, NextBooked, allows_next}
use Rattle.booking.proofs.Booking.{next_task, lacking, granted_next, room_in, next-in, tested, may-grant, may-activate, long-still, next-booked, next-read}
use Rattle.booking.proofs.book_next.Goals as goal

-- the task that is read
module _ (w : List ℕ) {n task : ℕ} (wait : SomeWait (contents w) n) (read : task ≡ at w (activation_base + n)) where
  more : (contents w).next < (contents w).size
  more = let e = wait.here in let m = wait.more in omega arith

  task-is : task ≡ next_task (contents w)
  task-is = read ∙ next-read w n wait

  may-miss : AtTask chilled task (contents w)
  may-miss = rw task-is (next-in wait.kept (lengths w) more Kind.chilled)

  -- what it misses
  module _ {units : ℕ}
      (misses : units ≡ at (contents w).stores.chilled.needs task - at (contents w).stores.chilled.figures task) where
    units-are : units ≡ lacking (contents w) Kind.chilled
    units-are =
        misses
        ∙ ap (λ (t : ℕ). at (contents w).stores.chilled.needs t - at (contents w).stores.chilled.figures t) task-is

    -- whether it fits
    module _ {room : Bool} (told : room ≡ leb ((contents w).stores.chilled.total + units) (contents w).stores.chilled.bound) where
      room-is : room ≡ all (room_in (contents w))
      unfolding all
      room-is = told ∙ ap (λ (u : ℕ). leb ((contents w).stores.chilled.total + u) (contents w).stores.chilled.bound) units-are

      tested-is : room ≡ allows_next (contents w)
      tested-is = room-is ∙ tested wait.kept (lengths w) more

      -- it does
      module _ (true_room : room ≡ true) where
        fits : all (room_in (contents w)) ≡ true
        fits = sym room-is ∙ true_room

        grants : MayGrant chilled task units (contents w)
        grants = rw (task-is, units-are) (may-grant wait.kept (lengths w) more fits)

        -- what it misses is granted
        module _ (w' : List ℕ)
            (grants-is :
            contents w'
            ≡ with_store Kind.chilled
            (granted (at (contents w).parents task) task units (contents w).stores.chilled) (contents w)) where
          granted-is : contents w' ≡ granted_next (contents w)
          granted-is =
              grants-is
              ∙ ap₂
              (λ (t u : ℕ).
              with_store Kind.chilled (granted (at (contents w).parents t) t u (contents w).stores.chilled) (contents w))
              task-is units-are

          activates : MayActivate task (contents w')
          activates = rw (task-is, granted-is) (may-activate wait.kept (lengths w) more fits)

          -- the task is booked
          module _ (w'' : List ℕ) (booked : DidActivate task (contents w') (contents w'')) where
            did : DidActivate (next_task (contents w)) (granted_next (contents w)) (contents w'')
            did =
                subst (λ (d : Contents). DidActivate (next_task (contents w)) d (contents w'')) granted-is
                (subst (λ (t : ℕ). DidActivate t (contents w') (contents w'')) task-is booked)

            all-booked : {l : List ℕ} → l ≡ set w'' (head_base + next) (n + 1) → NextBooked (contents w) (contents l)
            unfolding contents
            all-booked {l} written =
                next-booked wait.kept (lengths w) more fits did (contents l)
                (ap contents written
                ∙ contents-head w'' (long-still wait.kept (lengths w) more fits did) next (n + 1) (omega arith)
                ∙ ap (λ (k : ℕ). with_head next (k + 1) (contents w'')) wait.here)

pub missing-units-requires : goal.missing-units-requires
missing-units-requires c = may-miss c.args.plan.now.words c.requires c.entry-task.ensures

pub has_room-requires : goal.has_room-requires
has_room-requires c = (record { offset = refl; inside = omega arith }, total-within c.requires.kept Kind.chilled)

pub returns-then-not-has_room : goal.returns-then-not-has_room
returns-then-not-has_room c =
    record {
      tested =
          sym (c.if-not-has_room.true)
          ∙ tested-is c.args.plan.now.words c.requires c.entry-task.ensures c.missing-units.ensures c.has_room.ensures;
      booked = λ e. absurd (false≢true e);
      stays = λ _. refl;
    }

pub grant-requires : goal.grant-requires
grant-requires c =
    grants c.args.plan.now.words c.requires c.entry-task.ensures c.missing-units.ensures c.has_room.ensures c.if-not-has_room.false

pub activate-requires : goal.activate-requires
activate-requires c =
    activates c.args.plan.now.words c.requires c.entry-task.ensures c.missing-units.ensures c.has_room.ensures c.if-not-has_room.false
    c.grant.new.plan.words c.grant.ensures

pub returns : goal.returns
returns c =
    record {
      tested =
          sym (c.if-not-has_room.false)
          ∙ tested-is c.args.plan.now.words c.requires c.entry-task.ensures c.missing-units.ensures c.has_room.ensures;
      booked =
          λ _.
          all-booked c.args.plan.now.words c.requires c.entry-task.ensures c.missing-units.ensures c.has_room.ensures
          c.if-not-has_room.false c.grant.new.plan.words c.grant.ensures c.activate.new.plan.words c.activate.ensures c.set_cell.ensures;
      stays = λ e. absurd (false≢true (sym e));
    }
