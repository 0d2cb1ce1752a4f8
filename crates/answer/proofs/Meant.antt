-- What a sound plan means: the lists of its meaning have for each task what its columns have.
use mathlib.Core.Path.{◌≡◌, sym, ap, fun_ext, subst, ◌∙◌}
use mathlib.Core.Logic.{⊎_elim}
use mathlib.Core.List.{List, [], ◌∷◌, ◌++◌}
use Prim.Native.Nat.{ℕ, suc, ◌+◌, ◌≤◌, ◌<◌}
use native.Mathlib.Numerals.{add-one}
use native.Mathlib.Omega.{arith}
use lib.Dec.{leb}
use lib.ListN.{length, take, set, length-take, get_or-eq_default}
use lib.Seq.{length-take-le, get_or-take, take-suc-set}
use borrow.Author.Tests.{le-leb}
use Rattle.books.specs.Kind.{Kind, chilled}
use Rattle.numbers.specs.Lists.{at}
use Rattle.tree.specs.Need.{need}
use Rattle.rules.specs.Phase
use Rattle.rules.specs.State.{needs}
use Rattle.books.specs.Booking.{Terms}
use Rattle.rules.specs.Obey.{books_of, terms_of}
use Rattle.rules.specs.Reachable.{Reachable}
use Rattle.tree.specs.Tree.{Valid, rank_in}
use Rattle.books.specs.Invariant.{Roomy, Good}
use Rattle.numbers.proofs.Tests.{le-or-lt}
use Rattle.numbers.proofs.Sums.{only-true}
use Rattle.rules.proofs.InDay.{Going, still-going, needs-roomy}
use Rattle.rules.proofs.Reaching.{lives}
use Rattle.words.specs.Contents.{Contents}
use Rattle.words.proofs.Contents.{Lengths}
use Rattle.store.specs.Rows.{rows_of, books, terms_in, activation_of}
use Rattle.store.specs.Cached.{Cached}
use Rattle.store.specs.Kept.{Kept}
use Rattle.store.proofs.Rows.{rows_is}
use Rattle.store.proofs.InStore.{by_kind}
use Rattle.answer.specs.Meaning.{day_rows, meaning}
use Rattle.answer.specs.Sound.{Unused, Sound}

-- the entries given so far are all that a column says
pub given_is : (given : ℕ) (l : List ℕ) → Unused given l → at (take given l) ≡ at l
given_is given l unused =
    fun_ext
    (λ a.
    ⊎_elim
    (λ (h : given ≤ a).
    get_or-eq_default (take given l) 0 (let t = length-take given l in omega arith) ∙ sym (unused.later a h))
    (λ (h : a < given). get_or-take given l a 0 h)
    (le-or-lt given a))

-- where one entry more is given, it stands behind the others
pub given-more :
    (l : List ℕ) (given entry : ℕ) → given < length l → take (given + 1) (set l given entry) ≡ take given l ++ (entry ∷ [])
given-more l given entry more = rw add-one (take-suc-set l given entry more)

module _ (c : Contents) (sound : Sound c) where
  -- the columns of the plan, in any phase
  pub parents-meant : at (meaning c).parents ≡ at c.parents
  parents-meant = given_is c.given c.parents sound.parents

  pub works-meant : at (meaning c).stores.chilled.works ≡ at c.stores.chilled.works
  works-meant = given_is c.given c.stores.chilled.works sound.works

  pub outs-meant : at (meaning c).stores.chilled.outs ≡ at c.stores.chilled.outs
  outs-meant = given_is c.given c.stores.chilled.outs sound.outs

  -- the needs, by the columns
  pub needs-columns :
      needs (meaning c) ≡ need c.size (at c.parents) (at c.stores.chilled.works) (at c.stores.chilled.outs)
  needs-columns = rw (parents-meant, works-meant, outs-meant)

  -- every parent is a task or nobody
  pub parents-small : Reachable (meaning c) → (i : ℕ) → at c.parents i ≤ c.size
  parents-small reached =
      subst (λ (f : ℕ → ℕ). (i : ℕ) → f i ≤ c.size) parents-meant (lives reached).formed.given.parents.limited

-- how many entries the two orders have
module _ (c : Contents) (sound : Sound c) (long : Lengths c) where
  pub ranked-length : length (meaning c).activation ≡ c.ranked
  ranked-length =
      length-take-le c.ranked c.activation
      (let f = sound.activation.few in let s = sound.small in let l = long.activation in omega arith)

  pub placed-length : length (meaning c).execution ≡ c.placed
  placed-length =
      length-take-le c.placed c.execution
      (let f = sound.execution.few in let s = sound.small in let l = long.execution in omega arith)

-- in a day its columns have an entry for each task, and one for nobody
pub day-rows : (c : Contents) → Phase.running ≤ c.phase → day_rows c ≡ suc c.size
day-rows c day = only-true (leb Phase.running c.phase) (suc c.size) (le-leb Phase.running c.phase day)

module _ (c : Contents) (sound : Sound c) (day : Phase.running ≤ c.phase) where
  -- the lists of the day are the rows of the tasks
  pub standings-rows : (meaning c).standings ≡ rows_of c.size c.standings
  standings-rows = ap (λ (r : ℕ). take r c.standings) (day-rows c day)

  pub booked-rows : (meaning c).stores.chilled.booked ≡ rows_of c.size c.stores.chilled.booked
  booked-rows = ap (λ (r : ℕ). take r c.stores.chilled.booked) (day-rows c day)

  pub books-rows : books_of (meaning c) ≡ books c
  books-rows = rw (day-rows c day)

  -- the activation order is whole
  pub activation-meant : (meaning c).activation ≡ activation_of c
  activation-meant = ap (λ (k : ℕ). take k c.activation) (sound.day day).ranked_all

-- its activation order holds each task once, before its parent
pub order-valid :
    (c : Contents)
    → Reachable (meaning c)
    → Sound c
    → Phase.running ≤ c.phase
    → Valid c.size (at c.parents) (activation_of c)
order-valid c reached sound day =
    rw (parents-meant c sound, activation-meant c sound day) at ((lives reached).day day).1.planned.valid

-- while it runs
module _ (c : Contents) (sound : Sound c) (now : c.phase ≡ Phase.running) where
  pub in-running : Phase.running ≤ c.phase
  in-running = omega arith

  pub cached-now : Cached c
  cached-now = (sound.day in-running).cached now

  -- the lists of the day have for each task what the columns have
  pub standings-meant : at (meaning c).standings ≡ at c.standings
  standings-meant = ap at (standings-rows c sound in-running) ∙ rows_is c.size c.standings cached-now.standings_zero

  -- the needs are those that were weighed
  pub needs-meant : needs (meaning c) ≡ at c.stores.chilled.needs
  needs-meant = needs-columns c sound ∙ sym (fun_ext (cached-now.stores chilled).needed)

  -- what booking finds of each store is what its columns have
  pub terms-meant : terms_of (meaning c) ≡ terms_in c
  terms-meant =
      fun_ext
      (by_kind (λ k. terms_of (meaning c) k ≡ terms_in c k)
      (λ i. record { bound = c.stores.chilled.bound; need = needs-meant i; out = outs-meant c sound i }))

-- a running plan that commands led to
module _ (c : Contents) (reached : Reachable (meaning c)) (sound : Sound c) (now : c.phase ≡ Phase.running) where
  day : Phase.running ≤ c.phase
  day = in-running c sound now

  -- its root has not ended
  pub going : Going (meaning c)
  going = still-going (meaning c) ((lives reached).day day).1.course now

  -- its books keep what holds of a day
  pub still_kept : Kept c
  still_kept =
      record {
        invariant =
            record {
              small = sound.small;
              bounded = by_kind _ sound.bounded;
              valid = order-valid c reached sound day;
              parents = parents-small c sound reached;
              roomy =
                  by_kind _
                  (subst (λ (par : ℕ → ℕ). Roomy c.size par (at c.stores.chilled.needs) (at c.stores.chilled.outs))
                  (parents-meant c sound)
                  (subst (λ (f : ℕ → ℕ). Roomy c.size (at (meaning c).parents) f (at c.stores.chilled.outs))
                  (needs-meant c sound now)
                  (subst (λ (out : ℕ → ℕ). Roomy c.size (at (meaning c).parents) (needs (meaning c)) out) (outs-meant c sound)
                  (needs-roomy (meaning c) (meaning c).stores.chilled))));
              good =
                  subst (λ (e : Kind → Terms). Good c.size (at c.parents) (rank_in (activation_of c)) e (books c)) (terms-meant c sound now)
                  (rw (parents-meant c sound, activation-meant c sound day, books-rows c sound day) at going.settled.good);
            };
        cached = cached-now c sound now;
      }

  -- no more tasks run than there are processors
  pub staffed : c.active ≤ c.processors
  staffed =
      let r = (cached-now c sound now).runs in
      let s = rw (standings-rows c sound day) at going.settled.staffed in
      omega arith
