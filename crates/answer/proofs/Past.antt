-- No row past the tasks of a running plan says anything of its day.
use mathlib.Core.Path.{◌≡◌}
use mathlib.Core.Logic.{⊎_elim}
use mathlib.Core.List.{List}
use Prim.Native.Nat.{ℕ, suc, ◌≤◌, ◌<◌}
use native.Mathlib.Omega.{arith}
use lib.Dec.{eqb}
use borrow.Author.Tests.{ne_eqb}
use Rattle.books.specs.Kind.{chilled}
use Rattle.numbers.specs.Sums.{only}
use Rattle.numbers.specs.Lists.{at}
use Rattle.tree.specs.Need.{need}
use Rattle.tree.specs.Tree.{children}
use Rattle.rules.specs.Phase
use Rattle.rules.specs.Reachable.{Reachable}
use Rattle.numbers.proofs.Tests.{le-or-lt}
use Rattle.numbers.proofs.Sums.{sum-zero}
use Rattle.words.specs.Contents.{Contents}
use Rattle.store.specs.Rows.{ZeroPast}
use Rattle.answer.specs.Meaning.{meaning}
use Rattle.answer.specs.Sound.{Unused, DayPast, Sound}
use Rattle.answer.proofs.Meant.{parents-small, cached-now}

-- a number past the tasks is the parent of nobody
no-children : (n : ℕ) (par out : ℕ → ℕ) (a : ℕ) → ((i : ℕ) → par i ≤ n) → n < a → children n par out a ≡ 0
unfolding children
no-children n par out a within h =
    sum-zero (λ c. only (eqb (par c) a) (out c)) n
    (λ c _. let p = within c in rw (ne_eqb (par c) a (λ e. omega arith)))

module _ (c : Contents) (sound : Sound c) (reached : Reachable (meaning c)) where
  given-small : c.given ≤ suc c.size
  given-small =
      ⊎_elim
      (λ (h : Phase.orders ≤ c.phase). let g = sound.given.whole h in omega arith)
      (λ (h : c.phase < Phase.orders).
      ⊎_elim
      (λ (s : Phase.steps ≤ c.phase). let g = sound.given.in_steps (omega arith) in omega (arith, g))
      (λ (s : c.phase < Phase.steps). let g = sound.given.unopened (omega arith) in omega arith)
      (le-or-lt Phase.steps c.phase))
      (le-or-lt Phase.orders c.phase)

  pub unused-past : (l : List ℕ) → Unused c.given l → ZeroPast c.size l
  unused-past l unused a h = unused.later a (let g = given-small in omega arith)

  pub running-past : c.phase ≡ Phase.running → DayPast c.size c
  unfolding need
  running-past now =
      let k = cached-now c sound now in
      record {
        unended = k.unended_zero;
        standings = k.standings_zero;
        needs =
            λ a past.
            let needed = (k.stores chilled).needed a in
            let none =
            no-children c.size (at c.parents) (at c.stores.chilled.outs) a (parents-small c sound reached) past
            in
            let work = unused-past c.stores.chilled.works sound.works a past in
            let out = unused-past c.stores.chilled.outs sound.outs a past in
            omega arith;
        booked = (k.stores chilled).booked_zero;
        figures = (k.stores chilled).figures_zero;
      }
