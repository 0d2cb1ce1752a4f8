-- The climb, one turn after the other: what holds between two turns, and what each of the three stops leaves.
use mathlib.Core.Path.{◌≡◌, refl, sym, ap, subst, ◌∙◌}
use mathlib.Core.Bool.{Bool, true, ◌||◌}
use mathlib.Core.Logic.{⊎_elim}
use mathlib.Core.List.{List, [], ◌∷◌}
use Prim.Native.Nat.{ℕ, zero, suc, ◌+◌, ◌-◌, ◌^◌, ◌≤◌, ◌<◌}
use native.Mathlib.Omega.{arith}
use lib.Dec.{eqb}
use lib.ListN.{length, set, length-set}
use lib.Seq.{get_or-set_same, get_or-set_other}
use borrow.Author.Tests.{eq-eqb, ne_eqb}
use Rattle.books.specs.Kind.{Kind, all}
use Rattle.numbers.specs.Sums.{Task, only}
use Rattle.numbers.specs.Lists.{at}
use Rattle.books.specs.Standing.{waiting}
use Rattle.books.specs.Booking.{Terms, Climbed, total, spent, gift, pass, pass_each, offer, climb}
use Rattle.tree.specs.Tree.{chain, figure, up}
use Rattle.books.specs.Invariant.{Active, Balance}
use Rattle.numbers.proofs.Tests.{same_or_not, or_left, or_right}
use Rattle.numbers.proofs.Sums.{term-le, only-le, only-true, only-false}
use Rattle.tree.proofs.Tree.{up-self, up_step, chain-none, chain_more, chain-step}
use Rattle.books.proofs.Shape.{child-not-waiting}
use Rattle.books.proofs.Giving.{Given}
use Rattle.books.proofs.Climbing.{gift-within, offer-balance, offer-total}
use Rattle.books.proofs.Branches.{climb-stop, climb-offer}
use Rattle.words.specs.Layout.{rows}
use Rattle.store.specs.Rows.{rows_of}
use Rattle.store.specs.Cached.{partial_figure, partial_figure_with}
use Rattle.store.proofs.Rows.{at_rows, rows-set, figure-rows}
use Rattle.store.proofs.Figures.{partial-figure, partial-with-nothing, partial-with-own, partial-offered, partial-past-root, partial-at-waiting}
use Rattle.dispatch.specs.Climb.{Carrying, share_of, Carried}

-- between two turns: i is the next task, `left` goes up from x below it, and what is still to come is the climb from i on
pub record Way (n : ℕ) (par : ℕ → ℕ) (terms : Kind → Terms) (st : ℕ → ℕ) (goal : Climbed) (booked₀ booked figures : List ℕ) (i left offers : ℕ) : Type 0 where
  pub x : ℕ
  pub parent : par x ≡ i
  pub carrying : Carrying n par (terms Kind.chilled).need st (at booked) (at figures) x left
  pub inside : i ≤ n
  pub booked-size : length booked ≡ rows
  pub figures-size : length figures ≡ rows
  pub share : goal.share ≡ (climb n par terms st (chain n par i) (share_of n left booked)).share
  pub offered : length goal.offered ≡ offers + length (climb n par terms st (chain n par i) (share_of n left booked)).offered
  -- entries past the tasks stay
  pub past : (a : ℕ) → n < a → at booked a ≡ at booked₀ a
  -- no more offers than tasks
  pub steps : offers + length (chain n par i) ≤ n

-- a chain is no longer than it may be
chain_length : (m : ℕ) (par : ℕ → ℕ) (i : ℕ) → length (chain m par i) ≤ m
unfolding chain
chain_length zero par i = omega arith
chain_length (suc m) par i =
    ⊎_elim (λ (e : i ≡ 0). rw e (omega arith))
    (λ d. let h = chain_length m par (par i) in let e = ap length (chain_more m par i d) in omega arith) (same_or_not i 0)

pub way-first :
    (n : ℕ) (par : ℕ → ℕ) (terms : Kind → Terms) (st : ℕ → ℕ) (booked figures : List ℕ) (x r : ℕ)
    → Carrying n par (terms Kind.chilled).need st (at booked) (at figures) x r
    → length booked ≡ rows
    → length figures ≡ rows
    → Way n par terms st (climb n par terms st (chain n par (par x)) (share_of n r booked)) booked booked figures (par x) r 0
way-first n par terms st booked figures x r c p q =
    record {
      x = x;
      parent = refl;
      carrying = c;
      inside = c.tree.within x c.task;
      booked-size = p;
      figures-size = q;
      share = refl;
      offered = omega arith;
      past = λ _ _. refl;
      steps = (let h = chain_length n par (par x) in omega arith);
    }

module _ {n : ℕ} {par : ℕ → ℕ} {terms : Kind → Terms} {st : ℕ → ℕ} {goal : Climbed} {booked₀ booked figures : List ℕ} {i left offers : ℕ}
    (way : Way n par terms st goal booked₀ booked figures i left offers) where
  -- nothing is left to climb: the books are the goal's
  ends-here :
      climb n par terms st (chain n par i) (share_of n left booked) ≡ record { offered = []; share = share_of n left booked }
      → (figures' : List ℕ)
      → ((a : ℕ) → Task n a → at figures' a ≡ partial_figure n par st (at booked) a)
      → Carried n par st goal booked₀ booked figures' offers left
  ends-here e figures' figured =
      record {
        share = sym (way.share ∙ ap (λ (c : Climbed). c.share) e);
        offered = (let o = way.offered ∙ ap (λ (c : Climbed). offers + length c.offered) e in omega arith);
        figured = figured;
        past = way.past;
      }

  -- past the root
  pub way-root : i ≡ 0 → Carried n par st goal booked₀ booked figures offers left
  unfolding climb
  way-root z =
      let c = way.carrying in
      ends-here
      (ap (λ (l : List ℕ). climb n par terms st l (share_of n left booked)) (ap (chain n par) z ∙ chain-none n par)) figures
      (λ a t.
      c.figured a t
      ∙ partial-past-root n par c.rank c.tree st (at booked) way.x left a c.task (way.parent ∙ z) t)

  -- a climb stops at the first task of its path
  stops :
      (path : List ℕ)
      → ((k : ℕ) → (eqb (st k) waiting || spent (share_of n left booked)) ≡ true)
      → climb n par terms st path (share_of n left booked) ≡ record { offered = []; share = share_of n left booked }
  unfolding climb
  stops [] h = refl
  stops (k ∷ above) h = climb-stop n par terms st k above (share_of n left booked) (h k)

  -- nothing is left
  pub way-nothing : left ≡ 0 → Carried n par st goal booked₀ booked figures offers left
  unfolding spent all
  way-nothing z =
      let c = way.carrying in
      ends-here (stops (chain n par i) (λ k. or_right (eqb (st k) waiting) (eqb left 0) (eq-eqb left 0 z))) figures
      (λ a t.
      c.figured a t
      ∙ ap (λ (r : ℕ). partial_figure_with n par st (at booked) way.x r a) z
      ∙ partial-with-nothing n par st (at booked) way.x a)

  module _ (higher : i ≡ 0 → ⊥) where
    task : Task n i
    task = let h = way.inside in omega arith

    path : chain n par i ≡ i ∷ chain n par (par i)
    path = chain-step n par way.carrying.rank way.carrying.tree i task

    -- there is less to climb behind it
    pub way-shorter : length (chain n par (par i)) < length (chain n par i)
    way-shorter = let e = ap length path in omega arith

    -- a waiting task
    module _ (waits : st i ≡ waiting) where
      at-waiting :
          (a : ℕ) → Task n a → partial_figure n par st (at booked) a + only (eqb i a) left ≡ at figures a
      at-waiting a t =
          let c = way.carrying in
          let p = way.parent in
          ap (λ (k : ℕ). partial_figure n par st (at booked) a + only (eqb k a) left) (sym p)
          ∙ partial-at-waiting n par c.rank c.tree st (at booked) way.x left a c.shape c.task c.busy
          (subst (λ (k : ℕ). Task n k) (sym p) task) (ap st p ∙ waits) t
          ∙ sym (c.figured a t)

      pub waiting-room : left ≤ at figures i
      waiting-room = let h = at-waiting i task in let o = only-true (eqb i i) left (eq-eqb i i refl) in omega arith

      pub way-waiting : Carried n par st goal booked₀ booked (set figures i (at figures i - left)) offers left
      unfolding spent all
      way-waiting =
          ends-here
          (ap (λ (l : List ℕ). climb n par terms st l (share_of n left booked)) path
          ∙ climb-stop n par terms st i (chain n par (par i)) (share_of n left booked)
          (or_left (eqb (st i) waiting) (eqb left 0) (eq-eqb (st i) waiting waits)))
          (set figures i (at figures i - left))
          (λ a t.
          let h = at-waiting a t in
          ⊎_elim
          (λ e.
          let o = only-true (eqb i a) left (eq-eqb i a e) in
          let s : at (set figures i (at figures i - left)) a ≡ at figures i - left =
          ap (at (set figures i (at figures i - left))) (sym e)
          ∙ get_or-set_same figures i (at figures i - left) 0 (let z = way.figures-size in let m = way.inside in let k = way.carrying.small in omega arith)
          in
          let f : at figures i ≡ at figures a = ap (at figures) e in
          omega arith)
          (λ d.
          let o = only-false (eqb i a) left (ne_eqb i a d) in
          let s = get_or-set_other figures i a (at figures i - left) 0 (λ e. d (sym e)) in
          omega arith)
          (same_or_not i a))

    -- a task that is offered what it lacks
    module _ (busy : st i ≡ waiting → ⊥) where
      active : Active st i
      active =
          let c = way.carrying in
          let p = way.parent in
          let low = c.idle i (ap (up n par i) p ∙ up-self n par c.rank c.tree i task) in
          omega arith

      owed : Balance n par (terms Kind.chilled).need way.carrying.out st (at booked) (chain n par i) left
      owed =
          subst (λ (k : ℕ). Balance n par (terms Kind.chilled).need way.carrying.out st (at booked) (chain n par k) left) way.parent
          way.carrying.owed

      -- its figure as it is kept has what goes up in it
      figure-kept : at figures i ≡ figure n par (at booked) i + left
      figure-kept =
          let c = way.carrying in
          let p = way.parent in
          let with-x : at figures i ≡ partial_figure_with n par st (at booked) way.x left i = c.figured i task in
          let lifted =
          partial-offered n par c.rank c.tree st (at booked) (at booked) way.x left 0 i c.task c.busy
          (subst (λ (k : ℕ). Task n k) (sym p) task) (omega arith) (λ k _ _. refl) (omega arith) task
          in
          let own : partial_figure_with n par st (at booked) (par way.x) (left - 0) i ≡ partial_figure n par st (at booked) i =
          ap (λ (k : ℕ). partial_figure_with n par st (at booked) k (left - 0) i) p
          ∙ partial-with-own n par c.rank c.tree st (at booked) i (left - 0) task
          in
          let whole =
          partial-figure n par c.rank c.tree st (at booked) i task
          (λ d t e. child-not-waiting n par c.rank c.tree st c.shape i d task t e busy)
          in
          let one : only (eqb (par way.x) i) left ≡ left = only-true (eqb (par way.x) i) left (eq-eqb (par way.x) i p) in
          let none = only-le (eqb (par way.x) i) 0 in
          omega arith

      pub figure-room : left ≤ at figures i
      figure-room = let k = figure-kept in omega arith

      -- it is given what it lacks of its need, within what goes up
      module _ (g : ℕ) (lacks : g ≡ (terms Kind.chilled).need i - (at figures i - left)) where
        given : g ≡ (terms Kind.chilled).need i - figure n par (at booked) i
        given = let k = figure-kept in omega arith

        in_list : i < rows
        in_list = let m = way.inside in let k = way.carrying.small in omega arith

        granted : at (set booked i (at booked i + g)) i ≡ at booked i + ((terms Kind.chilled).need i - figure n par (at booked) i)
        granted =
            get_or-set_same booked i (at booked i + g) 0 (let z = way.booked-size in let m = in_list in omega arith)
            ∙ ap (λ (v : ℕ). at booked i + v) given

        others : (k : ℕ) → Task n k → (k ≡ i → ⊥) → at (set booked i (at booked i + g)) k ≡ at booked k
        others k _ d = get_or-set_other booked i k (at booked i + g) 0 d

        handed : Given n par (terms Kind.chilled).need (at booked) (at (set booked i (at booked i + g))) i
        handed = record { there = granted; elsewhere = others }

        pub gift-fits : g ≤ left
        gift-fits =
            let c = way.carrying in
            let w =
            gift-within n par c.rank c.tree st c.shape (terms Kind.chilled).need c.out c.roomy i task active left (at booked)
            (at (set booked i (at booked i + g))) owed handed
            in
            let e = given in
            omega arith

        -- and all stays within 32 bits
        pub booked_fits : at booked i + g < 2 ^ 32
        unfolding total
        booked_fits =
            let c = way.carrying in
            let one = term-le (at booked) n i task in
            let w = c.within in
            let b = c.bounded in
            let h = gift-fits in
            omega arith

        -- the figures once i has it
        refigured :
            (a : ℕ)
            → Task n a
            → at (set figures i ((at figures i - left) + g)) a
            ≡ partial_figure_with n par st (at (set booked i (at booked i + g))) i (left - g) a
        refigured a t =
            let c = way.carrying in
            let p = way.parent in
            let lifted :
            partial_figure_with n par st (at (set booked i (at booked i + g))) i (left - g) a + only (eqb i a) left
            ≡ partial_figure_with n par st (at booked) way.x left a + only (eqb i a) g =
            subst
            (λ (k : ℕ).
            partial_figure_with n par st (at (set booked i (at booked i + g))) k (left - g) a + only (eqb k a) left
            ≡ partial_figure_with n par st (at booked) way.x left a + only (eqb k a) g)
            p
            (partial-offered n par c.rank c.tree st (at booked) (at (set booked i (at booked i + g))) way.x left g a
            c.task c.busy (subst (λ (k : ℕ). Task n k) (sym p) task)
            (subst (λ (k : ℕ). at (set booked i (at booked i + g)) k ≡ at booked k + g) (sym p)
            (granted ∙ ap (λ (v : ℕ). at booked i + v) (sym given)))
            (λ k u d. others k u (λ e. d (e ∙ sym p))) gift-fits t)
            in
            let was = c.figured a t in
            ⊎_elim
            (λ e.
            let one = only-true (eqb i a) left (eq-eqb i a e) in
            let two = only-true (eqb i a) g (eq-eqb i a e) in
            let s : at (set figures i ((at figures i - left) + g)) a ≡ (at figures i - left) + g =
            ap (at (set figures i ((at figures i - left) + g))) (sym e)
            ∙ get_or-set_same figures i ((at figures i - left) + g) 0
            (let z = way.figures-size in let m = in_list in omega arith)
            in
            let f : at figures i ≡ at figures a = ap (at figures) e in
            let k = figure-kept in
            omega arith)
            (λ d.
            let one = only-false (eqb i a) left (ne_eqb i a d) in
            let two = only-false (eqb i a) g (ne_eqb i a d) in
            let s = get_or-set_other figures i a ((at figures i - left) + g) 0 (λ e. d (sym e)) in
            omega arith)
            (same_or_not i a)

        -- the climb of the rules takes the same turn
        same_turn :
            (left ≡ 0 → ⊥)
            → climb n par terms st (chain n par i) (share_of n left booked)
            ≡ offer i (climb n par terms st (chain n par (par i)) (share_of n (left - g) (set booked i (at booked i + g))))
        unfolding spent all gift pass pass_each
        same_turn some =
            let gift-is : gift n par (terms Kind.chilled).need (rows_of n booked) i ≡ g =
            ap (λ (v : ℕ). (terms Kind.chilled).need i - v) (figure-rows n par booked i) ∙ sym given
            in
            ap (λ (l : List ℕ). climb n par terms st l (share_of n left booked)) path
            ∙ climb-offer n par terms st i (chain n par (par i)) (share_of n left booked)
            (ap (λ (b : Bool). b || eqb left 0) (ne_eqb (st i) waiting busy) ∙ ne_eqb left 0 some)
            ∙ ap
            (λ (v : ℕ).
            offer i
            (climb n par terms st (chain n par (par i))
            (record { chilled = record { left = left - v; booked = set (rows_of n booked) i (at (rows_of n booked) i + v) } })))
            gift-is
            ∙ ap (λ (l : List ℕ). offer i (climb n par terms st (chain n par (par i)) (record { chilled = record { left = left - g; booked = l } })))
            (ap (λ (v : ℕ). set (rows_of n booked) i (v + g)) (at_rows n booked i way.inside)
            ∙ sym (rows-set n booked i (at booked i + g) way.inside))

        pub way_next :
            (left ≡ 0 → ⊥)
            → Way n par terms st goal booked₀ (set booked i (at booked i + g)) (set figures i ((at figures i - left) + g)) (par i) (left - g)
            (offers + 1)
        unfolding offer total
        way_next some =
            let c = way.carrying in
            let turn = same_turn some in
            record {
              x = i;
              parent = refl;
              carrying =
                  record {
                    small = c.small;
                    task = task;
                    busy = busy;
                    rank = c.rank;
                    tree = c.tree;
                    shape = c.shape;
                    out = c.out;
                    roomy = c.roomy;
                    owed =
                        subst
                        (λ (v : ℕ). Balance n par (terms Kind.chilled).need c.out st (at (set booked i (at booked i + g))) (chain n par (par i)) (left - v))
                        (sym given)
                        (offer-balance n par c.rank c.tree st c.shape (terms Kind.chilled).need c.out c.roomy i task active left (at booked)
                        (at (set booked i (at booked i + g))) owed handed);
                    idle =
                        λ a m.
                        c.idle a
                        (ap (up n par a) way.parent
                        ∙ up_step n par c.rank c.tree a i task
                        ∙ or_right (eqb a i) (up n par a (par i)) m);
                    figured = refigured;
                    bound = c.bound;
                    bounded = c.bounded;
                    within =
                        (let same =
                        offer-total n par c.rank c.tree st c.shape (terms Kind.chilled).need c.out c.roomy i task active left (at booked)
                        (at (set booked i (at booked i + g))) owed handed
                        in
                        let w = c.within in
                        let e = given in
                        omega arith);
                  };
              inside = c.tree.within i task;
              booked-size = length-set booked i (at booked i + g) ∙ way.booked-size;
              figures-size = length-set figures i ((at figures i - left) + g) ∙ way.figures-size;
              share = way.share ∙ ap (λ (k : Climbed). k.share) turn;
              offered = (let o = way.offered ∙ ap (λ (k : Climbed). offers + length k.offered) turn in omega arith);
              past = λ a h. get_or-set_other booked i a (at booked i + g) 0 (λ e. let m = way.inside in omega arith) ∙ way.past a h;
              steps = (let o = way.steps in let e = ap length path in omega arith);
            }
