-- What holds from turn to turn of a step.
use mathlib.Core.Path.{◌≡◌, refl, sym, ap, subst, ◌∙◌}
use mathlib.Core.List.{List, [], ◌++◌, append_assoc, append-nil}
use Prim.Native.Nat.{ℕ, zero, suc, ◌+◌, ◌-◌, ◌^◌, ◌≤◌, ◌<◌}
use native.Mathlib.Omega.{arith}
use native.Mathlib.Nat.{zero-add}
use lib.ListN.{length, take, drop, length-append, length-drop, drop_of_length-le}
use lib.Seq.{take_all, take_at, drop_at, drop-drop}
use Rattle.rules.specs.State.{State}
use Rattle.rules.specs.Answer.{Asking}
use Rattle.texts.specs.Text.{longest_line}
use Rattle.texts.specs.Printer as rules
use Rattle.texts.specs.Printer.{continues, Turn, idle, turn, behind, turns, moved, step}
use Rattle.texts.proofs.Stepped.{no_room, last_turn, next-turn}
use Rattle.texts.proofs.Printed.{going}
use Rattle.answer.specs.Meaning.{plan_of}
use Rattle.answer.specs.ValidPlan.{ValidPlan}
use Rattle.put.specs.Written.{over, Written}
use Rattle.printing.specs.declared.Turned.{Turned}
use Rattle.printing.specs.declared.Verdict.{Verdict}
use Rattle.printing.specs.declared.Verdict.TheVariants.{GoesOn, Waits, Stops}
use Rattle.printing.specs.Verdict.{verdict_of}
use Rattle.printing.specs.Taken.{Taken}
use Rattle.printing.proofs.Within.{used-within}
use Rattle.position.specs.declared.Position.{Position}
use Rattle.stepping.specs.declared.Stepped.{Stepped}
use Rattle.position.specs.Standing.{position_of}
use Rattle.stepping.specs.Stepped.{Step}

-- only one verdict is to go on
goes-on : (verdict : Verdict) → verdict_of verdict ≡ continues → verdict ≡ GoesOn
goes-on GoesOn e = refl
goes-on Waits e = absurd (omega arith)
goes-on Stops e = absurd (omega arith)

behind-none : (t : Turn) → behind 0 [] t ≡ t
unfolding behind
behind-none t =
    ap (λ (n : ℕ). record { verdict = t.verdict; used = n; text = t.text; state = t.state; list = t.list }) (zero-add t.used)

behind-behind : (used used' : ℕ) (text text' : List ℕ) (t : Turn)
    → behind used text (behind used' text' t) ≡ behind (used + used') (text ++ text') t
unfolding behind
behind-behind used used' text text' t =
    let e : used + (used' + t.used) ≡ used + used' + t.used = omega arith in
    rw (e, append_assoc text text' t.text)

-- a text that there is room for stands behind the text so far
pub joined : (text more whole output piece : List ℕ) (written k n : ℕ)
    → output ≡ text ++ drop (length text) whole
    → written ≡ length text
    → length text + length more ≤ length whole
    → Written more (drop written output) piece n
    → length (drop written output) ≤ k
    → (take written output ++ (piece ++ drop k (drop written output)) ≡ (text ++ more) ++ drop (length (text ++ more)) whole)
    × (n ≡ length more)
unfolding over
joined text more whole output piece written k n e e' room w all =
    let front : take written output ≡ text = ap (take written) e ∙ take_at text (drop (length text) whole) written (sym e') in
    let rest : drop written output ≡ drop (length text) whole = ap (drop written) e ∙ drop_at text (drop (length text) whole) written (sym e') in
    let size : length (drop written output) ≡ length whole - length text = ap length rest ∙ length-drop (length text) whole in
    let fits : length more ≤ length (drop written output) = omega arith in
    let whole-text : take (length (drop written output)) more ≡ more = take_all (length (drop written output)) more fits in
    let later : drop (length more) (drop written output) ≡ drop (length (text ++ more)) whole =
    ap (drop (length more)) rest
    ∙ drop-drop (length more) (length text) whole
    ∙ ap (λ (m : ℕ). drop m whole) (sym (length-append text more)) in (
      rw (front, drop_of_length-le (drop written output) all, append-nil piece, w.bytes, whole-text, later)
          (sym (append_assoc text more (drop (length (text ++ more)) whole))),
      omega (arith, w.ends),
    )

-- a buffer with a text at its front is as long as it was
full : (text whole : List ℕ) {output : List ℕ}
    → output ≡ text ++ drop (length text) whole
    → length text ≤ length whole
    → length output ≡ length whole
full text whole e room =
    ap length e ∙ length-append text (drop (length text) whole) ∙ omega (arith, length-drop (length text) whole)

-- bytes used, and then more
moved-moved : (used used' : ℕ) (x : rules.Position) → moved used' (moved used x) ≡ moved (used + used') x
unfolding moved
moved-moved used used' x =
    let e : x.place + used + used' ≡ x.place + (used + used') = omega arith in
    let e' : x.offset + used + used' ≡ x.offset + (used + used') = omega arith in
    rw (e, e')

moved_none : (x : rules.Position) → x ≡ moved 0 x
unfolding moved
moved_none x =
    let e : x.place + 0 ≡ x.place = omega arith in
    let e' : x.offset + 0 ≡ x.offset = omega arith in
    rw (e, e')

module _ (part list₀ output₀ w₀ : List ℕ) (x₀ : Position) where
  -- the whole step
  abbrev goal : Turn
  goal = step (plan_of w₀) part list₀ (length output₀) (position_of x₀)

  -- the turns that are left from a position on
  abbrev from : ℕ → ℕ → State → List ℕ → rules.Position → Turn
  from more room s list y =
      turns more room s (record { stream = part; place = y.place; list = list }) y.offset y.is_last

  -- some turns are behind, and the step is what they and those that are left come to
  pub record StepLoop (w : List ℕ) (x : Position) (list output : List ℕ) (written : ℕ) : Type 0 where
    pub used : ℕ
    pub text : List ℕ
    pub more : ℕ
    pub same : goal ≡ behind used text (from more (length output₀ - length text) (plan_of w) list (position_of x))
    pub enough : length part < x.place + more
    pub within : x.place ≤ length part
    pub position : position_of x ≡ moved used (position_of x₀)
    pub counted : x.offset + (length part - x.place) ≤ rules.max_offset
    pub printed : output ≡ text ++ drop (length text) output₀
    pub told : written ≡ length text
    pub room : length text ≤ length output₀
    pub valid : ValidPlan w

  -- before the first turn
  pub begun : ValidPlan w₀
      → x₀.place ≤ length part
      → x₀.offset + (length part - x₀.place) ≤ rules.max_offset
      → StepLoop w₀ x₀ list₀ output₀ 0
  unfolding step
  begun valid within counted =
      let all : length output₀ - 0 ≡ length output₀ = omega arith in
      record {
        used = 0;
        text = [];
        more = suc (length part);
        same = rw all (sym (behind-none _));
        enough = omega arith;
        within = within;
        position = moved_none (position_of x₀);
        counted = counted;
        printed = refl;
        told = refl;
        room = omega arith;
        valid = valid;
      }

  module _ {w : List ℕ} {x : Position} {list output : List ℕ} {written : ℕ} (h : StepLoop w x list output written) where
    -- the buffer keeps its length
    pub size : length output ≡ length output₀
    size = full h.text output₀ h.printed h.room

    -- the turns that are left come to t
    closing : {t : Turn} {r : Stepped} {w' list' output' : List ℕ}
        → from h.more (length output₀ - length h.text) (plan_of w) list (position_of x) ≡ t
        → verdict_of r.verdict ≡ t.verdict
        → plan_of w' ≡ t.state
        → list' ≡ t.list
        → position_of r.position ≡ moved t.used (position_of x)
        → output' ≡ (h.text ++ t.text) ++ drop (length (h.text ++ t.text)) output₀
        → r.written ≡ length (h.text ++ t.text)
        → ValidPlan w'
        → Step x₀ goal output₀ r w' list' output'
    unfolding behind
    closing {t} {r} {w'} {list'} {output'} e verdict state starts position printed written valid =
        subst (λ (g : Turn). Step x₀ g output₀ r w' list' output') (sym (h.same ∙ ap (behind h.used h.text) e))
        (record {
          verdict = verdict;
          state = state;
          starts = starts;
          position =
              position ∙ ap (moved t.used) h.position ∙ moved-moved h.used t.used (position_of x₀);
          printed = printed;
          written = written;
          valid = valid;
        })

    -- there is no room for another line
    pub filled-up : length output - written < longest_line
        → Step x₀ goal output₀ (record { position = x; written = written; verdict = GoesOn }) w list output
    unfolding idle
    filled-up few =
        let full : length output₀ - length h.text < longest_line = omega (arith, size, h.told) in
        let none = append-nil h.text in
        closing (no_room (plan_of w) _ _ _ h.more _ full) refl refl refl (moved_none (position_of x)) (rw none h.printed)
        (rw none h.told) h.valid

    abbrev asked : Asking
    asked = record { stream = part; place = x.place; list = list }

    abbrev next : Turn
    next = turn (plan_of w) asked x.offset x.is_last

    module _ (left : longest_line ≤ length output - written) {r : Turned} {w' list' piece : List ℕ}
        (taken : Taken w next (take (length output - written) (drop written output)) r w' list' piece) where
      pub used-here : x.place + r.used ≤ length part
      used-here = used-within w asked x.offset x.is_last taken h.within

      -- there is a turn left
      one_more : (m : ℕ) × (h.more ≡ suc m)
      one_more = go h.more (omega (arith, h.enough, h.within))
        where
          go : (n : ℕ) → 0 < n → (m : ℕ) × (n ≡ suc m)
          go zero e = absurd (omega arith)
          go (suc m) e = (m, refl)

      room-here : longest_line ≤ length output₀ - length h.text
      room-here = omega (arith, size, h.told)

      -- what the buffer holds after it, and how much
      abbrev output' : List ℕ
      output' = take written output ++ (piece ++ drop (length output - written) (drop written output))

      put : (output' ≡ (h.text ++ next.text) ++ drop (length (h.text ++ next.text)) output₀) × (r.written ≡ length next.text)
      put =
          joined h.text next.text output₀ output piece written (length output - written) r.written h.printed h.told
          (omega (arith, room-here, taken.short, h.room))
          (subst (λ (l : List ℕ). Written next.text l piece r.written)
          (take_all (length output - written) (drop written output) (omega (arith, length-drop written output))) taken.printed)
          (omega (arith, length-drop written output))

      count : written + r.written ≡ length (h.text ++ next.text)
      count = omega (arith, put.1, h.told, length-append h.text next.text)

      room_after : length (h.text ++ next.text) ≤ length output₀
      room_after = omega (arith, length-append h.text next.text, room-here, taken.short, h.room)

      -- sums that 64 bits hold
      pub counts : length part < 2 ^ 64
          → (x.place + r.used < 2 ^ 64) × (x.offset + r.used < 2 ^ 64)
      counts small = (omega (arith, used-here), omega (arith, used-here, h.counted))

      module _ {x' : Position} (position : position_of x' ≡ moved r.used (position_of x)) where
        -- it was the last
        pub ended : (r.verdict ≡ GoesOn → ⊥)
            → Step x₀ goal output₀
            (record { position = x'; written = written + r.written; verdict = r.verdict }) w' list' output'
        ended stays =
            let m = one_more in
            let e =
            ap (λ (k : ℕ). from k (length output₀ - length h.text) (plan_of w) list (position_of x)) m.1
            ∙ last_turn (plan_of w) asked x.offset x.is_last m.0 _ room-here
            (λ q. stays (goes-on r.verdict (taken.verdict ∙ q))) in
            closing e taken.verdict taken.state taken.starts
            (position ∙ ap (λ (k : ℕ). moved k (position_of x)) taken.used) put.0 count taken.valid

        place' : x'.place ≡ x.place + r.used
        unfolding moved
        place' = ap (λ (y : rules.Position). y.place) position

        offset' : x'.offset ≡ x.offset + r.used
        unfolding moved
        offset' = ap (λ (y : rules.Position). y.offset) position

        -- the turns that are left, in the rules and in code
        left_over : (m : ℕ)
            → turns m (length output₀ - length h.text - length next.text) next.state
            (record { stream = part; place = x.place + next.used; list = next.list }) (x.offset + next.used) x.is_last
            ≡ from m (length output₀ - length (h.text ++ next.text)) (plan_of w') list' (position_of x')
        unfolding moved
        left_over m =
            let there : rules.Position = moved next.used (position_of x) in
            let smaller : length output₀ - length h.text - length next.text ≡ length output₀ - length (h.text ++ next.text) =
            omega (arith, length-append h.text next.text) in
            let at : there ≡ position_of x' = sym (position ∙ ap (λ (k : ℕ). moved k (position_of x)) taken.used) in
            ap (λ (n : ℕ). from m n next.state next.list there) smaller
            ∙ ap (λ (s : State). from m (length output₀ - length (h.text ++ next.text)) s next.list there) (sym taken.state)
            ∙ ap (λ (l : List ℕ). from m (length output₀ - length (h.text ++ next.text)) (plan_of w') l there)
            (sym taken.starts)
            ∙ ap (from m (length output₀ - length (h.text ++ next.text)) (plan_of w') list') at

        -- a byte is used
        pub some : r.verdict ≡ GoesOn → x.place < x'.place
        some goes =
            omega (
              arith,
              place',
              taken.used,
              (going (plan_of w) list part x.place x.offset x.is_last (sym taken.verdict ∙ ap verdict_of goes)).1,
            )

        -- the turns go on
        pub onward : r.verdict ≡ GoesOn → StepLoop w' x' list' output' (written + r.written)
        onward goes =
            let m = one_more in
            record {
              used = h.used + next.used;
              text = h.text ++ next.text;
              more = m.0;
              same =
                  h.same
                  ∙ ap (behind h.used h.text)
                  (ap (λ (k : ℕ). from k (length output₀ - length h.text) (plan_of w) list (position_of x)) m.1
                  ∙ next-turn (plan_of w) asked x.offset x.is_last m.0 _ room-here (sym taken.verdict ∙ ap verdict_of goes)
                  ∙ ap (behind next.used next.text) (left_over m.0))
                  ∙ behind-behind h.used next.used h.text next.text _;
              enough = omega (arith, h.enough, m.1, some goes);
              within = omega (arith, place', used-here);
              position =
                  position
                  ∙ ap (λ (k : ℕ). moved k (position_of x)) taken.used
                  ∙ ap (moved next.used) h.position
                  ∙ moved-moved h.used next.used (position_of x₀);
              counted = omega (arith, h.counted, place', offset', used-here);
              printed = put.0;
              told = count;
              room = room_after;
              valid = taken.valid;
            }
