-- What has been printed from step to step of the day printer, where the bytes of its reader are known.
use Rattle.std.proofs.Common.{◌≡◌, ℕ, ◌+◌, ◌≤◌, ◌<◌, true, false, List, [], ◌++◌, length, take, drop, refl, sym, ap, subst, ◌∙◌, arith, length-append, length-drop, append-nil, append_assoc, true≢false}
use Rattle.std.proofs.Math.Seq.{take-add, length-take-le}
use Rattle.std.proofs.lemmas.List.{take-append-drop, drop-take, take_at}
use Rattle.std.specs.Prelude.{Option, Some, None, Result, Ok, Err, IfSome, OnErr}
use Rattle.std.specs.Io.KnownBytes.{Appends, ReadConsumes}
use mathlib.Core.Logic.{⊎_elim}
use borrow.Author.Tests.{leb-false, eqb-true, eqb-false}
use lib.Dec.{eqb}
use Rattle.numbers.proofs.Tests.{decide}
use Rattle.rules.specs.State.{none}
use Rattle.texts.specs.Printer as printer
use Rattle.texts.specs.Printer.{stops, moved, fronted, fed, is_counted, max_offset, step, print, Part, Steps, steps_on, last_step}
use Rattle.texts.proofs.Stepped.{steps-print}
use Rattle.answer.specs.Meaning.{plan_of}
use Rattle.position.specs.declared.Position.{Position}
use Rattle.position.specs.Standing.{position_of}
use Rattle.stepping.specs.declared.Stepped.{Stepped}
use Rattle.stepping.specs.Stepped.{Step}
use Rattle.printing.specs.declared.Verdict.TheVariants.{Stops}
use Rattle.printing.specs.Verdict.{verdict_of}
use Rattle.pump.specs.Filled.{left_of, gained, Filled}
use Rattle.pump.specs.Written.{WritesFront}
use Rattle.pump.proofs.Growing.{unwritten, grows, front-of-all, whole-front}
use Rattle.pump.proofs.Holding.{PumpLoop, within}
use Rattle.pump.proofs.Remaining.{rest, step-reached}

-- a fact about known bytes
pub if_some : {A : Type 0} (known : Option A) {P : A → Type 0} → ((x : A) → known ≡ Some x → P x) → IfSome known P
if_some None h = tt
if_some (Some x) h = h x refl

-- a fact that holds holds after an error
pub on_err : {T E : Type 0} (r : Result T E) {P : Type 0} → P → OnErr r P
on_err (Ok x) h = tt
on_err (Err e) h = h

-- what a read gave of known bytes: all of them are read where none came and there was room
pub record Came (n : ℕ) (given after : List ℕ) (has : Option (List ℕ)) : Type 0 where
  pub later : List ℕ
  pub known : has ≡ Some later
  pub cut : after ≡ take n given ++ later
  pub ended : n ≡ 0 → 0 < length given → later ≡ []

module _ (E : Type 0) (given after : List ℕ) where
  came-of-known : (has : Option (List ℕ)) (n : ℕ) → ReadConsumes {E = E} (Some after) has (Ok n) given → Came n given after has
  came-of-known (Some later) n h = record { later = later; known = refl; cut = h.0; ended = h.1 }
  came-of-known None n h = absurd h.0

  pub read-came : (had has : Option (List ℕ)) (n : ℕ) → had ≡ Some after → ReadConsumes {E = E} had has (Ok n) given → Came n given after has
  read-came had has n e h = came-of-known has n (subst (λ (o : Option (List ℕ)). ReadConsumes {E = E} o has (Ok n) given) e h)

-- the same bytes, grouped by what is dropped and what is at hand once more has come
regroup : (ahead used kept more later : List ℕ) → ahead ++ (used ++ kept ++ (more ++ later)) ≡ ahead ++ used ++ (kept ++ more ++ later)
regroup ahead used kept more later = simp append_assoc

-- the bytes of the stream that were dropped, those at hand and those that are left, and what was printed of it: with what steps from here
-- on print, it is what steps over the whole stream print
pub record SoFar (stream bytes w : List ℕ) (x : Position) (has held holds : Option (List ℕ)) : Type 0 where
  pub ahead : List ℕ
  pub after : List ℕ
  pub text : List ℕ
  pub left : has ≡ Some after
  pub cut : stream ≡ ahead ++ (take x.filled bytes ++ after)
  pub offset : x.offset ≡ length ahead + x.place
  pub last : x.is_last ≡ true → after ≡ []
  pub written : Appends held holds text
  pub all : (rest : List ℕ) → Steps stream (plan_of w) x.offset rest → Steps stream none 0 (text ++ rest)

-- before the first step
pub nothing-yet : {bytes w : List ℕ} {x : Position} {had : Option (List ℕ)} (held : Option (List ℕ)) (stream : List ℕ)
    → had ≡ Some stream
    → plan_of w ≡ none
    → position_of x ≡ printer.start
    → SoFar stream bytes w x had held held
nothing-yet {bytes} {w} {x} held stream known empty e =
    let place = ap (λ (y : printer.Position). y.place) e in
    let filled = ap (λ (y : printer.Position). y.filled) e in
    let offset = ap (λ (y : printer.Position). y.offset) e in
    let more = ap (λ (y : printer.Position). y.is_last) e in
    record {
      ahead = [];
      after = stream;
      text = [];
      left = known;
      cut = ap (λ (n : ℕ). take n bytes ++ stream) (sym filled);
      offset = omega (arith, place, offset);
      last = λ q. absurd (true≢false (sym q ∙ more));
      written = unwritten held;
      all = λ rest h. subst (λ (n : ℕ). Steps stream none n rest) offset (subst (λ s. Steps stream s x.offset rest) empty h);
    }

module _ {bytes lines starts w : List ℕ} {x : Position} (loop : PumpLoop bytes lines starts w x) {stream : List ℕ} {has held holds : Option (List ℕ)} (so_far : SoFar stream bytes w x has held holds) where
  -- the bytes at hand, in the stream
  at_hand : Part stream x.offset
  at_hand =
      record {
        before = so_far.ahead;
        part = take x.filled bytes;
        after = so_far.after;
        cut = so_far.cut;
        start = x.place;
        stands = so_far.offset;
        is_last = x.is_last;
        last = so_far.last;
        list = starts;
        room = omega (arith, loop.starts-size);
      }

  abbrev taken : printer.Turn
  taken = step (plan_of w) (take x.filled bytes) starts (length lines) (position_of x)

  -- the step ends within the stream
  step-within : x.offset + taken.used ≤ length stream
  step-within =
      omega (
        arith,
        so_far.offset,
        within loop,
        ap length so_far.cut,
        length-append so_far.ahead (take x.filled bytes ++ so_far.after),
        length-append (take x.filled bytes) so_far.after,
      )

  -- what is to be printed: what was, what the step prints, and more
  record Later : Type 0 where
    text : List ℕ
    printed : print stream ≡ so_far.text ++ (taken.text ++ text)

  later : Later
  unfolding step at_hand
  later =
      ⊎_elim
      (λ e.
      record {
        text = [];
        printed =
            sym (steps-print (so_far.all taken.text (last_step at_hand (length lines) (eqb-true taken.verdict stops e))))
            ∙ ap (λ (l : List ℕ). so_far.text ++ l) (sym (append-nil taken.text));
      })
      (λ e.
      let after = rest stream taken.state (x.offset + taken.used) (step-reached (plan_of w) (take x.filled bytes) starts (length lines) (position_of x) loop.valid.reached) step-within in
      record {
        text = after.text;
        printed =
            sym (steps-print (so_far.all (taken.text ++ after.text)
            (steps_on at_hand (length lines) (eqb-false taken.verdict stops e) after.steps)));
      })
      (decide (eqb taken.verdict stops))

  module _ {r : Stepped} {w' starts' lines' : List ℕ} (stepped : Step x taken lines r w' starts' lines') where
    step-text : take r.written lines' ≡ taken.text
    step-text = ap (take r.written) stepped.printed ∙ take_at taken.text _ r.written (sym stepped.written)

    -- where only the front of its lines is written, that is the front of all that is to be printed
    pub front-of-step : (holds' : Option (List ℕ)) → WritesFront (take r.written lines') holds holds' → WritesFront (print stream) held holds'
    front-of-step holds' (n, few, put) =
        front-of-all held holds' (print stream) so_far.text taken.text later.text n later.printed (omega (arith, few, ap length step-text))
        (grows held holds holds' so_far.text (take n taken.text) so_far.written
        (subst (Appends holds holds') (ap (take n) step-text) put))

  module _ {r : Stepped} {w' starts' lines' : List ℕ} (stepped : Step x taken lines r w' starts' lines') (holds' : Option (List ℕ)) (put : Appends holds holds' (take r.written lines')) where
    -- what is written is the text of the step
    put-text : Appends holds holds' taken.text
    put-text = subst (Appends holds holds') (step-text stepped) put

    -- all its lines are the front of what is to be printed
    pub lines-out : WritesFront (print stream) held holds'
    lines-out = front-of-step stepped holds' (whole-front holds holds' (take r.written lines') put)

    -- a step that stops ends what is printed
    pub ends : r.verdict ≡ Stops → Appends held holds' (print stream)
    unfolding step at_hand
    ends e =
        subst (Appends held holds')
        (steps-print (so_far.all taken.text (last_step at_hand (length lines) (sym stepped.verdict ∙ ap verdict_of e))))
        (grows held holds holds' so_far.text taken.text so_far.written put-text)

    -- another goes on with it
    pub advance : (verdict_of r.verdict ≡ stops → ⊥) → SoFar stream bytes w' r.position has held holds'
    unfolding step moved at_hand
    advance not_stopped =
        let place' = ap (λ (y : printer.Position). y.place) stepped.position in
        let filled' = ap (λ (y : printer.Position). y.filled) stepped.position in
        let offset' = ap (λ (y : printer.Position). y.offset) stepped.position in
        let last' = ap (λ (y : printer.Position). y.is_last) stepped.position in
        record {
          ahead = so_far.ahead;
          after = so_far.after;
          text = so_far.text ++ taken.text;
          left = so_far.left;
          cut = so_far.cut ∙ ap (λ (n : ℕ). so_far.ahead ++ (take n bytes ++ so_far.after)) (sym filled');
          offset = omega (arith, place', offset', so_far.offset);
          last = λ e. so_far.last (sym last' ∙ e);
          written = grows held holds holds' so_far.text taken.text so_far.written put-text;
          all = λ rest h.
              subst (λ (l : List ℕ). Steps stream none 0 l) (sym (append_assoc so_far.text taken.text rest))
              (so_far.all (taken.text ++ rest)
              (steps_on at_hand (length lines) (λ e. not_stopped (stepped.verdict ∙ e))
              (subst (λ (n : ℕ). Steps stream taken.state n rest) offset'
              (subst (λ s. Steps stream s r.position.offset rest) stepped.state h))));
        }

module _ {bytes w : List ℕ} {x : Position} {stream : List ℕ} {has held holds : Option (List ℕ)} (so_far : SoFar stream bytes w x has held holds) (at-hand : x.place ≤ x.filled) (in-buffer : x.filled ≤ length bytes) where
  abbrev part : List ℕ
  part = take x.filled bytes

  part-size : length part ≡ x.filled
  part-size = length-take-le x.filled bytes in-buffer

  -- the bytes at hand have been used or are left
  used-or-left : part ≡ take x.place part ++ take (left_of x) (drop x.place bytes)
  used-or-left =
      let e : x.place + left_of x ≡ x.filled = omega arith in
      sym (take-append-drop x.place part)
      ∙ ap (λ (l : List ℕ). take x.place part ++ l) (ap (λ (n : ℕ). drop x.place (take n bytes)) (sym e) ∙ drop-take x.place (left_of x) bytes)

  -- the offset is that of a byte of the stream, or of its end
  within-stream : x.offset ≤ length stream
  within-stream =
      omega (
        arith,
        so_far.offset,
        part-size,
        ap length so_far.cut,
        length-append so_far.ahead (part ++ so_far.after),
        length-append part so_far.after,
      )

  -- where more could not be counted, the stream is too long
  pub too-long : is_counted (length bytes) (position_of x) ≡ false → max_offset < length stream + length bytes
  unfolding is_counted
  too-long e = omega (arith, within-stream, leb-false (x.offset + length bytes) max_offset e)

  -- what a read gives goes on with it
  pub read-on : {bytes' : List ℕ} {has' : Option (List ℕ)} {E : Type 0} {y : Position}
      → left_of x < length bytes
      → Filled {E = E} bytes x has bytes' has' (Ok y)
      → SoFar stream bytes' w y has' held holds
  unfolding fed fronted
  read-on {bytes'} {has'} {E} {y} room filled =
      let n = gained x y in
      let given = drop (left_of x) bytes' in
      let read = read-came E given so_far.after has has' n so_far.left filled.behind in
      let place' = ap (λ (y : printer.Position). y.place) filled.position in
      let filled' = ap (λ (y : printer.Position). y.filled) filled.position in
      let offset' = ap (λ (y : printer.Position). y.offset) filled.position in
      let last' = ap (λ (y : printer.Position). y.is_last) filled.position in
      let used = take x.place part in
      let kept = take (left_of x) bytes' in
      record {
        ahead = so_far.ahead ++ used;
        after = read.later;
        text = so_far.text;
        left = read.known;
        cut =
            so_far.cut
            ∙ ap (λ (l : List ℕ). so_far.ahead ++ (l ++ so_far.after)) (used-or-left ∙ ap (λ (l : List ℕ). used ++ l) (sym filled.front))
            ∙ ap (λ (l : List ℕ). so_far.ahead ++ (used ++ kept ++ l)) read.cut
            ∙ regroup so_far.ahead used kept (take n given) read.later
            ∙ ap (λ (l : List ℕ). so_far.ahead ++ used ++ (l ++ read.later)) (sym (take-add (left_of x) n bytes'))
            ∙ ap (λ (k : ℕ). so_far.ahead ++ used ++ (take k bytes' ++ read.later)) (sym filled');
        offset = omega (arith, place', offset', so_far.offset, length-append so_far.ahead used, length-take-le x.place part (omega (arith, part-size)));
        last = λ e. read.ended (eqb-true n 0 (sym last' ∙ e)) (omega (arith, filled.size, length-drop (left_of x) bytes'));
        written = so_far.written;
        all = λ rest h. so_far.all rest (subst (λ (k : ℕ). Steps stream (plan_of w) k rest) offset' h);
      }
