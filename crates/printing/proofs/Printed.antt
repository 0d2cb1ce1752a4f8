-- What is printed for an accepted command, case by case.
use Rattle.std.proofs.Common.{◌≡◌, ℕ, ◌≤◌, List, [], length, take, ap, subst, ◌∙◌, arith}
use Rattle.std.proofs.lemmas.List.{length-take, take_min}
use Prim.Native.Nat.{min}
use Rattle.rules.specs.Answer as rules
use Rattle.texts.specs.Text.{begin_line, done_line, places_line, line}
use Rattle.rules.specs.Question.{booked, in_use, fullness}
use Rattle.codec.specs.Meaning.{command_of}
use Rattle.codec.specs.declared.Command.TheVariants.{Begin, Done, Places}
use Rattle.put.proofs.Pieces.{nothing, whole}
use Rattle.lines.specs.declared.tail.Figures.{Figures}
use Rattle.lines.specs.Line.{told, Line}

-- no text leaves the buffer as it was
pub no_text : (count : ℕ) (buffer : List ℕ) → Line [] count buffer buffer 0
no_text count buffer = record { written = whole (nothing 0 buffer); short = λ _. omega arith }

-- a line that tells no tasks is no longer for their number
pub no-tasks : {text buffer buffer' : List ℕ} {count n : ℕ} → Line text 0 buffer buffer' n → Line text count buffer buffer' n
no-tasks l = record { written = l.written; short = λ _. l.short (omega arith) }

-- the figures that the questions answer
abbrev pub figures_of : rules.Answered → Figures
figures_of a = record { booked = booked a.state; used = in_use a.state; full = fullness a.state }

module _ (a : rules.Answered) {figures : Figures} (same : figures ≡ figures_of a) {count : ℕ} (cut : count ≡ min a.answer.starts (length a.list)) where
  -- the tasks started are as many as the list has, and no more than the answer tells
  started : take count a.list ≡ take a.answer.starts a.list
  started = ap (λ (n : ℕ). take n a.list) cut ∙ take_min a.answer.starts a.list

  -- a text with the figures and the tasks that the rules have
  in-rules : (text : ℕ → ℕ → ℕ → List ℕ → List ℕ) {buffer buffer' : List ℕ} {n : ℕ}
      → Line (told text figures (take count a.list)) (length (take count a.list)) buffer buffer' n
      → Line (told text (figures_of a) (take a.answer.starts a.list)) a.answer.starts buffer buffer' n
  in-rules text {buffer} {buffer'} {n} l =
      let few : length (take count a.list) ≤ a.answer.starts = omega (arith, length-take count a.list, cut) in
      let lines : Line (told text figures (take count a.list)) a.answer.starts buffer buffer' n =
      record { written = l.written; short = λ h. l.short (omega arith) } in
      subst (λ (f : Figures). Line (told text f (take a.answer.starts a.list)) a.answer.starts buffer buffer' n) same
      (subst (λ (s : List ℕ). Line (told text figures s) a.answer.starts buffer buffer' n) started lines)

  -- the lines of BEGIN, DONE and 08
  pub of-begin : {buffer buffer' : List ℕ} {n : ℕ}
      → Line (told (begin_line a.answer.peaks.chilled) figures (take count a.list)) (length (take count a.list)) buffer buffer' n
      → Line (line (command_of Begin) a) a.answer.starts buffer buffer' n
  unfolding line
  of-begin l = in-rules (begin_line a.answer.peaks.chilled) l

  pub of-done : (j : ℕ) {buffer buffer' : List ℕ} {n : ℕ}
      → Line (told (done_line j a.answer.offers) figures (take count a.list)) (length (take count a.list)) buffer buffer' n
      → Line (line (command_of (Done j)) a) a.answer.starts buffer buffer' n
  unfolding line
  of-done j l = in-rules (done_line j a.answer.offers) l

  pub of-places : (bound : ℕ) {buffer buffer' : List ℕ} {n : ℕ}
      → Line (told (places_line bound) figures (take count a.list)) (length (take count a.list)) buffer buffer' n
      → Line (line (command_of (Places bound)) a) a.answer.starts buffer buffer' n
  unfolding line
  of-places bound l = in-rules (places_line bound) l
