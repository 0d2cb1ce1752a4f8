-- What a turn of the code leaves is what the turn of the rules leaves, way by way.
use mathlib.Core.Path.{◌≡◌, refl, ap}
use mathlib.Core.Bool.{Bool, true, false, cond}
use mathlib.Core.List.{List}
use Prim.Native.Nat.{ℕ, ◌≤◌, ◌<◌}
use native.Mathlib.Omega.{arith}
use lib.Dec.{ltb}
use lib.ListN.{length}
use Rattle.std.specs.Prelude.{Result, Ok, Err}
use Rattle.std.specs.Result.{IsOk}
use borrow.Author.Tests.{le-leb, lt-leb, eq-eqb, ne_eqb}
use Rattle.numbers.specs.Limits.{max_processors, least_starts}
use Rattle.refusal.specs.declared.Refusal.{Refusal}
use Rattle.refusal.specs.Number.{number_of}
use Rattle.refusal.proofs.Number.{some_number}
use Rattle.format.specs.Command.{Decoded, decode}
use Rattle.rules.specs.Answer as rules
use Rattle.texts.specs.Text.{line, accepted_line, refused_line}
use Rattle.texts.specs.Printer.{idle, said, answered, is_awaited, turn}
use Rattle.theorem.proofs.Askings.{asking_holds}
use Rattle.rules.proofs.Reaching.{lives}
use Rattle.codec.specs.declared.Read.{Read}
use Rattle.codec.specs.Meaning.{command_of, decoded}
use Rattle.words.specs.Contents.{contents}
use Rattle.answer.specs.declared.accepted.Accepted.{Accepted}
use Rattle.answer.specs.declared.Answer.{Answer}
use Rattle.answer.specs.Told.{told}
use Rattle.answer.specs.Meaning.{plan_of, answered_of}
use Rattle.answer.specs.ValidPlan.{ValidPlan, Commanded}
use Rattle.lines.specs.Line.{Line}
use Rattle.printing.specs.declared.Turned.{Turned}
use Rattle.printing.specs.declared.Verdict.{Verdict}
use Rattle.printing.specs.declared.Verdict.TheVariants.{GoesOn, Waits, Stops}
use Rattle.printing.specs.Verdict.{verdict_of}
use Rattle.printing.specs.Taken.{Taken}
use Rattle.printing.proofs.Printed.{no_text}

-- the buffer and the list stay, and so does the plan
idled : (w : List ℕ) (verdict : Verdict) (list buffer : List ℕ)
    → ValidPlan w
    → Taken w (idle (verdict_of verdict) (plan_of w) list) buffer (record { used = 0; written = 0; verdict = verdict }) w list buffer
unfolding idle
idled w verdict list buffer valid =
    record {
      verdict = refl;
      used = refl;
      state = refl;
      starts = refl;
      printed = (no_text 0 buffer).written;
      short = (no_text 0 buffer).short (omega arith);
      valid = valid;
      kept = λ _. refl;
    }

module _ {w : List ℕ} {a : rules.Asking} {r : Answer} {w' list' : List ℕ} (h : Commanded w a r w' list')
    (d : Decoded) (offset : ℕ) {buffer buffer' : List ℕ} {n : ℕ} where
  -- a refused command: its line is that of its number and offset
  after-refusal : (r.number ≡ 0 → ⊥)
      → Line (refused_line r.number offset) 0 buffer buffer' n
      → Taken w (answered d offset (answered_of r (contents w') list')) buffer
      (record { used = r.used; written = n; verdict = Stops }) w' list' buffer'
  unfolding answered said
  after-refusal refused line =
      let e = ne_eqb r.number 0 refused in
      record {
        verdict = rw e;
        used = refl;
        state = refl;
        starts = refl;
        printed = rw e line.written;
        short = rw e (line.short (omega arith));
        valid = h.valid;
        kept = λ _. h.refused refused;
      }

  -- an accepted one: its line is that of what was decoded
  after-acceptance : r.number ≡ 0
      → r.starts ≤ max_processors
      → Line (accepted_line d (answered_of r (contents w') list')) r.starts buffer buffer' n
      → Taken w (answered d offset (answered_of r (contents w') list')) buffer
      (record { used = r.used; written = n; verdict = GoesOn }) w' list' buffer'
  unfolding answered said
  after-acceptance accepted few line =
      let e = eq-eqb r.number 0 accepted in
      record {
        verdict = rw e;
        used = refl;
        state = refl;
        starts = refl;
        printed = rw e line.written;
        short = rw e (line.short few);
        valid = h.valid;
        kept = λ no. absurd (no refl);
      }

module _ (w : List ℕ) (a : rules.Asking) (offset : ℕ) (is_last : Bool) {d : Decoded} (told : d ≡ decode a.stream a.place) where
  -- the turn is to wait, to stop, or to ask the command
  pub waiting : (buffer : List ℕ) {awaited : Bool} {r : Turned}
      → ValidPlan w
      → awaited ≡ is_awaited is_last d
      → awaited ≡ true
      → r ≡ record { used = 0; written = 0; verdict = Waits }
      → Taken w (turn (plan_of w) a offset is_last) buffer r w a.list buffer
  unfolding turn
  waiting buffer valid e h same = rw (same, ← told, ← e, h) (idled w Waits a.list buffer valid)

  pub ending : (buffer : List ℕ) {awaited : Bool} {r : Turned}
      → ValidPlan w
      → awaited ≡ is_awaited is_last d
      → awaited ≡ false
      → length a.stream ≤ a.place
      → r ≡ record { used = 0; written = 0; verdict = Stops }
      → Taken w (turn (plan_of w) a offset is_last) buffer r w a.list buffer
  unfolding turn
  ending buffer valid e h out same =
      rw (same, ← told, ← e, h, le-leb (length a.stream) a.place out) (idled w Stops a.list buffer valid)

  module _ {awaited : Bool} {r : Answer} {w' list : List ℕ} (e : awaited ≡ is_awaited is_last d) (h : awaited ≡ false)
      (more : a.place < length a.stream) (commanded : Commanded w a r w' list) where
    asked : {buffer buffer' : List ℕ} {r' : Turned}
        → Taken w (answered d offset (answered_of r (contents w') list)) buffer r' w' list buffer'
        → Taken w (turn (plan_of w) a offset is_last) buffer r' w' list buffer'
    unfolding turn
    asked taken = rw (← told, ← e, h, lt-leb (length a.stream) a.place more, ← commanded.same) taken

    pub refusing : {buffer buffer' : List ℕ} {n : ℕ}
        → (r.number ≡ 0 → ⊥)
        → Line (refused_line r.number offset) 0 buffer buffer' n
        → Taken w (turn (plan_of w) a offset is_last) buffer
        (record { used = r.used; written = n; verdict = Stops }) w' list buffer'
    refusing refused line = asked (after-refusal commanded d offset refused line)

    -- no more tasks start than there can be processors
    few : ValidPlan w → r.starts ≤ max_processors
    few valid =
        rw (ap (λ (v : rules.Answered). v.answer.starts) commanded.same)
        (asking_holds (plan_of w) a (lives valid.reached).formed).fitting

    pub accepting : {buffer buffer' : List ℕ} {n : ℕ}
        → ValidPlan w
        → r.number ≡ 0
        → Line (accepted_line d (answered_of r (contents w') list)) r.starts buffer buffer' n
        → Taken w (turn (plan_of w) a offset is_last) buffer
        (record { used = r.used; written = n; verdict = GoesOn }) w' list buffer'
    accepting valid accepted line = asked (after-acceptance commanded d offset accepted (few valid) line)

-- the line of what was read
pub of-read : {asked : Result Read Refusal} {r : Read} (a : rules.Answered)
    → asked ≡ Ok r
    → accepted_line (decoded asked) a ≡ line (command_of r.command) a
unfolding accepted_line
of-read a e = rw e

-- what is accepted was read
pub accepted-read : {w : List ℕ} {a : rules.Asking} {t : Accepted} {w' list : List ℕ} (asked : Result Read Refusal)
    → decoded asked ≡ decode a.stream a.place
    → Commanded w a (told (Ok t)) w' list
    → IsOk asked
unfolding rules.command rules.respond rules.refuse
accepted-read (Ok r) e h = refl
accepted-read {w = w} {a = a} (Err refusal) e h =
    absurd (go (ltb (length a.list) least_starts) (rw (← e) at (ap (λ (v : rules.Answered). v.answer.number) h.same)))
  where
    go : (t : Bool)
        → 0 ≡ (cond t (rules.refuse 10 (plan_of w) a.list) (rules.refuse (number_of refusal) (plan_of w) a.list)).answer.number
        → ⊥
    go true e = omega arith
    go false e = let h = some_number refusal in omega arith
