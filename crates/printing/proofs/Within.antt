-- A turn uses no byte that has not come, and waits only where fewer than 8 bytes are left.
use mathlib.Core.Path.{◌≡◌, refl}
use mathlib.Core.Bool.{Bool, true, false, cond, false≢true}
use mathlib.Core.List.{List}
use Prim.Native.Nat.{ℕ, ◌+◌, ◌≤◌, ◌<◌}
use native.Mathlib.Omega.{arith}
use lib.Dec.{eqb, leb, ltb}
use lib.ListN.{length}
use Rattle.numbers.specs.Lists.{at}
use Rattle.numbers.specs.Limits.{least_starts}
use Rattle.rules.specs.State.{State}
use Rattle.format.specs.Command.{Command, Form, forms, room, Decoded, refused, read, decode}
use Rattle.rules.specs.Grounds.{ground_for}
use Rattle.rules.specs.Obey.{obey}
use Rattle.rules.specs.Answer.{Asking, refuse, accept, judge, respond, command}
use Rattle.texts.specs.Printer.{continues, waits, stops, idle, answered, is_awaited, turn}
use Rattle.format.proofs.Bytes.{Reading, nothing_left, no_line, cut_short, in-full, reading, read-by, All, found}
use Rattle.answer.specs.Meaning.{plan_of}
use Rattle.printing.specs.declared.Turned.{Turned}
use Rattle.printing.specs.Taken.{Taken}

module _ (s : State) (list : List ℕ) (place n : ℕ) (within : place ≤ n) where
  -- a command uses its own bytes, or none where it is refused
  judged : (c : Command) (used : ℕ) → place + used ≤ n → place + (judge s c used list).answer.used ≤ n
  unfolding judge accept refuse
  judged c used room = go (eqb (ground_for s c) 0)
    where
      go : (t : Bool) → place + (cond t (accept (obey s c) used list) (refuse (ground_for s c) s list)).answer.used ≤ n
      go true = room
      go false = omega arith

  responded : (d : Decoded)
      → ((c : Command) (used : ℕ) → d ≡ read c used → place + used ≤ n)
      → place + (respond s d list).answer.used ≤ n
  unfolding respond refuse
  responded d room = go (ltb (length list) least_starts) d room
    where
      go : (t : Bool) (d : Decoded)
          → ((c : Command) (used : ℕ) → d ≡ read c used → place + used ≤ n)
          → place
          + (cond t (refuse 10 s list) (elim d [ refused k ↦ refuse k s list | read c used ↦ judge s c used list ])).answer.used
          ≤ n
      go true d room = omega arith
      go false (refused k) room = omega arith
      go false (read c used) room = judged c used (room c used refl)

pub turned : (s : State) (a : Asking) (offset : ℕ) (is_last : Bool)
    → a.place ≤ length a.stream
    → a.place + (turn s a offset is_last).used ≤ length a.stream
unfolding turn idle answered command
turned s a offset is_last within = go (is_awaited is_last (decode a.stream a.place)) (leb (length a.stream) a.place)
  where
    go : (t t' : Bool)
        → a.place
        + (cond t (idle waits s a.list)
        (cond t' (idle stops s a.list) (answered (decode a.stream a.place) offset (command s a)))).used
        ≤ length a.stream
    go true t' = omega arith
    go false true = omega arith
    go false false =
        responded s a.list a.place (length a.stream) within (decode a.stream a.place)
        (λ c used e. (read-by a.stream a.place c used e).within)

-- so the place behind a turn is within the part
pub used-within : (w : List ℕ) (a : Asking) (offset : ℕ) (is_last : Bool) {buffer w' list buffer' : List ℕ} {r : Turned}
    → Taken w (turn (plan_of w) a offset is_last) buffer r w' list buffer'
    → a.place ≤ length a.stream
    → a.place + r.used ≤ length a.stream
used-within w a offset is_last taken within = rw taken.used (turned (plan_of w) a offset is_last within)

-- the operands of every line take at most 7 bytes
abbrev Short : Form → Type 0
Short f = room f.widths ≤ 7

all_short : All Short forms
unfolding forms room
all_short =
    (omega arith, (omega arith, (omega arith, (omega arith, (omega arith, (omega arith, (omega arith, (omega arith, tt))))))))

-- so a command that is awaited has at most 7 bytes
decode-few :
    (stream : List ℕ) (place : ℕ) → is_awaited false (decode stream place) ≡ true → length stream < place + 8
unfolding is_awaited
decode-few stream place e = go (reading stream place) e
  where
    go : {d : Decoded} → Reading stream place d → is_awaited false d ≡ true → length stream < place + 8
    go (nothing_left out) e = omega arith
    go (no_line there) e = absurd (false≢true e)
    go (cut_short f there less) e = let short = (found Short forms (at stream place) f all_short there).1 in omega arith
    go (in-full f there all) e = absurd (false≢true e)

awaited : (is_last : Bool) (d : Decoded) → is_awaited is_last d ≡ true → is_awaited false d ≡ true
unfolding is_awaited
awaited true d e = absurd (false≢true e)
awaited false d e = e

-- an answer does not wait
stopped : stops ≡ waits → ⊥
stopped e = omega arith

answers : (t : Bool) → cond t continues stops ≡ waits → ⊥
answers true e = omega arith
answers false e = stopped e

module _ (s : State) (a : Asking) (offset : ℕ) (is_last : Bool) (e : (turn s a offset is_last).verdict ≡ waits) where
  -- a turn waits where the command is awaited
  awaits : is_awaited is_last (decode a.stream a.place) ≡ true
  unfolding turn idle answered
  awaits = go (is_awaited is_last (decode a.stream a.place)) (leb (length a.stream) a.place) e
    where
      go : (t t' : Bool)
          → (cond t (idle waits s a.list)
          (cond t' (idle stops s a.list) (answered (decode a.stream a.place) offset (command s a)))).verdict
          ≡ waits
          → t ≡ true
      go true t' e = refl
      go false true e = absurd (stopped e)
      go false false e = absurd (answers (eqb (command s a).answer.number 0) e)

  -- so there is room for more wherever it waits
  pub few-left : length a.stream < a.place + 8
  few-left = decode-few a.stream a.place (awaited is_last (decode a.stream a.place) awaits)

  -- and the input has not ended
  pub not-ended : is_last ≡ false
  unfolding is_awaited
  not-ended = go is_last awaits
    where
      go : (t : Bool) → is_awaited t (decode a.stream a.place) ≡ true → t ≡ false
      go true e = absurd (false≢true e)
      go false e = refl
