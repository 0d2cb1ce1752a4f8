-- The day printer, turn by turn. "The program reads commands from standard input and prints one line per accepted BEGIN or DONE, and
-- on a refusal `refused K at O` (number, byte offset of the command counted from 0), then stops"; "FETCH prints `fetch booked=0`", and
-- 08 `places M=` with the new bound.
use Rattle.std.specs.Prelude.{◌≡◌, Bool, true, false, cond, List, [], ◌∷◌, ◌++◌, ℕ, zero, suc, ◌+◌, ◌-◌, ◌≤◌, eqb, leb, ltb, length, replicate}
use Rattle.numbers.specs.Limits.{least_starts}
use Rattle.rules.specs.State.{State, none}
use Rattle.format.specs.Command.{Decoded, refused, read, decode}
use Rattle.rules.specs.Answer.{Answered, Asking, command}
use Rattle.texts.specs.Text.{longest_line, accepted_line, refused_line}

-- what a turn decides: to go on with the next command, to wait for more input, or to stop
abbrev pub continues : ℕ
continues = 0

abbrev pub waits : ℕ
waits = 1

abbrev pub stops : ℕ
stops = 2

-- its verdict, the bytes used, what it prints, and the plan and the start list afterwards
pub record Turn : Type 0 where
  pub verdict : ℕ
  pub used : ℕ
  pub text : List ℕ
  pub state : State
  pub list : List ℕ

-- nothing is printed, and the plan and the start list remain what they were
unfoldable pub idle : ℕ → State → List ℕ → Turn
idle verdict s list = record { verdict = verdict; used = 0; text = []; state = s; list = list }

-- "one line per accepted BEGIN or DONE", FETCH and 08, "and on a refusal `refused K at O`"
unfoldable pub said : Decoded → ℕ → Answered → List ℕ
said d offset a = cond (eqb a.answer.number 0) (accepted_line d a) (refused_line a.answer.number offset)

-- "then stops"
unfoldable pub answered : Decoded → ℕ → Answered → Turn
answered d offset a =
    record {
      verdict = cond (eqb a.answer.number 0) continues stops;
      used = a.answer.used;
      text = said d offset a;
      state = a.state;
      list = a.list;
    }

-- "no byte is left, or operands are cut short": they may still come, unless the input has ended
unfoldable pub is_awaited : Bool → Decoded → Bool
is_awaited true d = false
is_awaited false (refused k) = eqb k 1
is_awaited false (read c used) = false

-- one turn over the part of the input that has come so far. The command at the place in it stands `offset` bytes from the start of the
-- input; `is_last` says that the input ends with this part. "It stops without a line where the input ends between commands."
unfoldable pub turn : State → Asking → ℕ → Bool → Turn
turn s a offset is_last =
    cond (is_awaited is_last (decode a.stream a.place)) (idle waits s a.list)
    (cond (leb (length a.stream) a.place) (idle stops s a.list)
    (answered (decode a.stream a.place) offset (command s a)))

-- what came of turns that used bytes and printed a text, and then of a last one
unfoldable pub behind : ℕ → List ℕ → Turn → Turn
behind used text t =
    record {
      verdict = t.verdict;
      used = used + t.used;
      text = text ++ t.text;
      state = t.state;
      list = t.list;
    }

-- turns over the part that has come, one after another, until one waits or stops, or there is no room left for the longest line
unfoldable pub turns : ℕ → ℕ → State → Asking → ℕ → Bool → Turn
turns zero room s a offset is_last = idle continues s a.list
turns (suc more) room s a offset is_last =
    elim (ltb room longest_line) [
      | true ↦ idle continues s a.list
      | false ↦
          let t = turn s a offset is_last in
          elim (eqb t.verdict continues) [
            | true ↦
                behind t.used t.text
                (turns more (room - length t.text) t.state
                (record { stream = a.stream; place = a.place + t.used; list = t.list })
                (offset + t.used) is_last)
            | false ↦ t
          ]
    ]

-- where the day printer stands in its input: `filled` bytes of it are at hand, the next command is at a place among them and `offset`
-- bytes from the start of the input; `is_last` says that the input ends with the bytes at hand
pub record Position : Type 0 where
  pub place : ℕ
  pub filled : ℕ
  pub offset : ℕ
  pub is_last : Bool

-- the largest offset: one of 64 bits
abbrev pub max_offset : ℕ
max_offset = 18446744073709551615

-- nothing has come yet
abbrev pub start : Position
start = record { place = 0; filled = 0; offset = 0; is_last = false }

-- bytes at hand were used
unfoldable pub moved : ℕ → Position → Position
moved used x =
    record {
      place = x.place + used;
      filled = x.filled;
      offset = x.offset + used;
      is_last = x.is_last;
    }

-- the bytes that are left went to the front
unfoldable pub fronted : Position → Position
fronted x = record { place = 0; filled = x.filled - x.place; offset = x.offset; is_last = x.is_last }

-- a read gave bytes behind them, none where the input has ended
unfoldable pub fed : ℕ → Position → Position
fed count x =
    record {
      place = x.place;
      filled = x.filled + count;
      offset = x.offset;
      is_last = eqb count 0;
    }

-- the offsets of a buffer's bytes from here on can be counted. An input that is longer is not read to its end
unfoldable pub is_counted : ℕ → Position → Bool
is_counted size x = leb (x.offset + size) max_offset

-- one step of the day printer: all turns over the bytes at hand for which a buffer has room. A turn that goes on uses a byte, so that
-- there are at most as many as bytes, and one more that waits or stops
unfoldable pub step : State → List ℕ → List ℕ → ℕ → Position → Turn
step s part list room x =
    turns (suc (length part)) room s (record { stream = part; place = x.place; list = list }) x.offset x.is_last

-- all that is printed from a place of the whole input on, turn after turn. A command uses a byte at least, so that as many turns as
-- the input has bytes are enough
unfoldable pub print_from : ℕ → State → List ℕ → ℕ → List ℕ
print_from zero s stream place = []
print_from (suc turns) s stream place =
    let t = turn s (record { stream = stream; place = place; list = replicate least_starts 0 }) place true in
    t.text
    ++ elim (eqb t.verdict continues) [
      | true ↦ print_from turns t.state stream (place + t.used)
      | false ↦ []
    ]

-- the day printer: standard input to standard output
unfoldable pub print : List ℕ → List ℕ
print stream = print_from (length stream) none stream 0

-- what is printed of askings, each where it stands in the input
unfoldable pub said_of : State → List Asking → List ℕ
said_of s [] = []
said_of s (a ∷ later) =
    said (decode a.stream a.place) a.place (command s a) ++ said_of (command s a).state later

-- the command at a place of the stream with a part of it around it: what came ahead of the part has been dropped, and what comes after it
-- has not come yet. The start list may be any of at least 64 entries
pub record Part (stream : List ℕ) (place : ℕ) : Type 0 where
  pub before : List ℕ
  pub part : List ℕ
  pub after : List ℕ
  pub cut : stream ≡ before ++ (part ++ after)
  pub start : ℕ
  pub stands : place ≡ length before + start
  pub is_last : Bool
  pub last : is_last ≡ true → after ≡ []
  pub list : List ℕ
  pub room : least_starts ≤ length list

abbrev pub over : {stream : List ℕ} {place : ℕ} → Part stream place → State → Turn
over {place = place} p s = turn s (record { stream = p.part; place = p.start; list = p.list }) place p.is_last

-- what turns over parts of the stream print, however it is cut: where one waits, another part is taken
pub data Prints (stream : List ℕ) : State → ℕ → List ℕ → Type 0 where
  goes_on : {s : State} {place : ℕ} {text : List ℕ} (p : Part stream place)
      → (over p s).verdict ≡ continues
      → Prints stream (over p s).state (place + (over p s).used) text
      → Prints stream s place ((over p s).text ++ text)
  waits_for : {s : State} {place : ℕ} {text : List ℕ} (p : Part stream place)
      → (over p s).verdict ≡ waits
      → Prints stream s place text
      → Prints stream s place text
  stops_at : {s : State} {place : ℕ} (p : Part stream place) → (over p s).verdict ≡ stops → Prints stream s place (over p s).text

-- a step over a part, with a buffer of so many bytes
abbrev pub step_over : {stream : List ℕ} {place : ℕ} → Part stream place → State → ℕ → Turn
step_over {place = place} p s room =
    step s p.part p.list room
    (record { place = p.start; filled = length p.part; offset = place; is_last = p.is_last })

-- what steps over parts of the stream print, however it is cut and whatever the buffer: until one stops, another is taken
pub data Steps (stream : List ℕ) : State → ℕ → List ℕ → Type 0 where
  steps_on : {s : State} {place : ℕ} {text : List ℕ} (p : Part stream place) (room : ℕ)
      → ((step_over p s room).verdict ≡ stops → ⊥)
      → Steps stream (step_over p s room).state (place + (step_over p s room).used) text
      → Steps stream s place ((step_over p s room).text ++ text)
  last_step : {s : State} {place : ℕ} (p : Part stream place) (room : ℕ)
      → (step_over p s room).verdict ≡ stops
      → Steps stream s place (step_over p s room).text
