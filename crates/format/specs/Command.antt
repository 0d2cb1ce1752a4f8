-- "A command is one byte and operands of fixed width, lowest byte first."
use Rattle.std.specs.Prelude.{cond, List, [], ◌∷◌, ◌++◌, ℕ, zero, suc, ◌+◌, ◌*◌, ◌/◌, ◌%◌, eqb, leb, ltb, length, drop}
use Rattle.std.proofs.Math.Option.{Option, none, some}
use Rattle.numbers.specs.Lists.{at}

pub data Command : Type 0 where
  -- PLAN: n, p and M
  plan : ℕ → ℕ → ℕ → Command
  -- STEP: parent, work and out of the next task
  task : ℕ → ℕ → ℕ → Command
  -- next in the activation order, and in the execution order
  activation : ℕ → Command
  execution : ℕ → Command
  begin : Command
  -- this task has ended
  done : ℕ → Command
  -- the trolley is fetched
  fetch : Command
  -- "a new M": other places of the cold room
  places : ℕ → Command

-- the bytes by which a day is told: PLAN, BEGIN, DONE, FETCH and 08
abbrev pub plan_byte : ℕ
plan_byte = 1

abbrev pub begin_byte : ℕ
begin_byte = 5

abbrev pub done_byte : ℕ
done_byte = 6

abbrev pub fetch_byte : ℕ
fetch_byte = 7

abbrev pub places_byte : ℕ
places_byte = 8

-- a line of the table of commands: the byte, the widths of the operands in bytes, and the meaning by the operands
pub record Form : Type 0 where
  pub byte : ℕ
  pub widths : List ℕ
  pub means : List ℕ → Command

-- the table of commands
unfoldable pub forms : List Form
forms =
    record { byte = 1; widths = 2 ∷ 1 ∷ 4 ∷ []; means = λ x. plan (at x 0) (at x 1) (at x 2) }
    ∷ record { byte = 2; widths = 2 ∷ 2 ∷ 2 ∷ []; means = λ x. task (at x 0) (at x 1) (at x 2) }
    ∷ record { byte = 3; widths = 2 ∷ []; means = λ x. activation (at x 0) }
    ∷ record { byte = 4; widths = 2 ∷ []; means = λ x. execution (at x 0) }
    ∷ record { byte = 5; widths = []; means = λ x. begin }
    ∷ record { byte = 6; widths = 2 ∷ []; means = λ x. done (at x 0) }
    ∷ record { byte = 7; widths = []; means = λ x. fetch }
    ∷ record { byte = 8; widths = 4 ∷ []; means = λ x. places (at x 0) }
    ∷ []

-- the line with a byte, where there is one
unfoldable pub find : List Form → ℕ → Option Form
find [] byte = none
find (f ∷ later) byte = cond (eqb byte f.byte) (some f) (find later byte)

-- the byte and the operands of a command
unfoldable pub byte_of : Command → ℕ
byte_of (plan n p bound) = 1
byte_of (task parent work out) = 2
byte_of (activation i) = 3
byte_of (execution i) = 4
byte_of begin = 5
byte_of (done i) = 6
byte_of fetch = 7
byte_of (places bound) = 8

unfoldable pub operands_of : Command → List ℕ
operands_of (plan n p bound) = n ∷ p ∷ bound ∷ []
operands_of (task parent work out) = parent ∷ work ∷ out ∷ []
operands_of (activation i) = i ∷ []
operands_of (execution i) = i ∷ []
operands_of begin = []
operands_of (done i) = i ∷ []
operands_of fetch = []
operands_of (places bound) = bound ∷ []

-- the widths of its operands, by its line
unfoldable pub widths_of : Command → List ℕ
widths_of c = elim (find forms (byte_of c)) [ none ↦ [] | some f ↦ f.widths ]

-- the bytes of a number in a fixed width
unfoldable pub little : ℕ → ℕ → List ℕ
little zero x = []
little (suc width) x = x % 256 ∷ little width (x / 256)

-- the number in the first bytes of a list
unfoldable pub number : ℕ → List ℕ → ℕ
number zero given = 0
number (suc width) given = at given 0 + 256 * number width (drop 1 given)

-- the bytes of numbers of these widths, one after another
unfoldable pub littles : List ℕ → List ℕ → List ℕ
littles [] x = []
littles (width ∷ later) x = little width (at x 0) ++ littles later (drop 1 x)

-- the numbers of these widths in the first bytes of a list
unfoldable pub numbers : List ℕ → List ℕ → List ℕ
numbers [] given = []
numbers (width ∷ later) given = number width given ∷ numbers later (drop width given)

-- how many bytes they take
unfoldable pub room : List ℕ → ℕ
room [] = 0
room (width ∷ later) = width + room later

-- the bytes of a command
unfoldable pub bytes : Command → List ℕ
bytes c = byte_of c ∷ littles (widths_of c) (operands_of c)

-- what stands at a place of a stream: a command and how many bytes it uses, or a ground for refusing
pub data Decoded : Type 0 where
  refused : ℕ → Decoded
  read : Command → ℕ → Decoded

-- a command of `width` bytes of operands; "operands are cut short" (1)
abbrev pub whole : List ℕ → ℕ → Command → Decoded
whole given width c = cond (ltb (length given) width) (refused 1) (read c (1 + width))

-- the command of a line, with the operands that follow its byte
unfoldable pub read_by : Form → List ℕ → Decoded
read_by f given = whole given (room f.widths) (f.means (numbers f.widths given))

-- the byte picks operand width and meaning; "the byte is none of 01 to 06" (2); 07 "leaves the unknown ones", and 08 "is known"
unfoldable pub table : ℕ → List ℕ → Decoded
table byte given = elim (find forms byte) [ none ↦ refused 2 | some f ↦ read_by f given ]

-- "no byte is left" (1), then the table
unfoldable pub decode : List ℕ → ℕ → Decoded
decode stream place =
    cond (leb (length stream) place) (refused 1) (table (at stream place) (drop (suc place) stream))
