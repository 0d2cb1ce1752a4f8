-- Which command is the next one once a reader has moved on.
use mathlib.Core.Path.{◌≡◌, ap, ◌∙◌}
use mathlib.Core.List.{List}
use mathlib.Core.Logic.{⊎_elim}
use Prim.Native.Nat.{ℕ, ◌+◌, min}
use native.Mathlib.Omega.{arith}
use borrow.Author.Tests.{le-leb}
use lib.ListN.{length}
use Rattle.format.specs.Command.{Command, read, decode}
use Rattle.numbers.proofs.Tests.{le-or-lt}
use Rattle.format.proofs.Bytes.{read-by}
use Rattle.reader.specs.Onward.{onward}

-- stopping at the end changes no command: no byte is left there, nor past it
pub onward-decode :
    (stream : List ℕ) (place used : ℕ) → decode stream (onward stream place used) ≡ decode stream (place + used)
unfolding decode onward
onward-decode stream place used =
    ⊎_elim
    (λ within.
    let e : min (place + used) (length stream) ≡ place + used = omega arith in
    ap (decode stream) e)
    (λ past.
    let e : min (place + used) (length stream) ≡ length stream = omega arith in
    rw (e, le-leb (length stream) (length stream) (omega arith), le-leb (length stream) (place + used) (omega arith)))
    (le-or-lt (place + used) (length stream))

-- "a refused command is still the next one": it uses 0 bytes
pub still-next : (stream : List ℕ) (place : ℕ) → decode stream (onward stream place 0) ≡ decode stream place
still-next stream place =
    let e : place + 0 ≡ place = omega arith in
    onward-decode stream place 0 ∙ ap (decode stream) e

-- a reader that is set at a place reads what stands there
pub at-decode : (stream : List ℕ) (place : ℕ) → decode stream (onward stream 0 place) ≡ decode stream place
at-decode stream place =
    let e : 0 + place ≡ place = omega arith in
    onward-decode stream 0 place ∙ ap (decode stream) e

-- a reader that moves on by the bytes that a command uses stands right behind it: there is no stopping short
pub read-onward :
    (stream : List ℕ) (place : ℕ) (c : Command) (used : ℕ) → decode stream place ≡ read c used
    → onward stream place used ≡ place + used
unfolding onward
read-onward stream place c used e =
    let l = (read-by stream place c used e).within in
    omega arith
