-- The lines of the day printer.
use Rattle.std.specs.Prelude.{true, false, List, [], ◌∷◌, ◌++◌, ℕ, zero, suc, ◌+◌, ◌/◌, ◌%◌, ltb, take}
use Prim.Native.Char.{code}
use Prim.Native.String
use Prim.Native.String.{String}
use Rattle.tree.specs.Peak.{Peaked}
use Rattle.format.specs.Command.{Command, plan, task, activation, execution, begin, done, fetch, places, Decoded, refused, read}
use Rattle.rules.specs.Answer.{Answered}
use Rattle.rules.specs.Question.{booked, in_use, fullness}

-- no line has more bytes than this
abbrev pub longest_line : ℕ
longest_line = 512

-- the bytes of a text
unfoldable pub ascii : String → List ℕ
ascii String.[] = []
ascii (String.◌∷◌ c rest) = code c ∷ ascii rest

-- "Numbers are decimal": the digits of x, with at most `more` of them ahead of the last
unfoldable pub digits : ℕ → ℕ → List ℕ
digits zero x = (48 + x % 10) ∷ []
digits (suc more) x = elim (ltb x 10) [ true ↦ (48 + x) ∷ [] | false ↦ digits more (x / 10) ++ ((48 + x % 10) ∷ []) ]

unfoldable pub decimal : ℕ → List ℕ
decimal x = digits x x

-- "the started steps with single spaces, or `-`"
unfoldable pub spaced : List ℕ → List ℕ
spaced [] = []
spaced (i ∷ later) = ascii " " ++ decimal i ++ spaced later

unfoldable pub listed : List ℕ → List ℕ
listed [] = ascii " -"
listed (i ∷ later) = spaced (i ∷ later)

-- "Both lines go on with B, the trays in use, fullness of B in M, and the started steps", and so does that of 08; every line ends with a
-- line feed
unfoldable pub figures : ℕ → ℕ → ℕ → List ℕ → List ℕ
figures total used full started =
    ascii " booked="
    ++ decimal total
    ++ ascii " used="
    ++ decimal used
    ++ ascii " full="
    ++ decimal full
    ++ ascii " start"
    ++ listed started
    ++ ascii "\n"

-- "After `begin` comes the peak; after `done` the step ended, then the offers." "The begin line gains `by=` after the peak": its step
unfoldable pub begin_line : Peaked → ℕ → ℕ → ℕ → List ℕ → List ℕ
begin_line peak total used full started =
    ascii "begin peak="
    ++ decimal peak.trays
    ++ ascii " by="
    ++ decimal peak.task
    ++ figures total used full started

unfoldable pub done_line : ℕ → ℕ → ℕ → ℕ → ℕ → List ℕ → List ℕ
done_line j offers total used full started =
    ascii "done " ++ decimal j ++ ascii " offers=" ++ decimal offers ++ figures total used full started

-- "FETCH prints `fetch booked=0`"
unfoldable pub fetch_line : ℕ → List ℕ
fetch_line total = ascii "fetch booked=" ++ decimal total ++ ascii "\n"

-- "Its line is `places M=` and the new bound, then booked to start as in a done line"
unfoldable pub places_line : ℕ → ℕ → ℕ → ℕ → List ℕ → List ℕ
places_line bound total used full started = ascii "places M=" ++ decimal bound ++ figures total used full started

-- "on a refusal `refused K at O` (number, byte offset of the command counted from 0)"
unfoldable pub refused_line : ℕ → ℕ → List ℕ
refused_line k offset = ascii "refused " ++ decimal k ++ ascii " at " ++ decimal offset ++ ascii "\n"

-- the line of an accepted command, none for 01 to 04
unfoldable pub line : Command → Answered → List ℕ
line (plan n p bound) a = []
line (task parent work out) a = []
line (activation i) a = []
line (execution i) a = []
line begin a =
    begin_line a.answer.peaks.chilled (booked a.state) (in_use a.state) (fullness a.state)
    (take a.answer.starts a.list)
line (done j) a =
    done_line j a.answer.offers (booked a.state) (in_use a.state) (fullness a.state)
    (take a.answer.starts a.list)
line fetch a = fetch_line (booked a.state)
line (places bound) a =
    places_line bound (booked a.state) (in_use a.state) (fullness a.state) (take a.answer.starts a.list)

-- the line of what was decoded and accepted
unfoldable pub accepted_line : Decoded → Answered → List ℕ
accepted_line (refused k) a = []
accepted_line (read c used) a = line c a
