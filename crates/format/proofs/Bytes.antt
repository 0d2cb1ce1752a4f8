-- The table of commands, and the round trip: the bytes of a command are read as that command, wherever they stand in a stream, and
-- what is read has these bytes. Only `line_of` and `all-kept` go through the lines of the table one by one.
use mathlib.Core.Path.{◌≡◌, refl, sym, ap, subst, ◌∙◌}
use mathlib.Core.Logic.{⊎_elim}
use mathlib.Core.List.{List, [], ◌∷◌, ◌++◌}
use mathlib.Core.Option.{Option, none, some}
use Prim.Native.Nat.{ℕ, suc, ◌+◌, ◌≤◌, ◌<◌}
use native.Mathlib.Numerals.{one-add}
use native.Mathlib.Omega.{arith}
use borrow.Author.Tests.{eqb-true, ltb-true, ltb-false, lt-leb, le-leb, le-ltb}
use lib.Dec.{eqb, ltb, leb-suc-suc}
use lib.ListN.{length, take, drop, length-append, length-drop}
use lib.Seq.{drop-cons, get_or-drop}
use Rattle.numbers.specs.Limits.{max_count, max_bound}
use Rattle.numbers.specs.Lists.{at, AllBytes}
use Rattle.format.specs.Command.{Command, plan, task, activation, execution, begin, done, fetch, places, Form, forms, find, byte_of, operands_of, widths_of, littles, numbers, room, bytes, Decoded, refused, read, read_by, table, decode}
use Rattle.numbers.proofs.Tests.{decide, le-or-lt}
use Rattle.format.proofs.Number.{Fit, numbers_fit, numbers-littles, littles-numbers, length-littles, length-numbers}

-- what decoding comes to: no byte is left, the byte has no line, the operands of its line are cut short, or they are whole
pub data Reading (stream : List ℕ) (place : ℕ) : Decoded → Type 0 where
  nothing_left : length stream ≤ place → Reading stream place (refused 1)
  no_line : find forms (at stream place) ≡ none → Reading stream place (refused 2)
  cut_short :
      (f : Form)
      → find forms (at stream place) ≡ some f
      → length stream < place + (1 + room f.widths)
      → Reading stream place (refused 1)
  in-full :
      (f : Form)
      → find forms (at stream place) ≡ some f
      → place + (1 + room f.widths) ≤ length stream
      → Reading stream place (read (f.means (numbers f.widths (drop (suc place) stream))) (1 + room f.widths))

pub reading : (stream : List ℕ) (place : ℕ) → Reading stream place (decode stream place)
unfolding decode table read_by
reading stream place =
    ⊎_elim (λ out. rw (le-leb (length stream) place out) (nothing_left out))
    (λ within. rw (lt-leb (length stream) place within) (by-line within (find forms (at stream place)) refl))
    (le-or-lt (length stream) place)
  where
    by-line :
        place < length stream
        → (line : Option Form)
        → find forms (at stream place) ≡ line
        → Reading stream place (elim line [ none ↦ refused 2 | some f ↦ read_by f (drop (suc place) stream) ])
    by-line within none there = no_line there
    by-line within (some f) there =
        let given = drop (suc place) stream in
        let long = length-drop (suc place) stream in
        ⊎_elim
        (λ t. rw t (cut_short f there (let l = ltb-true (length given) (room f.widths) t in omega arith)))
        (λ t. rw t (in-full f there (let l = ltb-false (length given) (room f.widths) t in omega arith)))
        (decide (ltb (length given) (room f.widths)))

-- what is decoded is refused by a number, or uses a byte at least
abbrev pub Counts : Decoded → Type 0
Counts (refused k) = k ≡ 0 → ⊥
Counts (read c used) = 0 < used

pub decode-counts : (stream : List ℕ) (place : ℕ) → Counts (decode stream place)
decode-counts stream place = go (reading stream place)
  where
    go : {d : Decoded} → Reading stream place d → Counts d
    go (nothing_left out) = λ z. omega arith
    go (no_line there) = λ z. omega arith
    go (cut_short f there less) = λ z. omega arith
    go (in-full f there all) = omega arith

-- what holds of every line of a table holds of the line that is found for a byte, which has that byte
abbrev pub All : (Form → Type 0) → List Form → Type 0
All P [] = Unit {0}
All P (f ∷ later) = P f × All P later

pub found :
    (P : Form → Type 0) (lines : List Form) (byte : ℕ) (f : Form) → All P lines → find lines byte ≡ some f → (byte ≡ f.byte) × P f
unfolding find
found P [] byte f all e = let z : ◌≡◌ {A = ℕ} 0 1 = cc in absurd (omega arith)
found P (g ∷ lines) byte f all e =
    ⊎_elim
    (λ t.
    let q : some g ≡ some f = rw t at e in
    let this : g ≡ f = cc in
    subst (λ (h : Form). (byte ≡ h.byte) × P h) this (eqb-true byte g.byte t, all.0))
    (λ t. found P lines byte f all.1 (rw t at e)) (decide (eqb byte g.byte))

-- the meaning of a line keeps its byte and its operands
record Kept (f : Form) : Type 0 where
  byte : (x : List ℕ) → byte_of (f.means x) ≡ f.byte
  operands : (x : List ℕ) → length x ≡ length f.widths → operands_of (f.means x) ≡ x

-- lists of no entry, of one and of three
no-entry : (x : List ℕ) → length x ≡ 0 → [] ≡ x
no-entry [] h = refl
no-entry (a ∷ x) h = absurd (omega arith)

one_entry : (x : List ℕ) → length x ≡ 1 → at x 0 ∷ [] ≡ x
one_entry [] h = absurd (omega arith)
one_entry (a ∷ x) h = ap (λ (l : List ℕ). a ∷ l) (no-entry x (omega arith))

three-entries : (x : List ℕ) → length x ≡ 3 → at x 0 ∷ at x 1 ∷ at x 2 ∷ [] ≡ x
three-entries [] h = absurd (omega arith)
three-entries (a ∷ []) h = absurd (omega arith)
three-entries (a ∷ b ∷ x) h = ap (λ (l : List ℕ). a ∷ b ∷ l) (one_entry x (omega arith))

all-kept : All Kept forms
unfolding forms byte_of operands_of
all-kept = (
  record { byte = λ x. refl; operands = three-entries },
  (
    record { byte = λ x. refl; operands = three-entries },
    (
      record { byte = λ x. refl; operands = one_entry },
      (
        record { byte = λ x. refl; operands = one_entry },
        (
          record { byte = λ x. refl; operands = no-entry },
          (
            record { byte = λ x. refl; operands = one_entry },
            (record { byte = λ x. refl; operands = no-entry }, (record { byte = λ x. refl; operands = one_entry }, tt)),
          ),
        ),
      ),
    ),
  ),
)

-- the line at its byte gives the widths of its operands
widths-by : (c : Command) (f : Form) → find forms (byte_of c) ≡ some f → widths_of c ≡ f.widths
unfolding widths_of
widths-by c f e = rw (widths_of, e)

-- what is read is by a line, whose byte it has and whose operands are whole
pub record ReadBy (stream : List ℕ) (place : ℕ) (c : Command) (used : ℕ) : Type 0 where
  pub widths : List ℕ
  pub wide : widths_of c ≡ widths
  pub long : 1 + room widths ≡ used
  pub named : byte_of c ≡ at stream place
  pub operands : operands_of c ≡ numbers widths (drop (suc place) stream)
  pub within : place + used ≤ length stream

pub read-by :
    (stream : List ℕ) (place : ℕ) (c : Command) (used : ℕ) → decode stream place ≡ read c used → ReadBy stream place c used
read-by stream place c used e = go (reading stream place) e
  where
    unread : (k : ℕ) → refused k ≡ read c used → ⊥
    unread k e = let z : ◌≡◌ {A = ℕ} 0 1 = cc in omega arith

    go : {d : Decoded} → Reading stream place d → d ≡ read c used → ReadBy stream place c used
    go (nothing_left out) e = absurd (unread 1 e)
    go (no_line there) e = absurd (unread 2 e)
    go (cut_short f there less) e = absurd (unread 1 e)
    go (in-full f there all) e =
        let x = numbers f.widths (drop (suc place) stream) in
        let meant : f.means x ≡ c = cc in
        let long : 1 + room f.widths ≡ used = cc in
        let line = found Kept forms (at stream place) f all-kept there in
        let named : byte_of c ≡ at stream place = ap byte_of (sym meant) ∙ line.1.byte x ∙ sym line.0 in
        record {
          widths = f.widths;
          wide = widths-by c f (ap (find forms) named ∙ there);
          long = long;
          named = named;
          operands = ap operands_of (sym meant) ∙ line.1.operands x (length-numbers f.widths (drop (suc place) stream));
          within = omega arith;
        }

-- the operands of a command fit their widths
abbrev pub fits : Command → Type 0
fits c = Fit (widths_of c) (operands_of c)

-- the line of a command
record Line (c : Command) : Type 0 where
  form : Form
  there : find forms (byte_of c) ≡ some form
  means : form.means (operands_of c) ≡ c

line_of : (c : Command) → Line c
unfolding find forms byte_of operands_of
line_of (plan n p bound) = record { form = _; there = refl; means = refl }
line_of (task parent work out) = record { form = _; there = refl; means = refl }
line_of (activation i) = record { form = _; there = refl; means = refl }
line_of (execution i) = record { form = _; there = refl; means = refl }
line_of begin = record { form = _; there = refl; means = refl }
line_of (done i) = record { form = _; there = refl; means = refl }
line_of fetch = record { form = _; there = refl; means = refl }
line_of (places bound) = record { form = _; there = refl; means = refl }

-- a line reads its operands where they are whole
line_reads :
    (f : Form) (x rest : List ℕ)
    → Fit f.widths x
    → read_by f (littles f.widths x ++ rest) ≡ read (f.means x) (1 + room f.widths)
unfolding read_by
line_reads f x rest h =
    let operands = littles f.widths x in
    rw (
      le-ltb (length (operands ++ rest)) (room f.widths) (omega (arith, length-append operands rest, length-littles f.widths x)),
      numbers-littles f.widths x rest h,
    )

-- at the start of a stream the table is asked for the line
first_reads :
    (byte : ℕ) (given : List ℕ) (f : Form) → find forms byte ≡ some f → decode (byte ∷ given) 0 ≡ read_by f given
unfolding decode table
first_reads byte given f e = rw (lt-leb (suc (length given)) 0 (omega arith), table, e)

pub decode-bytes : (c : Command) (rest : List ℕ) → fits c → decode (bytes c ++ rest) 0 ≡ read c (length (bytes c))
unfolding bytes
decode-bytes c rest h =
    let l = line_of c in
    let f = l.form in
    let x = operands_of c in
    let wide = widths-by c f l.there in
    rw (wide, length-littles f.widths x, ← one-add (room f.widths))
    (first_reads (byte_of c) (littles f.widths x ++ rest) f l.there
    ∙ line_reads f x rest (rw wide at h)
    ∙ ap (λ (d : Command). read d (1 + room f.widths)) l.means)

-- a byte before the place does not count
pub past : (byte : ℕ) (stream : List ℕ) (place : ℕ) → decode (byte ∷ stream) (suc place) ≡ decode stream place
unfolding decode
past byte stream place = rw leb-suc-suc

-- at any place
pub decode-bytes-at :
    (before : List ℕ) (c : Command) (rest : List ℕ) → fits c
    → decode (before ++ bytes c ++ rest) (length before) ≡ read c (length (bytes c))
decode-bytes-at [] c rest h = decode-bytes c rest h
decode-bytes-at (byte ∷ before) c rest h =
    past byte (before ++ bytes c ++ rest) (length before) ∙ decode-bytes-at before c rest h

-- the bytes that were read are those of the command
pub bytes-decode :
    (stream : List ℕ) (place : ℕ) (c : Command) (used : ℕ)
    → decode stream place ≡ read c used
    → AllBytes stream
    → take used (drop place stream) ≡ bytes c
unfolding bytes
bytes-decode stream place c used e all =
    let r = read-by stream place c used e in
    let within : place + (1 + room r.widths) ≤ length stream = rw r.long r.within in
    ap (λ (k : ℕ). take k (drop place stream)) (sym r.long)
    ∙ rw (
      drop-cons stream place 0 (omega arith),
      one-add,
      r.wide,
      r.named,
      r.operands,
      littles-numbers r.widths (drop (suc place) stream) (omega (arith, length-drop (suc place) stream))
          (λ k. rw get_or-drop (all (suc place + k))),
    )

-- and its operands fit their widths
pub decode-fits :
    (stream : List ℕ) (place : ℕ) (c : Command) (used : ℕ) → decode stream place ≡ read c used → AllBytes stream → fits c
decode-fits stream place c used e all =
    let r = read-by stream place c used e in
    rw (r.wide, r.operands)
    (numbers_fit r.widths (drop (suc place) stream) (λ k. rw get_or-drop (all (suc place + k))))

-- so bytes keep M, work and out in their limits
pub bound-fits : (n p bound : ℕ) → fits (plan n p bound) → bound ≤ max_bound
unfolding widths_of find forms byte_of operands_of
bound-fits n p bound h = let last = h.1.1.0 in omega arith

pub places-fit : (bound : ℕ) → fits (places bound) → bound ≤ max_bound
unfolding widths_of find forms byte_of operands_of
places-fit bound h = let first = h.0 in omega arith

pub counts-fit : (parent work out : ℕ) → fits (task parent work out) → (work ≤ max_count) × (out ≤ max_count)
unfolding widths_of find forms byte_of operands_of
counts-fit parent work out h = let first = h.1.0 in let second = h.1.1.0 in (omega arith, omega arith)
