-- The input of the day printer in parts: a turn that does not wait is the turn that it would be if all of the input had come.
use mathlib.Core.Path.{◌≡◌, refl, sym, ap, ◌∙◌}
use mathlib.Core.Bool.{Bool, true, false, cond, true≢false}
use mathlib.Core.List.{List, [], ◌∷◌, ◌++◌, append-nil}
use mathlib.Core.Option.{Option, none, some}
use mathlib.Core.Logic.{⊎_elim}
use Prim.Native.Nat.{ℕ, suc, ◌+◌, ◌≤◌, ◌<◌}
use native.Mathlib.Nat.{zero-add, suc-add}
use native.Mathlib.Omega.{arith}
use borrow.Author.Tests.{ltb-false, le-ltb, le-leb, lt-leb}
use lib.Dec.{leb, ltb}
use lib.ListN.{length, drop, length-append, get_or-append}
use lib.Seq.{drop-append-le}
use Rattle.numbers.specs.Lists.{at}
use Rattle.rules.specs.State.{State}
use Rattle.format.specs.Command.{Command, Form, forms, find, room, Decoded, refused, read, whole, read_by, table, decode}
use Rattle.rules.specs.Answer.{Asking, command}
use Rattle.texts.specs.Printer.{waits, idle, is_awaited, turn}
use Rattle.numbers.proofs.Tests.{fails, le-or-lt}
use Rattle.format.proofs.Number.{numbers_more}
use Rattle.format.proofs.Bytes.{past}

-- the bytes ahead of the part do not count
behind : (before part : List ℕ) (place : ℕ) → decode (before ++ part) (length before + place) ≡ decode part place
behind [] part place = rw zero-add
behind (x ∷ before) part place =
    ap (decode ((x ∷ before) ++ part)) (suc-add (length before) place)
    ∙ past x (before ++ part) (length before + place)
    ∙ behind before part place

-- what is no longer awaited is not changed by what comes after it
abbrev Same : Decoded → Decoded → Type 0
Same d d' = is_awaited false d ≡ false → d' ≡ d

module _ (given after : List ℕ) where
  whole-more : (width : ℕ) (c c' : Command) → (width ≤ length given → c' ≡ c) → Same (whole given width c) (whole (given ++ after) width c')
  unfolding is_awaited
  whole-more width c c' same = go (ltb (length given) width) (ltb-false (length given) width)
    where
      go : (t : Bool) → (t ≡ false → width ≤ length given) → Same (cond t (refused 1) (read c (1 + width))) (whole (given ++ after) width c')
      go true h e = absurd (true≢false e)
      go false h e =
          let l = h refl in
          rw (le-ltb (length (given ++ after)) width (simp length-append (omega arith)), same l)

  table_more : (byte : ℕ) → Same (table byte given) (table byte (given ++ after))
  unfolding table read_by
  table_more byte = go (find forms byte)
    where
      go : (line : Option Form)
          → Same (elim line [ none ↦ refused 2 | some f ↦ read_by f given ])
          (elim line [ none ↦ refused 2 | some f ↦ read_by f (given ++ after) ])
      go none = λ e. refl
      go (some f) =
          whole-more (room f.widths) _ _ (λ l. ap f.means (numbers_more f.widths given after l))

-- a command that is not awaited stands among the bytes that have come
came : (part : List ℕ) (place : ℕ) → is_awaited false (decode part place) ≡ false → place < length part
unfolding decode is_awaited
came part place e =
    ⊎_elim (λ out. absurd (true≢false (rw (le-leb (length part) place out) at e))) (λ within. within)
    (le-or-lt (length part) place)

more : (part after : List ℕ) (place : ℕ) → Same (decode part place) (decode (part ++ after) place)
unfolding decode
more part after place e =
    let within = came part place e in
    let within' : place < length (part ++ after) = simp length-append (omega arith) in
    rw (
      lt-leb (length part) place within,
      lt-leb (length (part ++ after)) place within',
      get_or-append part after 0 place within,
      drop-append-le (suc place) part after (omega arith),
    )
    (table_more (drop (suc place) part) after (at part place) (rw (lt-leb (length part) place within) at e))

-- whether a place is within does not hang on the bytes ahead of the part
within-behind : (before part : List ℕ) (place : ℕ)
    → leb (length (before ++ part)) (length before + place) ≡ leb (length part) place
within-behind before part place =
    rw (length-append before part)
    (⊎_elim
    (λ out.
    le-leb (length before + length part) (length before + place) (omega arith) ∙ sym (le-leb (length part) place out))
    (λ within.
    lt-leb (length before + length part) (length before + place) (omega arith) ∙ sym (lt-leb (length part) place within))
    (le-or-lt (length part) place))

module _ (s : State) (list before part after : List ℕ) (place offset : ℕ) where
  -- the part that has come, and the whole input
  abbrev here : Asking
  here = record { stream = part; place = place; list = list }

  abbrev there : Asking
  there = record { stream = before ++ (part ++ after); place = length before + place; list = list }

  waited : (is_last : Bool) → is_awaited is_last (decode part place) ≡ true → (turn s here offset is_last).verdict ≡ waits
  unfolding turn idle
  waited is_last e = rw e

  -- what follows the part changes nothing
  nothing-new : (is_last : Bool)
      → (is_last ≡ true → after ≡ [])
      → is_awaited is_last (decode part place) ≡ false
      → (decode (part ++ after) place ≡ decode part place) × (leb (length (part ++ after)) place ≡ leb (length part) place)
  nothing-new true last e =
      let all : part ++ after ≡ part = ap (λ (l : List ℕ). part ++ l) (last refl) ∙ append-nil part in
      (ap (λ (l : List ℕ). decode l place) all, ap (λ (l : List ℕ). leb (length l) place) all)
  nothing-new false last e =
      let within = came part place e in
      let within' : place < length (part ++ after) = simp length-append (omega arith) in
      (more part after place e, lt-leb (length (part ++ after)) place within' ∙ sym (lt-leb (length part) place within))

  -- a turn over a part, which does not wait, is the turn over the whole input
  pub as-whole : (is_last : Bool)
      → (is_last ≡ true → after ≡ [])
      → ((turn s here offset is_last).verdict ≡ waits → ⊥)
      → turn s here offset is_last ≡ turn s there offset true
  unfolding turn command is_awaited
  as-whole is_last last goes =
      let e = fails (is_awaited is_last (decode part place)) (λ w. goes (waited is_last w)) in
      let same = nothing-new is_last last e in
      let d = behind before (part ++ after) place ∙ same.0 in
      let t = within-behind before (part ++ after) place ∙ same.1 in
      rw (e, d, t)
