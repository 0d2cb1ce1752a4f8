-- More input behind the bytes at hand.
use Rattle.std.specs.Prelude.{◌≡◌, ◌≤◌, List, ℕ, ◌-◌, length, take, drop, Option, Result, Ok, Err, IfOk}
use Rattle.std.specs.Io.KnownBytes.{ReadConsumes}
use Rattle.texts.specs.Printer as rules
use Rattle.position.specs.declared.Position.{Position}
use Rattle.position.specs.Standing.{position_of}

-- how many bytes are at hand from the next command on
abbrev pub left_of : Position → ℕ
left_of x = x.filled - x.place

-- how many bytes a read gave: those at hand afterwards, beyond those that were left
abbrev pub gained : Position → Position → ℕ
gained x y = y.filled - left_of x

-- what the read answered
abbrev pub got : {E : Type 0} → Position → Result Position E → Result ℕ E
got x (Ok y) = Ok (gained x y)
got x (Err e) = Err e

-- a buffer before a read and after it, and the bytes that the reader had left and has left, where they are known
pub record Filled {E : Type 0} (before : List ℕ) (x : Position) (had : Option (List ℕ)) (after : List ℕ) (has : Option (List ℕ)) (r : Result Position E) : Type 0 where
  -- the bytes at hand stand at the front of the buffer
  pub front : take (left_of x) after ≡ take (left_of x) (drop x.place before)
  pub size : length after ≡ length before
  -- what the read gave stands behind them, and is gone from the reader; nothing is gone where it failed
  pub behind : ReadConsumes had has (got x r) (drop (left_of x) after)
  -- it is never more than there was room for
  pub within : IfOk r (λ y. gained x y ≤ length before - left_of x)
  pub position : IfOk r (λ y. position_of y ≡ rules.fed (gained x y) (rules.fronted (position_of x)))
