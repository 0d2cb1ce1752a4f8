-- A place of the ready set that is taken where it is there, and added where it is not.
use Rattle.std.specs.Prelude.{◌≡◌, Bool, not, cond, ℕ, eqb}
use Rattle.words.specs.Contents.{Contents, with_ready}
use Rattle.words.specs.Marks.{Marks}

-- a test that one place passes where it did not, and the other way round, and the others as before
abbrev pub flipped : (ℕ → Bool) → ℕ → ℕ → Bool
flipped test place e = cond (eqb e place) (not (test e)) (test e)

-- the set is another one then, by any test that tells what it was; nothing else changes
pub record Flipped (place : ℕ) (c c' : Contents) : Type 0 where
  pub same : c' ≡ with_ready c'.ready c'.filled c
  pub marks : (test : ℕ → Bool) → Marks test c → Marks (flipped test place) c'
