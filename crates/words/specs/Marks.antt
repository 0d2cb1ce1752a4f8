-- The ready set: the places that pass a test, a bit each, and a word that says which words of bits are not 0.
use Rattle.std.specs.Prelude.{◌≡◌, Bool, not, cond, ℕ, ◌+◌, ◌*◌, ◌<◌, eqb, Option, MatchOption}
use Rattle.numbers.specs.Lists.{at}
use Rattle.words.specs.Layout.{words, entries, bits, blocks}
use Rattle.words.specs.Contents.{Contents, with_ready}
use Rattle.words.specs.Digits.{digits, first_in}

pub record Marks (test : ℕ → Bool) (c : Contents) : Type 0 where
  pub marked : (q : ℕ) → q < blocks → at c.ready q ≡ digits (λ k. test (bits * q + k)) bits
  pub filled : c.filled ≡ digits (λ q. not (eqb (at c.ready q) 0)) blocks

-- a test that one place passes, or does not, and the others as before
abbrev pub changed : (ℕ → Bool) → ℕ → Bool → ℕ → Bool
changed test place b e = cond (eqb e place) b (test e)

-- a set to which a place is added, or from which it is taken; whether it is there now is b
pub record MayChange (place : ℕ) (b : Bool) (c : Contents) : Type 0 where
  pub long : c.extent ≡ words
  pub inside : place < entries
  pub test : ℕ → Bool
  pub marks : Marks test c
  pub there : test place ≡ b

-- the set is another one then, by any test that tells what it was; nothing else changes
pub record Changed (place : ℕ) (b : Bool) (c c' : Contents) : Type 0 where
  pub same : c' ≡ with_ready c'.ready c'.filled c
  pub marks : (test : ℕ → Bool) → Marks test c → test place ≡ not b → Marks (changed test place b) c'

-- the first place of the set, or none where it is empty
pub record FirstMarked (c : Contents) (r : Option ℕ) : Type 0 where
  pub first :
      (test : ℕ → Bool)
      → Marks test c
      → MatchOption r (first_in test entries ≡ entries) (λ place. (place ≡ first_in test entries) × (place < entries))

-- the words are those of some set
pub record Marked (c : Contents) : Type 0 where
  pub test : ℕ → Bool
  pub marks : Marks test c
