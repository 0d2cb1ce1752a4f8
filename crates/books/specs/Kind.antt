-- The stores of a plan. Every rule about trays speaks of a store that is left open: of kind k, whichever it is.
use Rattle.std.specs.Prelude.{Bool}

pub data Kind : Type 0 where
  -- the cold room
  chilled : Kind

-- one thing for each store
pub record Each (A : Type 0) : Type 0 where
  pub chilled : A

abbrev pub of : {A : Type 0} → Each A → Kind → A
of e chilled = e.chilled

abbrev pub each : {A : Type 0} → (Kind → A) → Each A
each f = record { chilled = f chilled }

-- a test that every store passes
unfoldable pub all : (Kind → Bool) → Bool
all f = f chilled

-- another thing for one store
abbrev pub put : {A : Type 0} → Kind → A → Each A → Each A
put chilled x e = record { chilled = x }
