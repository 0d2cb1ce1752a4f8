-- A plan on whose day nothing has happened: all that a day keeps is 0.
use Rattle.std.specs.Prelude.{◌≡◌, ℕ}
use Rattle.books.specs.Kind.{Kind, of}
use Rattle.numbers.specs.Lists.{at}
use Rattle.words.specs.Contents.{Contents}

pub record AtRest (c : Contents) : Type 0 where
  pub unended : (a : ℕ) → at c.unended a ≡ 0
  pub standings : (a : ℕ) → at c.standings a ≡ 0
  pub needs : (k : Kind) (a : ℕ) → at (of c.stores k).needs a ≡ 0
  pub booked : (k : Kind) (a : ℕ) → at (of c.stores k).booked a ≡ 0
  pub figures : (k : Kind) (a : ℕ) → at (of c.stores k).figures a ≡ 0
  pub ready : (q : ℕ) → at c.ready q ≡ 0
  pub filled : c.filled ≡ 0
  pub next : c.next ≡ 0
  pub active : c.active ≡ 0
  pub ended : c.ended ≡ 0
  pub total : (k : Kind) → (of c.stores k).total ≡ 0
  pub used : (k : Kind) → (of c.stores k).used ≡ 0
