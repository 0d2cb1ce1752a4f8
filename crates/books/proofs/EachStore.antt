-- The stores of a plan: what is made for each is there for each, and a test that all pass is passed by each.
use mathlib.Core.Path.{◌≡◌, refl}
use mathlib.Core.Bool.{Bool, true, false}
use Rattle.books.specs.Kind.{Kind, chilled, Each, of, each, all}

pub of-each : {A : Type 0} (f : Kind → A) (k : Kind) → of (each f) k ≡ f k
of-each f chilled = refl

pub all-each : (f : Kind → Bool) → all f ≡ true → (k : Kind) → f k ≡ true
unfolding all
all-each f h chilled = h

pub each_all : (f : Kind → Bool) → ((k : Kind) → f k ≡ true) → all f ≡ true
unfolding all
each_all f h = h chilled

-- what fails is failed by some store
pub some-fails : (f : Kind → Bool) → all f ≡ false → (k : Kind) × (f k ≡ false)
unfolding all
some-fails f h = (chilled, h)

pub one-fails : (f : Kind → Bool) (k : Kind) → f k ≡ false → all f ≡ false
unfolding all
one-fails f chilled h = h

-- the same things for each store are the same
pub each_same : {A : Type 0} (f g : Kind → A) → ((k : Kind) → f k ≡ g k) → each f ≡ each g
each_same f g h = rw (h chilled) refl

pub all_same : (f g : Kind → Bool) → ((k : Kind) → f k ≡ g k) → all f ≡ all g
unfolding all
all_same f g h = rw (h chilled) refl

-- and what is there for each store is all
pub each_of : {A : Type 0} (e : Each A) → each (λ k. of e k) ≡ e
each_of e = refl
