-- What a read puts behind the bytes at the front of a buffer.
use Rattle.std.proofs.Common.{◌≡◌, ℕ, ◌-◌, ◌≤◌, List, [], ◌++◌, length, take, drop, ap, subst, ◌∙◌, arith, length-drop, append-nil}
use Rattle.std.proofs.Math.Seq.{paste, take_at, drop_at, length-take-le}
use Rattle.std.proofs.Math.ListN.{drop_of_length-le}
use borrow.Rule.Slice.PartMut.{post_of}
use Rattle.texts.specs.Printer as rules
use Rattle.position.specs.declared.Position.{Position}
use Rattle.position.specs.Standing.{position_of}
use Rattle.pump.specs.Filled.{left_of, gained}

-- as many bytes are at hand as were left behind the next command
pub left_over : (x : rules.Position) {y : rules.Position} {n : ℕ} → y ≡ rules.fronted x → n ≡ y.filled → n ≡ x.filled - x.place
unfolding rules.fronted
left_over x e e' = e' ∙ ap (λ (z : rules.Position). z.filled) e

-- a buffer of which the first `left` entries stay, and the given ones come behind them, up to its end
module _ (left : ℕ) (kept given : List ℕ) (within : left ≤ length kept) (size : length given ≡ length kept - left) where
  abbrev pub put_behind : List ℕ
  put_behind = take left kept ++ (given ++ post_of left (length kept - left) kept)

  kept-size : length (take left kept) ≡ left
  kept-size = length-take-le left kept within

  -- nothing is behind them
  nothing-behind : post_of left (length kept - left) kept ≡ []
  nothing-behind = drop_of_length-le (drop left kept) (omega (arith, length-drop left kept))

  pub behind : drop left put_behind ≡ given
  behind = drop_at (take left kept) _ left kept-size ∙ ap (λ (l : List ℕ). given ++ l) nothing-behind ∙ append-nil given

  front : take left put_behind ≡ take left kept
  front = take_at (take left kept) _ left kept-size

-- what goes behind the front leaves it as it is
front-stays : (before : List ℕ) (place left : ℕ) {kept : List ℕ}
    → left ≤ length before - place
    → kept ≡ paste before 0 (drop place before) left
    → take left kept ≡ take left (drop place before)
front-stays before place left fits e =
    ap (take left) e ∙ take_at (take left (drop place before)) _ left (length-take-le left (drop place before) (omega (arith, length-drop place before)))

-- so the bytes at hand stand at the front
pub stays : (before : List ℕ) (x : Position) (left : ℕ) (kept given : List ℕ) (within : left ≤ length kept) (size : length given ≡ length kept - left)
    → left ≡ left_of x
    → left ≤ length before - x.place
    → kept ≡ paste before 0 (drop x.place before) left
    → take (left_of x) (put_behind left kept given within size) ≡ take (left_of x) (drop x.place before)
stays before x left kept given within size count fits e =
    subst (λ (n : ℕ). take n (put_behind left kept given within size) ≡ take n (drop x.place before)) count
    (front left kept given within size ∙ front-stays before x.place left fits e)

-- the bytes at hand afterwards are those that were left and those that a read gave
pub gained-is : (x y : Position) {n : ℕ} → position_of y ≡ rules.fed n (rules.fronted (position_of x)) → gained x y ≡ n
unfolding rules.fed rules.fronted
gained-is x y e = omega (arith, ap (λ (z : rules.Position). z.filled) e)
