-- What a test of two numbers said.
use Rattle.std.proofs.Common.{◌≡◌, sym, ◌∙◌, ℕ, Bool, true, false, eqb}
use Rattle.std.proofs.lemmas.Bool.{eqb-true, eqb-false}

pub are-same : {b : Bool} {x y : ℕ} → b ≡ eqb x y → b ≡ true → x ≡ y
are-same {x = x} {y = y} test so = eqb-true x y (sym test ∙ so)

pub are-apart : {b : Bool} {x y : ℕ} → b ≡ eqb x y → b ≡ false → x ≡ y → ⊥
are-apart {x = x} {y = y} test so = eqb-false x y (sym test ∙ so)
