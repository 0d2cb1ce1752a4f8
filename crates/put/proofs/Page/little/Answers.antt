-- Such a text exists at the start, grows by the lowest byte, and is all of the number at the end.
use Rattle.std.proofs.Common.{◌≡◌, sym, ◌∙◌, [], ◌∷◌, ℕ, suc, ◌+◌, ◌-◌, ◌/◌, ◌%◌, ◌<◌, append_assoc, append-nil, arith}
use native.Mathlib.Numerals.{unary_clauses}
use Rattle.format.specs.Command.{little}
use Rattle.put.proofs.Pages.{nothing, ◌then◌}
use Rattle.put.proofs.Page.little.Goals as goal

-- the lowest byte, and then the others
lowest : (width place rest : ℕ)
    → place < width
    → little (width - place) rest ≡ rest % 256 ∷ little (width - (place + 1)) (rest / 256)
unfolding little
lowest width place rest more =
    let e : width - place ≡ suc (width - (place + 1)) = omega arith in
    rw e

pub loop-init : goal.loop-init
loop-init c = ([], nothing _, simp unary_clauses)

pub loop-preserved : goal.loop-preserved
loop-preserved c =
    let inv = c.loop.invariant in
    (_, inv.1 then c.byte.ensures, rw (lowest _ _ _ c.loop-test.true) at inv.2 ∙ sym (append_assoc inv.0 _ _))

pub returns : goal.returns
unfolding little
returns c =
    let inv = c.loop.invariant in
    let e : c.args.width - c.loop.counter ≡ 0 = omega arith in
    rw (inv.2, e, append-nil) inv.1
