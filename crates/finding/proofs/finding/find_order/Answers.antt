-- 3, 7, 12, 11, and else the order at the front.
use Rattle.std.proofs.Common.{◌≡◌, ℕ, ◌≤◌, ◌<◌, true, false, eqb, eqb-true, refl, sym, ◌∙◌, arith}
use Rattle.std.proofs.lemmas.Bool.{eqb-false}
use Rattle.std.proofs.lemmas.Result.{err_from_is_err_and}
use Rattle.rules.specs.Phase
use Rattle.words.specs.Contents.{contents}
use Rattle.answer.proofs.Unwritten.{unwritten}
use Rattle.refusal.proofs.Number.{some_number}
use Rattle.finding.proofs.Told.{may-find, told-early, told-several, told-refused, told-found}
use Rattle.finding.proofs.finding.find_order.Goals as goal
use Rattle.finding.proofs.finding.find_order.Goals.{then-is_in-via-then-is_in, then-is_in-via-else-is_in+then-is_in-2}

early : (phase named : ℕ) → named < Phase.orders → true ≡ eqb phase named → phase < Phase.orders
early phase named low e = let same = eqb-true phase named (sym e) in omega arith

given : (phase : ℕ) → false ≡ eqb phase Phase.empty → false ≡ eqb phase Phase.steps → Phase.orders ≤ phase
given phase opened closed =
    let some = eqb-false phase Phase.empty (sym opened) in
    let more = eqb-false phase Phase.steps (sym closed) in
    omega arith

pub returns-then-is_in : goal.returns-then-is_in
returns-then-is_in c =
    unwritten _ 3 _ refl
    ∙ told-early _ c.requires _
    (elim c.then-is_in.branch [
      | then-is_in-via-then-is_in w ↦ early _ Phase.empty (omega arith) w.if-is_in.ensures
      | then-is_in-via-else-is_in+then-is_in-2 w ↦ early _ Phase.steps (omega arith) w.if-is_in-2.ensures
    ])

pub roots-requires : goal.roots-requires
unfolding contents
roots-requires c = rw c.cell-n.ensures c.requires.sound.small

pub returns-then-roots-ne1 : goal.returns-then-roots-ne1
unfolding contents
returns-then-roots-ne1 c =
    let roots = rw c.cell-n.ensures at c.roots.ensures in
    unwritten _ 7 _ refl ∙ told-several _ c.requires _ (given _ c.if-is_in.ensures c.if-is_in-2.ensures) (λ one. c.if-roots-ne1.true (roots ∙ one))

pub find_rooted-requires : goal.find_rooted-requires
unfolding contents
find_rooted-requires c =
    let roots = rw c.cell-n.ensures at c.roots.ensures in
    may-find _ c.requires (sym roots ∙ c.if-roots-ne1.false)

pub returns-in_err-find_rooted : goal.returns-in_err-find_rooted
unfolding contents
returns-in_err-find_rooted c =
    let p = err_from_is_err_and c.from_residual.result c.from_residual.ensures.1 in
    let roots = rw c.cell-n.ensures at c.roots.ensures in
    let some = some_number c.in_err-find_rooted.field-0.0 in
    rw (p.1, p.2)
    (unwritten _ _ _ refl
    ∙ told-refused _ c.requires _ (given _ c.if-is_in.ensures c.if-is_in-2.ensures) (sym roots ∙ c.if-roots-ne1.false) _ _ c.in_err-find_rooted.ensures (λ none. omega arith))

pub returns : goal.returns
unfolding contents
returns c =
    let roots = rw c.cell-n.ensures at c.roots.ensures in
    rw c.cell-n.ensures
    (told-found _ c.requires _ (given _ c.if-is_in.ensures c.if-is_in-2.ensures) (sym roots ∙ c.if-roots-ne1.false) _ _ c.in_ok-find_rooted.ensures refl)
