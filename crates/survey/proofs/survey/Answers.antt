-- A peak is told where there is no ground.
use Rattle.std.proofs.Common.{◌≡◌, ℕ, ◌<◌, sym, subst, take, ap, ◌∙◌, eq-eqb, ne_eqb, arith}
use Rattle.std.proofs.lemmas.Result.{err_from_is_err_and}
use Rattle.books.specs.Kind.{chilled}
use Rattle.numbers.specs.Lists.{at}
use Rattle.tree.specs.Peak.{Peaked, peaked, no_peak}
use Rattle.words.specs.Contents.{Contents, contents}
use Rattle.store.specs.Rows.{tasks_of}
use Rattle.survey.specs.Survey.{RankedIn, ground_of, order_ground, peaked_of}
use Rattle.refusal.proofs.Number.{some_number}
use Rattle.survey.proofs.Grounds.{no-ground}
use Rattle.survey.proofs.survey.Goals as goal

-- the ground of the first n entries, where n is the size
ground_is : (c : Contents) (n number : ℕ) → n ≡ c.size → number ≡ order_ground n (at c.parents) (take n c.activation) → number ≡ ground_of c
ground_is c n number size same = same ∙ ap (λ (n : ℕ). order_ground n (at c.parents) (take n c.activation)) size

untold : (c : Contents) → 0 < ground_of c → no_peak ≡ peaked_of c
untold c some = rw (ne_eqb (ground_of c) 0 (λ e. omega arith))

told : (c : Contents) (n : ℕ) → n ≡ c.size → 0 ≡ ground_of c → (p : Peaked) → p ≡ peaked n (at c.parents) (tasks_of c chilled).work (tasks_of c chilled).out (take n c.activation) → p ≡ peaked_of c
told c n size none p same = rw (eq-eqb (ground_of c) 0 (sym none)) (same ∙ ap (λ (n : ℕ). peaked n (at c.parents) (tasks_of c chilled).work (tasks_of c chilled).out (take n c.activation)) size)

pub ground-requires : goal.ground-requires
unfolding contents
ground-requires c = subst (λ n. RankedIn n (contents c.args.plan.now.words)) (sym c.cell-n.ensures) c.requires

pub returns-in_err-ground : goal.returns-in_err-ground
unfolding contents
returns-in_err-ground c =
    let p = err_from_is_err_and c.from_residual.result c.from_residual.ensures.1 in
    let k = contents c.args.plan.now.words in
    let some = some_number c.in_err-ground.field-0.0 in
    let same = ground_is k _ _ c.cell-n.ensures c.in_err-ground.ensures in
    rw (p.1, p.2) (same, untold k (omega arith))

pub peak-requires : goal.peak-requires
unfolding contents
peak-requires c =
    let ranked = subst (λ n. RankedIn n (contents c.args.plan.now.words)) (sym c.cell-n.ensures) c.requires in
    let fine = no-ground _ _ _ _ ranked.parented ranked.ranked (sym c.in_ok-ground.ensures) in
    record { some = fine.0; parented = ranked.parented; offset = omega arith; valid = fine.1 }

pub returns : goal.returns
unfolding contents
returns c =
    let k = contents c.args.plan.now.words in
    let none = ground_is k _ _ c.cell-n.ensures c.in_ok-ground.ensures in
    (none, told k _ c.cell-n.ensures none _ c.peak.ensures)
