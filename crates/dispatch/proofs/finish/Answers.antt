-- `finish` meets its contract: each part leaves what the next one asks, and all of them what the rules give.
use mathlib.Core.Path.{◌≡◌, sym, subst, ◌∙◌}
use mathlib.Core.List.{List}
use Prim.Native.Nat.{ℕ, ◌+◌, ◌*◌}
use Rattle.numbers.specs.Lists.{at}
use Rattle.words.specs.Layout.{row}
use Rattle.words.specs.Contents.{Contents, contents}
use Rattle.words.proofs.Contents.{lengths}
use Rattle.dispatch.specs.Ended.{ended, MayFeed, Fed}
use Rattle.dispatch.specs.Finished.{MayFinish}
use Rattle.dispatch.proofs.Cells.{parent_column, row_read}
use Rattle.dispatch.proofs.Ending.{task_in, may-end, may-feed}
use Rattle.dispatch.proofs.Finishing.{may-release, may-climb, may_free, finishes}
use Rattle.dispatch.proofs.finish.Goals as goal

-- the parent that is read is the task's
parent-is :
    (w : List ℕ) {j p : ℕ} → MayFinish (contents w) j → p ≡ at w (row * j + parent_column) → p ≡ at (contents w).parents j
parent-is w {j} may read = read ∙ (row_read w j (task_in may (lengths w))).parent

-- it is fed, as the end of the task left the plan
fed :
    (w w₁ w₂ : List ℕ) {j p : ℕ}
    → MayFinish (contents w) j
    → p ≡ at w (row * j + parent_column)
    → contents w₁ ≡ ended j (contents w)
    → Fed p (contents w₁) (contents w₂)
    → Fed (at (contents w).parents j) (ended j (contents w)) (contents w₂)
fed w w₁ w₂ {j} {p} may read ends feeds =
    subst (λ (q : ℕ). Fed q (ended j (contents w)) (contents w₂)) (parent-is w may read)
    (subst (λ (d : Contents). Fed p d (contents w₂)) ends feeds)

pub end-requires : goal.end-requires
end-requires c = may-end c.requires.kept c.requires.task c.requires.runs

pub feed-requires : goal.feed-requires
feed-requires c =
    let w = c.args.plan.now.words in
    subst (λ (d : Contents). MayFeed c.cell-parent.result d) (sym c.end.ensures)
    (subst (λ (q : ℕ). MayFeed q (ended c.args.task (contents w))) (sym (parent-is w c.requires c.cell-parent.ensures))
    (may-feed c.requires (lengths w)))

pub release-units-requires : goal.release-units-requires
release-units-requires c =
    let w = c.args.plan.now.words in
    may-release c.requires (lengths w)
    (fed w c.end.new.plan.words c.feed.new.plan.words c.requires c.cell-parent.ensures c.end.ensures c.feed.ensures)

pub climb-passed-requires : goal.climb-passed-requires
climb-passed-requires c =
    let w = c.args.plan.now.words in
    may-climb c.requires (lengths w)
    (fed w c.end.new.plan.words c.feed.new.plan.words c.requires c.cell-parent.ensures c.end.ensures c.feed.ensures)
    c.release-units.ensures.0 c.release-units.ensures.1

pub free-requires : goal.free-requires
free-requires c =
    let w = c.args.plan.now.words in
    may_free c.requires (lengths w)
    (fed w c.end.new.plan.words c.feed.new.plan.words c.requires c.cell-parent.ensures c.end.ensures c.feed.ensures)
    c.release-units.ensures.0 c.release-units.ensures.1 c.climb-passed.ensures

pub returns : goal.returns
returns c =
    let w = c.args.plan.now.words in
    finishes c.requires (lengths w)
    (fed w c.end.new.plan.words c.feed.new.plan.words c.requires c.cell-parent.ensures c.end.ensures c.feed.ensures)
    c.release-units.ensures.0 c.release-units.ensures.1 c.climb-passed.ensures c.free.ensures
