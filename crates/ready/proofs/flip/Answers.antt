-- `flip` meets its contract.
use mathlib.Core.Path.{◌≡◌, ◌∙◌}
use mathlib.Core.Logic.{⊎_elim, inl, inr}
use Prim.Native.Nat.{ℕ, ◌*◌, ◌%◌, ◌^◌, ◌<◌}
use native.Mathlib.Omega.{arith}
use lib.Pow.{shl_exact}
use Rattle.words.specs.Layout.{bits}
use Rattle.ready.proofs.Changing.{flipped-once, flipped-twice}
use Rattle.ready.proofs.flip.Goals as goal

-- a bit that is not shifted out of the word
shifted : (k : ℕ) → k < bits → (1 * 2 ^ k) % 2 ^ bits ≡ 2 ^ k
shifted k h = shl_exact {a = 1} 1 k bits (omega arith) (omega arith) ∙ omega arith

pub returns-then-word-eq0 : goal.returns-then-word-eq0
returns-then-word-eq0 c =
    flipped-twice c.args.plan.now.words c.args.place c.requires.0 c.requires.1 c.entry-word.ensures
    (shifted _ (omega arith)) c.set_entry.ensures (⊎_elim (λ z. inl z) (λ z. inr z.1) c.then-word-eq0.either)
    c.entry-filled.ensures (shifted _ (omega arith)) c.set_entry-then-word-eq0.ensures

pub returns-else-flipped-eq0 : goal.returns-else-flipped-eq0
returns-else-flipped-eq0 c =
    flipped-once c.args.plan.now.words c.args.place c.requires.0 c.requires.1 c.entry-word.ensures
    (shifted _ (omega arith)) c.set_entry.ensures c.if-word-eq0.false c.if-flipped-eq0.false
