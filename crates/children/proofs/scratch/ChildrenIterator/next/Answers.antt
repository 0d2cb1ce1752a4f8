use Rattle.std.proofs.Common.{◌≡◌, [], ◌∷◌, sym, ◌∙◌, arith, rules}
use Rattle.children.specs.Linked.{linked_from}
use Rattle.children.proofs.Walking.{from-end, from-task, from-split, from-next}
use Rattle.children.proofs.scratch.ChildrenIterator.next.Goals as goal

pub returns-then-self-eq0-clause-steps : goal.returns-then-self-eq0-clause-steps
returns-then-self-eq0-clause-steps c =
    let none : c.args.self.now ≡ [] = sym c.self.view_is ∙ from-end _ _ c.self.invariant c.if-self-eq0.true in
    (none, none)

pub get-self-inside-requires : goal.get-self-inside-requires
get-self-inside-requires c = omega (arith, from-task _ _ c.self.invariant c.if-self-eq0.false)

pub invariant_of-self : goal.invariant_of-self
invariant_of-self c = from-next _ _ c.self.invariant c.if-self-eq0.false _ c.get-self-inside.ensures.0

pub returns-clause-steps : goal.returns-clause-steps
returns-clause-steps c = sym c.self.view_is ∙ from-split _ _ c.self.invariant c.if-self-eq0.false _ c.get-self-inside.ensures.0

pub returns-clause-goes : goal.returns-clause-goes
returns-clause-goes c =
    let split : c.args.self.now ≡ c.self.inside.next ∷ linked_from c.self.inside.scratch.now.cells c.get-self-inside.result
    = sym c.self.view_is ∙ from-split _ _ c.self.invariant c.if-self-eq0.false _ c.get-self-inside.ensures.0 in
    search rules
