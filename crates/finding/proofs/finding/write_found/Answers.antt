use Rattle.std.proofs.Common.{◌∙◌}
use Rattle.finding.proofs.Whole.{may-arrange, same-root, may_write, found-written}
use Rattle.finding.proofs.finding.write_found.Goals as goal

pub arrange-requires : goal.arrange-requires
arrange-requires c = (c.requires.0, may-arrange _ _ _ _ _ _ c.requires.1)

pub write_order-requires : goal.write_order-requires
write_order-requires c =
    let root = c.get-root.ensures.0 ∙ same-root _ _ _ _ _ _ c.requires.1 _ c.arrange.ensures in
    rw (root, c.requires.0) (may_write _ _ _ _ _ _ c.requires.1 _ c.arrange.ensures)

pub returns : goal.returns
returns c =
    let root = c.get-root.ensures.0 ∙ same-root _ _ _ _ _ _ c.requires.1 _ c.arrange.ensures in
    found-written _ _ _ _ _ _ c.requires.1 _ c.arrange.ensures _ _ _ c.requires.0 root c.write_order.ensures
