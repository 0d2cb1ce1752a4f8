use Rattle.std.proofs.Common.{arith}
use Rattle.finding.proofs.Turn.{may-sort, linked-sorted, may-weigh, has-joined}
use Rattle.finding.proofs.joining.join.Goals as goal

pub sort_children-requires : goal.sort_children-requires
sort_children-requires c = may-sort _ _ _ _ _ _ c.requires

pub link_orders-requires : goal.link_orders-requires
link_orders-requires c =
    (linked-sorted _ _ _ _ _ _ c.requires _ c.sort_children.ensures, c.sort_children.ensures.long)

pub subtree_peak-peak-requires : goal.subtree_peak-peak-requires
subtree_peak-peak-requires c = may-weigh _ _ _ _ _ _ c.requires _ c.sort_children.ensures _ c.link_orders.ensures

pub put-requires : goal.put-requires
put-requires c =
    let small = c.requires.plan.small in
    let t = c.requires.task in
    let fits = (may-weigh _ _ _ _ _ _ c.requires _ c.sort_children.ensures _ c.link_orders.ensures).fits in
    (omega arith, rw c.subtree_peak-peak.ensures fits)

pub returns : goal.returns
returns c =
    has-joined _ _ _ _ _ _ c.requires _ c.sort_children.ensures _ c.link_orders.ensures _ _ c.subtree_peak-peak.ensures
    c.put.ensures
