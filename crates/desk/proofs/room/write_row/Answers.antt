use Rattle.std.proofs.Common.{refl}
use Rattle.desk.proofs.Rowing.{row_written}
use Rattle.desk.proofs.room.write_row.Goals as goal

pub returns : goal.returns
returns c =
    let of = c.args.entry.now in (
      refl,
      row_written _ _ _ _ c.args.task of.parent of.work of.out c.requires c.set_cell.ensures c.set_cell-2.ensures
          c.set_cell-3.ensures,
    )
