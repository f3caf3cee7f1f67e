-- The effect and the object after the call of the row are those of the row at the object of this number.
use Rattle.std.proofs.Common.{refl, slice_index_or}
use Rattle.std.specs.Fn.{FnOnceReturnsAtMut}
use Rattle.sync_objects.proofs.Rows.{row_at-done}
use Rattle.sync_objects.proofs.table.row_at.Goals as goal

pub returns : goal.returns
returns g c = λ free done is.
    let given = c.index-cells-number.result in
    let old = slice_index_or c.args.cells.now c.args.number given in
    let gave : FnOnceReturnsAtMut g.R.FnOnce c.args.row old c.row.result c.row.new.arg2 =
    record { shown = _; shows = refl; left = _; met = c.row.ensures; leaves = refl } in
    row_at-done free given done c.args.cells.now c.args.number c.row.result c.row.new.arg2 c.if-number-ge-OBJECTS.false
    c.told-cells (is _ _ _ gave)
