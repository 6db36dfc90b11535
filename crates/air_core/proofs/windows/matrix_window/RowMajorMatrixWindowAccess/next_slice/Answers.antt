use Rattle.air_core.proofs.WindowRows.{second_is}
use Rattle.air_core.proofs.windows.matrix_window.RowMajorMatrixWindowAccess.next_slice.Goals as goal

pub returns : goal.returns
returns g c = second_is c.args.self.now c.requires c.in-Some.row.now c.in-Some.ensures.row
