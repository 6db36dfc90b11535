use Rattle.air_core.proofs.WindowRows.{first_is}
use Rattle.air_core.proofs.windows.matrix_window.RowMajorMatrixWindowAccess.current_slice.Goals as goal

pub returns : goal.returns
returns g c = first_is c.args.self.now c.requires c.in-Some.row.now c.in-Some.ensures.row
