use Rattle.std.proofs.Common.{sym}
use Rattle.air_field.specs.laws.Rows.{length-rows_of}
use Rattle.air_field.proofs.matrices.matrix.RowMajorMatrix.height.Goals as goal

pub returns : goal.returns
returns g c = rw (← c.self.view_is) (sym (length-rows_of _ _ _))
