use Rattle.std.proofs.Common.{refl}
use Rattle.air_field.proofs.matrices.view.RowMajorMatrixView.new_row.Goals as goal

pub returns : goal.returns
returns g c = record { values = refl; width = refl }
