use Rattle.std.proofs.Common.{ap}
use Rattle.air_field.proofs.matrices.matrix.RowMajorMatrix.width.Goals as goal

pub returns : goal.returns
returns g c = ap (λ m. m.width) c.self.view_is
