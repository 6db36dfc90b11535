use Rattle.air_field.specs.laws.Rows.{whole-rows}
use Rattle.air_field.proofs.matrices.matrix.RowMajorMatrix.values.Goals as goal

pub returns : goal.returns
returns g c = rw (← c.self.view_is, c.deref.ensures.value) (whole-rows c.self.inside.height c.self.inside.width c.self.inside.values.items c.self.invariant.0 c.self.invariant.1)
