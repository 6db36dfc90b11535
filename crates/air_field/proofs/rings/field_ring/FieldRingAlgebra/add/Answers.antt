use Rattle.std.proofs.Common.{ap, Ok}
use Rattle.air_field.proofs.rings.field_ring.FieldRingAlgebra.add.Goals as goal

pub returns : goal.returns
returns g c = ap Ok c.add.ensures
