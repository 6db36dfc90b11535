use Rattle.std.proofs.Common.{ap, Ok}
use Rattle.air_field.proofs.rings.ext_field_ring.ExtFieldRingAlgebra.add.Goals as goal

pub returns : goal.returns
returns g c = ap Ok c.add.ensures
