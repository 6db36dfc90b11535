use Rattle.std.proofs.Common.{ap, Ok}
use Rattle.air_field.proofs.rings.ext_field_ring.ExtFieldRingExtAlgebra.lift.Goals as goal

pub returns : goal.returns
returns g c = ap Ok c.from_base.ensures
