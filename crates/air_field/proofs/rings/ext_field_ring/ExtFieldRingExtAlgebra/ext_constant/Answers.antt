use Rattle.std.proofs.Common.{refl}
use Rattle.air_field.proofs.rings.ext_field_ring.ExtFieldRingExtAlgebra.ext_constant.Goals as goal

pub returns : goal.returns
returns g c = refl
