use Rattle.std.proofs.Common.{refl}
use Rattle.air_field.proofs.rings.field_ring.FieldRingAlgebra.constant.Goals as goal

pub returns : goal.returns
returns g c = refl
