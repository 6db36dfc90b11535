use Rattle.std.proofs.Common.{refl}
use Rattle.air_field.proofs.rings.field_ring.FieldRingAlgebra.contains.Goals as goal

pub returns : goal.returns
returns g c = refl
