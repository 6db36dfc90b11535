use Rattle.std.proofs.Common.{refl}
use Rattle.air_field.proofs.rings.ext_field_ring.ExtFieldRingFromVar.from_var.Goals as goal

pub returns : goal.returns
returns g c = refl
