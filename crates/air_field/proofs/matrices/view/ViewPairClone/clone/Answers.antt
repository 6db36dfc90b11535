use Rattle.std.proofs.Common.{refl}
use Rattle.air_field.proofs.matrices.view.ViewPairClone.clone.Goals as goal

pub returns : goal.returns
returns g c = record { cases = refl }
