use Rattle.std.proofs.Common.{refl}
use Rattle.air_core.proofs.names.name.RefStrName.evaluate.Goals as goal

pub returns : goal.returns
returns c = refl
