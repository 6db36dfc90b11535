use Rattle.std.proofs.Common.{refl}
use Rattle.air_core.proofs.errors.AirErrorFromBoundaryIoError.from.Goals as goal

pub returns : goal.returns
returns c = refl
