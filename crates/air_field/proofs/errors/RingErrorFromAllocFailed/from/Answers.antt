use Rattle.std.proofs.Common.{refl}
use Rattle.air_field.proofs.errors.RingErrorFromAllocFailed.from.Goals as goal

pub returns : goal.returns
returns g c = refl
