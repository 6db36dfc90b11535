use Rattle.std.proofs.Common.{refl}
use Rattle.air_core.proofs.errors.AirErrorFromRingError.from.Goals as goal

pub returns-in-Memory : goal.returns-in-Memory
returns-in-Memory c = rw c.in-Memory.is refl

pub returns-in-DegreeOverflow : goal.returns-in-DegreeOverflow
returns-in-DegreeOverflow c = rw c.in-DegreeOverflow.is refl
