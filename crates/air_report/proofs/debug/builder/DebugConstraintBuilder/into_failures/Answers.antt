use Rattle.std.proofs.Common.{refl}
use Rattle.air_report.proofs.debug.builder.DebugConstraintBuilder.into_failures.Goals as goal

pub returns : goal.returns
returns g c = refl
