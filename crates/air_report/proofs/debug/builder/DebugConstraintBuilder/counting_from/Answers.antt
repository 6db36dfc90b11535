use Rattle.std.proofs.Common.{refl}
use Rattle.air_report.proofs.debug.builder.DebugConstraintBuilder.counting_from.Goals as goal

pub returns : goal.returns
returns g c = refl
