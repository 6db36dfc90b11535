use Rattle.air_report.proofs.EmptyLists.{other_exactly}
use Rattle.air_report.proofs.debug.builder.DebugConstraintBuilder.has_failures.Goals as goal

pub returns : goal.returns
returns g c = other_exactly c.args.self.now.failures.items _ c.is_empty.result c.args.self.now.failures.ok.0 c.is_empty.ensures
