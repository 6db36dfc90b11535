use Rattle.air_report.proofs.EmptyLists.{empty_exactly}
use Rattle.air_report.proofs.checks.report.ConstraintReport.is_ok.Goals as goal

pub returns : goal.returns
returns c = empty_exactly c.args.self.now.failures.items _ c.is_empty.result c.args.self.now.failures.ok.0 c.is_empty.ensures
