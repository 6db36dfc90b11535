use Rattle.std.proofs.Common.{ap, Some}
use Rattle.air_report.proofs.checks.cells.cell_failure.Goals as goal

pub returns-clause-label : goal.returns-clause-label
returns-clause-label c = ap Some c.in_ok-label.ensures.ok
