use Rattle.air_report.specs.Shapes.{PeriodsFitBelow}
use Rattle.air_report.proofs.checks.shapes.check_shapes.Given as goal

abbrev pub invariant-loop-index : goal.invariant-loop-index
invariant-loop-index g l = PeriodsFitBelow l.columns l.height l.index
