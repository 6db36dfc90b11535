use Rattle.air_report.specs.Cells.{HoldBelow}
use Rattle.air_report.proofs.checks.cells.first_violated.Given as goal

abbrev pub invariant-loop-index : goal.invariant-loop-index
invariant-loop-index g l = HoldBelow g.F.Field.ring g.F.PartialEq.eq l.main l.public_values l.cells l.index
