use Rattle.std.proofs.Common.{◌≡◌, map, take}
use Rattle.air_report.specs.FailureTexts.{seen_failure}
use Rattle.air_report.proofs.checks.report.ConstraintReport.clone.Given as goal

abbrev pub invariant-loop-failure : goal.invariant-loop-failure
invariant-loop-failure l = map seen_failure l.failures.items ≡ map seen_failure (take l.failure-index l.failure-items)
