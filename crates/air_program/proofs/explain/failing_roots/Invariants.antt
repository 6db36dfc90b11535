use Rattle.std.proofs.Common.{◌≡◌, map, take}
use Rattle.air_report.specs.FailureTexts.{seen_failure}
use Rattle.air_program.specs.Explained.{failing_roots}
use Rattle.air_program.proofs.explain.failing_roots.Given as goal

-- the constraints of the failures so far
abbrev pub invariant-loop-failure : goal.invariant-loop-failure
invariant-loop-failure g l = l.failing.items ≡ failing_roots l.roots (map seen_failure (take l.failure-index l.failures))
