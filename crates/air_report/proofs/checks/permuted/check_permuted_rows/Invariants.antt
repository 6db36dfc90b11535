use Rattle.std.proofs.Common.{◌≡◌, ℕ, ◌<◌, length, map}
use Rattle.air_builder.specs.Refusals.{NoneMissing}
use Rattle.air_report.specs.Instances.{instance}
use Rattle.air_report.specs.Permuted.{permutation_trace, permuted_zero, PermutedMissing}
use Rattle.air_report.specs.Report.{failure_place, report_by, IsReached, constraints_counted}
use Rattle.air_report.proofs.checks.permuted.check_permuted_rows.Given as goal

abbrev pub invariant-rows : goal.invariant-rows
invariant-rows g l =
    let all = instance (g.A.BaseAir.declaration l.fn.air) l.fn.main l.fn.public_values in
    let p = permutation_trace l.fn.permutation in
    let ts = all.air.constraints in
    let zero_at = permuted_zero g.F.Field.ring g.EF.ExtensionField.over g.F.PartialEq.eq g.EF.PartialEq.eq all p in
    record {
      places : map failure_place l.builder.failures.items ≡ report_by zero_at ts l.row;
      count : l.builder.constraint_index ≡ constraints_counted ts l.row;
      least : (k : ℕ) → k < l.row → IsReached l.max_failures (length (report_by zero_at ts k)) → ⊥;
      there : 0 < l.row → NoneMissing (PermutedMissing all p) ts;
    }
