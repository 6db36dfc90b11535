use Rattle.std.proofs.Common.{◌≡◌, ℕ, ◌<◌, length, map}
use Rattle.air_report.specs.Checks.{HasEntries}
use Rattle.air_report.specs.Instances.{instance, instance_trace}
use Rattle.air_report.specs.Report.{failure_place, report_of, IsReached, constraints_counted}
use Rattle.air_report.specs.RowLabels.{LabelledRows}
use Rattle.air_report.proofs.checks.check.check_rows.Given as goal

abbrev pub invariant-rows : goal.invariant-rows
invariant-rows g l =
    let all = instance (g.A.BaseAir.declaration l.fn.air) l.fn.main l.fn.public_values in
    let ts = all.air.constraints in
    let trace = instance_trace all in
    record {
      places : map failure_place l.builder.failures.items ≡ report_of g.F.Field.ring g.F.PartialEq.eq trace ts l.row;
      count : l.builder.constraint_index ≡ constraints_counted ts l.row;
      least : (k : ℕ) → k < l.row → IsReached l.max_failures (length (report_of g.F.Field.ring g.F.PartialEq.eq trace ts k)) → ⊥;
      there : 0 < l.row → HasEntries all;
      labelled : LabelledRows (g.A.Air.labels l.fn.air) l.row l.builder.failures.items;
    }
