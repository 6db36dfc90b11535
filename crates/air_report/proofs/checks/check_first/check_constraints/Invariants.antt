use Rattle.std.proofs.Common.{◌≡◌, ◌<◌, []}
use Rattle.air_report.specs.Checks.{HasEntries}
use Rattle.air_report.specs.Instances.{instance, instance_trace}
use Rattle.air_report.specs.Report.{report_of}
use Rattle.air_report.proofs.checks.check_first.check_constraints.Given as goal

abbrev pub invariant-rows : goal.invariant-rows
invariant-rows g l =
    let all = instance (g.A.BaseAir.declaration l.fn.air) l.fn.main l.fn.public_values in
    record {
      empty : l.builder.failures.items ≡ [];
      none : report_of g.F.Field.ring g.F.PartialEq.eq (instance_trace all) all.air.constraints l.row ≡ [];
      there : 0 < l.row → HasEntries all;
    }
