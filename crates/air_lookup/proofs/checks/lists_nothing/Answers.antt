use Rattle.std.proofs.Common.{◌≡◌, []}
use Rattle.std.proofs.lemmas.Result.{err_from_is_err_and}
use Rattle.air_report.specs.Instances.{instance}
use Rattle.air_report.specs.Permuted.{permutation_trace, permuted_zero, PermutedMissing}
use Rattle.air_report.specs.laws.VanishingChecks.{nothing_listed, none_violated, lists_none}
use Rattle.air_lookup.proofs.checks.lists_nothing.Goals as goal

pub returns-in_err-report-clause-nothing : goal.returns-in_err-report-clause-nothing
returns-in_err-report-clause-nothing g c =
    let p = err_from_is_err_and c.from_residual.result c.from_residual.ensures.1 in
    rw p.1 tt

pub returns-in_err-report-clause-refused : goal.returns-in_err-report-clause-refused
returns-in_err-report-clause-refused g c =
    let p = err_from_is_err_and c.from_residual.result c.from_residual.ensures.1 in
    rw (p.1, p.2) c.in_err-report.ensures.refused

pub returns-clause-nothing : goal.returns-clause-nothing
returns-clause-nothing g c =
    let r = g.F.Field.ring in
    let eq = g.F.PartialEq.eq in
    let all = instance (g.A.BaseAir.declaration c.args.air.now) c.args.main.now c.args.public_values.now in
    let p = permutation_trace c.args.permutation in
    let zero_at = permuted_zero r g.EF.ExtensionField.over eq g.EF.PartialEq.eq all p in
    let missing = PermutedMissing all p in
    let report = c.in_ok-report.report in
    let is = c.in_ok-report.ensures.report in (
      λ told. let empty : report.failures.items ≡ [] = c.is_ok.ensures.0 told in (
        record { height = c.in_ok-report.ensures.height; nothing = nothing_listed r eq zero_at missing all report is empty },
        none_violated r eq zero_at missing all report is empty,
      ),
      λ h. c.is_ok.ensures.1 (lists_none r eq zero_at missing all report is h.0.nothing h.1),
    )
