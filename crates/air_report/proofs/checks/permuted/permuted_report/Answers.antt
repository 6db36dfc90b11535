use Rattle.std.proofs.Common.{subst, inl, inr}
use Rattle.std.proofs.lemmas.Result.{err_from_is_err_and}
use Rattle.air_report.specs.Cells.{CellsFit, IsCellFault}
use Rattle.air_report.specs.Instances.{instance}
use Rattle.air_report.specs.Permuted.{permutation_trace, permuted_zero, PermutedMissing}
use Rattle.air_report.specs.ReportBy.{RefusesAfterShapesBy}
use Rattle.air_report.proofs.GivenUp.{error_is, cells_refused}
use Rattle.air_report.proofs.Reports.{listed_after}
use Rattle.air_report.proofs.checks.permuted.permuted_report.Goals as goal

pub returns-in_err-checked-clause-report : goal.returns-in_err-checked-clause-report
returns-in_err-checked-clause-report g c =
    let p = err_from_is_err_and c.from_residual.result c.from_residual.ensures.1 in
    rw p.1 tt

pub returns-in_err-checked-clause-refused : goal.returns-in_err-checked-clause-refused
returns-in_err-checked-clause-refused g c =
    let all = instance (g.A.BaseAir.declaration c.args.air.now) c.args.main.now c.args.public_values.now in
    let p = permutation_trace c.args.permutation in
    let zero_at = permuted_zero g.F.Field.ring g.EF.ExtensionField.over g.F.PartialEq.eq g.EF.PartialEq.eq all p in
    error_is c.from_residual.result c.from_residual.ensures.1
    (RefusesAfterShapesBy g.F.Field.ring g.F.PartialEq.eq zero_at (PermutedMissing all p) all c.args.max_failures)
    (inl c.in_err-checked.ensures.refused)

pub returns-in_err-check_cells-clause-report : goal.returns-in_err-check_cells-clause-report
returns-in_err-check_cells-clause-report g c =
    let p = err_from_is_err_and c.from_residual-in_err-check_cells.result c.from_residual-in_err-check_cells.ensures.1 in
    rw p.1 tt

pub returns-in_err-check_cells-clause-refused : goal.returns-in_err-check_cells-clause-refused
returns-in_err-check_cells-clause-refused g c =
    let all = instance (g.A.BaseAir.declaration c.args.air.now) c.args.main.now c.args.public_values.now in
    let p = permutation_trace c.args.permutation in
    let zero_at = permuted_zero g.F.Field.ring g.EF.ExtensionField.over g.F.PartialEq.eq g.EF.PartialEq.eq all p in
    let checked = c.in_ok-checked.ensures.checked in
    let fault = subst (λ cs. IsCellFault all.main all.public cs c.in_err-check_cells.field-0.0) c.public_boundary_io-cells.ensures
    c.in_err-check_cells.ensures.refused in
    error_is c.from_residual-in_err-check_cells.result c.from_residual-in_err-check_cells.ensures.1
    (RefusesAfterShapesBy g.F.Field.ring g.F.PartialEq.eq zero_at (PermutedMissing all p) all c.args.max_failures)
    (inr (inl (checked.shown, checked.ran, fault)))

pub list_cells-requires : goal.list_cells-requires
list_cells-requires g c = c.in_ok-check_cells.ensures.fit

pub returns-in_err-list_cells-clause-report : goal.returns-in_err-list_cells-clause-report
returns-in_err-list_cells-clause-report g c =
    let p = err_from_is_err_and c.from_residual-in_err-list_cells.result c.from_residual-in_err-list_cells.ensures.1 in
    rw p.1 tt

pub returns-in_err-list_cells-clause-refused : goal.returns-in_err-list_cells-clause-refused
returns-in_err-list_cells-clause-refused g c =
    let r = g.F.Field.ring in
    let eq = g.F.PartialEq.eq in
    let all = instance (g.A.BaseAir.declaration c.args.air.now) c.args.main.now c.args.public_values.now in
    let p = permutation_trace c.args.permutation in
    let zero_at = permuted_zero r g.EF.ExtensionField.over eq g.EF.PartialEq.eq all p in
    let checked = c.in_ok-checked.ensures.checked in
    let fit = subst (λ cs. CellsFit all.main all.public cs) c.public_boundary_io-cells.ensures c.in_ok-check_cells.ensures.fit in
    error_is c.from_residual-in_err-list_cells.result c.from_residual-in_err-list_cells.ensures.1
    (RefusesAfterShapesBy r eq zero_at (PermutedMissing all p) all c.args.max_failures)
    (cells_refused r eq zero_at (PermutedMissing all p) all c.args.max_failures checked.shown c.in_ok-checked.checked.failures.items
    c.in_ok-checked.checked.constraints _ c.in_err-list_cells.field-0.0 checked.ran fit checked.places checked.counted
    c.public_boundary_io-cells.ensures c.in_err-list_cells.ensures.refused)

pub returns-clause-report : goal.returns-clause-report
returns-clause-report g c =
    let r = g.F.Field.ring in
    let eq = g.F.PartialEq.eq in
    let all = instance (g.A.BaseAir.declaration c.args.air.now) c.args.main.now c.args.public_values.now in
    let zero_at = permuted_zero r g.EF.ExtensionField.over eq g.EF.PartialEq.eq all (permutation_trace c.args.permutation) in
    let checked = c.in_ok-checked.ensures.checked in
    record {
      shapes = c.requires.fits;
      shown = checked.shown;
      ran = checked.ran;
      cells = subst (λ cs. CellsFit all.main all.public cs) c.public_boundary_io-cells.ensures c.in_ok-check_cells.ensures.fit;
      of_rows = c.in_ok-checked.checked.failures.items;
      places = checked.places;
      lists = listed_after r eq zero_at all c.args.max_failures checked.shown c.in_ok-checked.checked.failures.items _
          c.in_ok-checked.checked.constraints _ checked.places checked.counted c.public_boundary_io-cells.ensures c.in_ok-list_cells.ensures.listed;
      rows = c.height.ensures;
      count = checked.counted;
    }
