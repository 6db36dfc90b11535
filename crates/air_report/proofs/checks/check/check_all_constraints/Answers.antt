use Rattle.std.proofs.Common.{ap, subst, inl, inr, ◌∙◌}
use Rattle.std.proofs.lemmas.Result.{err_from_is_err_and}
use Rattle.air_report.specs.Cells.{CellsFit, IsCellFault}
use Rattle.air_report.specs.Checks.{CheckRefuses, TraceMissing}
use Rattle.air_report.specs.Instances.{instance, instance_trace}
use Rattle.air_report.specs.Report.{zero_at}
use Rattle.air_report.specs.Shapes.{table_height}
use Rattle.air_report.proofs.GivenUp.{error_is, instance_fits, instance_fault, cells_refused}
use Rattle.air_report.proofs.Reports.{listed_after}
use Rattle.air_report.proofs.RowsLabelled.{labels_rows}
use Rattle.air_report.proofs.checks.check.check_all_constraints.Goals as goal

pub returns-in_err-check_shapes-clause-report : goal.returns-in_err-check_shapes-clause-report
returns-in_err-check_shapes-clause-report g c =
    let p = err_from_is_err_and c.from_residual.result c.from_residual.ensures.1 in
    rw p.1 tt

pub returns-in_err-check_shapes-clause-refused : goal.returns-in_err-check_shapes-clause-refused
returns-in_err-check_shapes-clause-refused g c =
    let all = instance (g.A.BaseAir.declaration c.args.air.now) c.args.main.now c.args.public_values.now in
    error_is c.from_residual.result c.from_residual.ensures.1 (CheckRefuses g.F.Field.ring g.F.PartialEq.eq all c.args.max_failures)
    (inl (instance_fault all c.periodic_columns.ensures c.height-total_rows.ensures (c.table_height.ensures ∙ ap table_height c.preprocessed_trace.ensures) c.in_err-check_shapes.field-0.0 c.in_err-check_shapes.ensures))

pub returns-in_err-checked-clause-report : goal.returns-in_err-checked-clause-report
returns-in_err-checked-clause-report g c =
    let p = err_from_is_err_and c.from_residual-in_err-checked.result c.from_residual-in_err-checked.ensures.1 in
    rw p.1 tt

pub returns-in_err-checked-clause-refused : goal.returns-in_err-checked-clause-refused
returns-in_err-checked-clause-refused g c =
    let all = instance (g.A.BaseAir.declaration c.args.air.now) c.args.main.now c.args.public_values.now in
    let fits = instance_fits all c.periodic_columns.ensures c.height-total_rows.ensures (c.table_height.ensures ∙ ap table_height c.preprocessed_trace.ensures) c.in_ok-check_shapes.ensures in
    error_is c.from_residual-in_err-checked.result c.from_residual-in_err-checked.ensures.1 (CheckRefuses g.F.Field.ring g.F.PartialEq.eq all c.args.max_failures)
    (inr (fits, inl c.in_err-checked.ensures.refused))

pub returns-in_err-check_cells-clause-report : goal.returns-in_err-check_cells-clause-report
returns-in_err-check_cells-clause-report g c =
    let p = err_from_is_err_and c.from_residual-in_err-check_cells.result c.from_residual-in_err-check_cells.ensures.1 in
    rw p.1 tt

pub returns-in_err-check_cells-clause-refused : goal.returns-in_err-check_cells-clause-refused
returns-in_err-check_cells-clause-refused g c =
    let all = instance (g.A.BaseAir.declaration c.args.air.now) c.args.main.now c.args.public_values.now in
    let fits = instance_fits all c.periodic_columns.ensures c.height-total_rows.ensures (c.table_height.ensures ∙ ap table_height c.preprocessed_trace.ensures) c.in_ok-check_shapes.ensures in
    let checked = c.in_ok-checked.ensures.checked in
    error_is c.from_residual-in_err-check_cells.result c.from_residual-in_err-check_cells.ensures.1 (CheckRefuses g.F.Field.ring g.F.PartialEq.eq all c.args.max_failures)
    (inr (fits, inr (inl (checked.shown, checked.ran, subst (λ cs. IsCellFault all.main all.public cs c.in_err-check_cells.field-0.0) c.public_boundary_io-cells.ensures c.in_err-check_cells.ensures.refused))))

pub list_cells-requires : goal.list_cells-requires
list_cells-requires g c = c.in_ok-check_cells.ensures.fit

pub returns-in_err-list_cells-clause-report : goal.returns-in_err-list_cells-clause-report
returns-in_err-list_cells-clause-report g c =
    let p = err_from_is_err_and c.from_residual-in_err-list_cells.result c.from_residual-in_err-list_cells.ensures.1 in
    rw p.1 tt

pub returns-in_err-list_cells-clause-refused : goal.returns-in_err-list_cells-clause-refused
returns-in_err-list_cells-clause-refused g c =
    let all = instance (g.A.BaseAir.declaration c.args.air.now) c.args.main.now c.args.public_values.now in
    let fits = instance_fits all c.periodic_columns.ensures c.height-total_rows.ensures (c.table_height.ensures ∙ ap table_height c.preprocessed_trace.ensures) c.in_ok-check_shapes.ensures in
    let checked = c.in_ok-checked.ensures.checked in
    let cells = subst (λ cs. CellsFit all.main all.public cs) c.public_boundary_io-cells.ensures c.in_ok-check_cells.ensures.fit in
    error_is c.from_residual-in_err-list_cells.result c.from_residual-in_err-list_cells.ensures.1 (CheckRefuses g.F.Field.ring g.F.PartialEq.eq all c.args.max_failures)
    (inr (
      fits,
      cells_refused g.F.Field.ring g.F.PartialEq.eq (zero_at g.F.Field.ring g.F.PartialEq.eq (instance_trace all)) (TraceMissing all) all c.args.max_failures checked.shown c.in_ok-checked.checked.failures.items c.in_ok-checked.checked.constraints _
          c.in_err-list_cells.field-0.0 checked.ran cells checked.places checked.counted c.public_boundary_io-cells.ensures c.in_err-list_cells.ensures.refused,
    ))

pub returns-clause-report : goal.returns-clause-report
returns-clause-report g c =
    let all = instance (g.A.BaseAir.declaration c.args.air.now) c.args.main.now c.args.public_values.now in
    let checked = c.in_ok-checked.ensures.checked in
    record {
      shapes = instance_fits all c.periodic_columns.ensures c.height-total_rows.ensures (c.table_height.ensures ∙ ap table_height c.preprocessed_trace.ensures) c.in_ok-check_shapes.ensures;
      shown = checked.shown;
      ran = checked.ran;
      cells = subst (λ cs. CellsFit all.main all.public cs) c.public_boundary_io-cells.ensures c.in_ok-check_cells.ensures.fit;
      of_rows = c.in_ok-checked.checked.failures.items;
      places = checked.places;
      lists = listed_after g.F.Field.ring g.F.PartialEq.eq (zero_at g.F.Field.ring g.F.PartialEq.eq (instance_trace all)) all c.args.max_failures checked.shown c.in_ok-checked.checked.failures.items _ c.in_ok-checked.checked.constraints _ checked.places checked.counted c.public_boundary_io-cells.ensures c.in_ok-list_cells.ensures.listed;
      rows = c.height-total_rows.ensures;
      count = checked.counted;
    }

pub returns-in_err-check_shapes-clause-labels : goal.returns-in_err-check_shapes-clause-labels
returns-in_err-check_shapes-clause-labels g c =
    let p = err_from_is_err_and c.from_residual.result c.from_residual.ensures.1 in
    rw p.1 tt

pub returns-in_err-checked-clause-labels : goal.returns-in_err-checked-clause-labels
returns-in_err-checked-clause-labels g c =
    let p = err_from_is_err_and c.from_residual-in_err-checked.result c.from_residual-in_err-checked.ensures.1 in
    rw p.1 tt

pub returns-in_err-check_cells-clause-labels : goal.returns-in_err-check_cells-clause-labels
returns-in_err-check_cells-clause-labels g c =
    let p = err_from_is_err_and c.from_residual-in_err-check_cells.result c.from_residual-in_err-check_cells.ensures.1 in
    rw p.1 tt

pub returns-in_err-list_cells-clause-labels : goal.returns-in_err-list_cells-clause-labels
returns-in_err-list_cells-clause-labels g c =
    let p = err_from_is_err_and c.from_residual-in_err-list_cells.result c.from_residual-in_err-list_cells.ensures.1 in
    rw p.1 tt

pub returns-clause-labels : goal.returns-clause-labels
returns-clause-labels g c =
    let all = instance (g.A.BaseAir.declaration c.args.air.now) c.args.main.now c.args.public_values.now in
    labels_rows g.F.Field.ring g.F.PartialEq.eq all c.args.max_failures (g.A.Air.labels c.args.air.now) _ _ _ _
    c.in_ok-checked.ensures.labels c.in_ok-list_cells.ensures.listed.failures
