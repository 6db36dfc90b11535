use Rattle.std.proofs.Common.{rules, refl, ◌≡◌, ◌+◌, [], map, ap, sym, subst, ◌∙◌, arith, ◌<◌, inl, inr}
use Rattle.std.proofs.lemmas.Grind.{common_steps}
use Rattle.std.proofs.lemmas.Result.{err_from_is_err_and}
use Rattle.air_report.specs.Cells.{CellsFit, IsCellFault}
use Rattle.air_report.specs.Checks.{IsFirstError}
use Rattle.air_report.specs.Instances.{instance, instance_trace, row_count}
use Rattle.air_report.specs.Report.{failure_place, report_of, zero_at}
use Rattle.air_report.specs.RowLabels.{LabelledRow, LabelsFailedRow}
use Rattle.air_report.specs.Shapes.{table_height}
use Rattle.air_report.proofs.GivenUp.{error_is, instance_fits, instance_fault}
use Rattle.air_report.proofs.Reports.{checked_more}
use Rattle.air_report.proofs.checks.check_first.check_constraints.Goals as goal

pub returns-then-has_failures-clause-error : goal.returns-then-has_failures-clause-error
returns-then-has_failures-clause-error g c =
    let r = g.F.Field.ring in
    let eq = g.F.PartialEq.eq in
    let all = instance (g.A.BaseAir.declaration c.args.air.now) c.args.main.now c.args.public_values.now in
    record {
      shapes = instance_fits all c.periodic_columns.ensures c.height-height.ensures (c.table_height.ensures ∙ ap table_height c.preprocessed_trace.ensures) c.in_ok-check_shapes.ensures;
      cells = record { fit = subst (λ cs. CellsFit all.main all.public cs) c.public_boundary_io-cells.ensures c.in_ok-check_cells.ensures.fit; hold = search rules };
      within = omega arith;
      before = c.rows.invariant.none;
      places = ap (λ v. map failure_place v.items) c.into_failures.ensures
          ∙ checked_more (zero_at r eq (instance_trace all)) all.air.constraints c.rows.row _ _ _ c.in_ok-check_row.ensures.checked (ap (map failure_place) c.rows.invariant.empty ∙ sym c.rows.invariant.none);
      some = search rules;
      there = c.in_ok-check_row.ensures.there;
    }

pub rows-preserved : goal.rows-preserved
rows-preserved g c =
    let r = g.F.Field.ring in
    let eq = g.F.PartialEq.eq in
    let all = instance (g.A.BaseAir.declaration c.args.air.now) c.args.main.now c.args.public_values.now in
    let places : map failure_place c.check_row.new.builder.failures.items ≡ report_of r eq (instance_trace all) all.air.constraints (c.rows.row + 1) =
    checked_more (zero_at r eq (instance_trace all)) all.air.constraints c.rows.row _ _ _ c.in_ok-check_row.ensures.checked (ap (map failure_place) c.rows.invariant.empty ∙ sym c.rows.invariant.none) in
    let empty : c.check_row.new.builder.failures.items ≡ [] = grind (arith, common_steps) in
    record {
      none = sym places ∙ ap (map failure_place) empty;
      empty = empty;
      there = λ h. c.in_ok-check_row.ensures.there;
    }

pub returns-clause-kept : goal.returns-clause-kept
returns-clause-kept g c =
    let r = g.F.Field.ring in
    let eq = g.F.PartialEq.eq in
    let all = instance (g.A.BaseAir.declaration c.args.air.now) c.args.main.now c.args.public_values.now in
    let done : c.rows.row ≡ row_count all = omega arith in
    record {
      shapes = instance_fits all c.periodic_columns.ensures c.height-height.ensures (c.table_height.ensures ∙ ap table_height c.preprocessed_trace.ensures) c.in_ok-check_shapes.ensures;
      cells = record { fit = subst (λ cs. CellsFit all.main all.public cs) c.public_boundary_io-cells.ensures c.in_ok-check_cells.ensures.fit; hold = search rules };
      none = ap (λ n. report_of r eq (instance_trace all) all.air.constraints n) (sym done) ∙ c.rows.invariant.none;
      there = λ h. c.rows.invariant.there (subst (λ n. 0 < n) (sym done) h);
    }

pub returns-in_err-check_row-clause-error : goal.returns-in_err-check_row-clause-error
returns-in_err-check_row-clause-error g c =
    let r = g.F.Field.ring in
    let eq = g.F.PartialEq.eq in
    let all = instance (g.A.BaseAir.declaration c.args.air.now) c.args.main.now c.args.public_values.now in
    let fits = instance_fits all c.periodic_columns.ensures c.height-height.ensures (c.table_height.ensures ∙ ap table_height c.preprocessed_trace.ensures) c.in_ok-check_shapes.ensures in
    let fit = subst (λ cs. CellsFit all.main all.public cs) c.public_boundary_io-cells.ensures c.in_ok-check_cells.ensures.fit in
    let some : 0 < row_count all = omega arith in
    error_is c.from_residual-in_err-check_row.result c.from_residual-in_err-check_row.ensures.1 (IsFirstError r eq all)
    (inr (fits, inr (record { fit = fit; hold = search rules }, inr ((some, λ h. h), c.in_err-check_row.ensures.refused))))

pub returns-in_err-check_row-clause-kept : goal.returns-in_err-check_row-clause-kept
returns-in_err-check_row-clause-kept g c =
    let p = err_from_is_err_and c.from_residual-in_err-check_row.result c.from_residual-in_err-check_row.ensures.1 in
    rw p.1 tt

pub returns-in_err-check_shapes-clause-kept : goal.returns-in_err-check_shapes-clause-kept
returns-in_err-check_shapes-clause-kept g c =
    let p = err_from_is_err_and c.from_residual.result c.from_residual.ensures.1 in
    rw p.1 tt

pub returns-in_err-check_shapes-clause-error : goal.returns-in_err-check_shapes-clause-error
returns-in_err-check_shapes-clause-error g c =
    let all = instance (g.A.BaseAir.declaration c.args.air.now) c.args.main.now c.args.public_values.now in
    error_is c.from_residual.result c.from_residual.ensures.1 (IsFirstError g.F.Field.ring g.F.PartialEq.eq all)
    (inl (instance_fault all c.periodic_columns.ensures c.height-height.ensures (c.table_height.ensures ∙ ap table_height c.preprocessed_trace.ensures) c.in_err-check_shapes.field-0.0 c.in_err-check_shapes.ensures))

pub returns-in_err-check_cells-clause-kept : goal.returns-in_err-check_cells-clause-kept
returns-in_err-check_cells-clause-kept g c =
    let p = err_from_is_err_and c.from_residual-in_err-check_cells.result c.from_residual-in_err-check_cells.ensures.1 in
    rw p.1 tt

pub returns-in_err-check_cells-clause-error : goal.returns-in_err-check_cells-clause-error
returns-in_err-check_cells-clause-error g c =
    let all = instance (g.A.BaseAir.declaration c.args.air.now) c.args.main.now c.args.public_values.now in
    let fits = instance_fits all c.periodic_columns.ensures c.height-height.ensures (c.table_height.ensures ∙ ap table_height c.preprocessed_trace.ensures) c.in_ok-check_shapes.ensures in
    error_is c.from_residual-in_err-check_cells.result c.from_residual-in_err-check_cells.ensures.1 (IsFirstError g.F.Field.ring g.F.PartialEq.eq all)
    (inr (fits, inl (subst (λ cs. IsCellFault all.main all.public cs c.in_err-check_cells.field-0.0) c.public_boundary_io-cells.ensures c.in_err-check_cells.ensures.refused)))

pub first_violated-requires : goal.first_violated-requires
first_violated-requires g c = c.in_ok-check_cells.ensures.fit

pub rows-init : goal.rows-init
rows-init g c = record {
  empty = c.at_no_row-builder.ensures.failures;
  none = refl;
  there = λ h. absurd (omega (arith, h));
}

pub returns-then-has_failures-clause-labels : goal.returns-then-has_failures-clause-labels
returns-then-has_failures-clause-labels g c =
    let says = g.A.Air.labels c.args.air.now in
    subst (λ v. LabelledRow says c.rows.row [] v.items) (sym c.into_failures.ensures)
    (subst (λ fs. LabelledRow says c.rows.row fs c.check_row.new.builder.failures.items) c.rows.invariant.empty c.in_ok-check_row.ensures.labels)

pub returns-in_err-check_row-clause-labels : goal.returns-in_err-check_row-clause-labels
returns-in_err-check_row-clause-labels g c =
    error_is c.from_residual-in_err-check_row.result c.from_residual-in_err-check_row.ensures.1 (LabelsFailedRow (g.A.Air.labels c.args.air.now)) tt

pub returns-in_err-check_shapes-clause-labels : goal.returns-in_err-check_shapes-clause-labels
returns-in_err-check_shapes-clause-labels g c =
    error_is c.from_residual.result c.from_residual.ensures.1 (LabelsFailedRow (g.A.Air.labels c.args.air.now)) tt

pub returns-in_err-check_cells-clause-labels : goal.returns-in_err-check_cells-clause-labels
returns-in_err-check_cells-clause-labels g c =
    error_is c.from_residual-in_err-check_cells.result c.from_residual-in_err-check_cells.ensures.1 (LabelsFailedRow (g.A.Air.labels c.args.air.now)) tt
