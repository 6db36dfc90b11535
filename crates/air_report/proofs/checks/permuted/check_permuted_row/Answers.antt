use Rattle.std.proofs.Common.{◌≡◌, map, Some, OnOk, refl, ap, subst, ◌∙◌}
use Rattle.std.proofs.lemmas.Result.{err_from_is_err_and, on_ok_weaker, IfErr-weaker}
use Rattle.air_field.specs.Assignment.{IsMissing}
use Rattle.air_core.specs.Periodic.{column_at, RefusesPeriodicRow}
use Rattle.air_core.specs.Selectors.{row_selectors}
use Rattle.air_builder.specs.Refusals.{NoneMissing}
use Rattle.air_report.specs.Debug.{is_zero_at}
use Rattle.air_report.specs.Instances.{instance}
use Rattle.air_report.specs.Permuted.{permutation_trace, permuted_zero, PermutedMissing}
use Rattle.air_report.proofs.PermutedRowsAt.{permuted_is, permuted_shape_is}
use Rattle.air_report.proofs.RowsAt.{row_at-given, checked_by, shape-given, row_refusal, periodic_refusal}
use Rattle.air_report.proofs.checks.permuted.check_permuted_row.Goals as goal

pub returns-clause-checked : goal.returns-clause-checked
returns-clause-checked g c =
    let r = g.F.Field.ring in
    let all = instance (g.A.BaseAir.declaration c.args.air.now) c.args.main.now c.args.public_values.now in
    let p = permutation_trace c.args.permutation in
    let columns = all.air.periodic in
    let periodic : map Some c.fill_periodic_row.new.values.items ≡ map (column_at c.args.row) columns =
    rw (← c.periodic_columns.ensures) c.in_ok-fill_periodic_row.ensures.filled in
    let held = row_at-given all c.new.ensures c.move_to_permuted.ensures c.preprocessed_trace.ensures periodic r c.requires.fits
    c.row_pair.ensures.top c.row_pair.ensures.bottom c.table_pair.ensures.top c.table_pair.ensures.bottom
    (c.at.ensures ∙ ap (row_selectors r c.args.row) c.height.ensures) in
    let same = held ∙ permuted_is all p c.row_pair-2.result r c.row_pair-2.ensures.top c.row_pair-2.ensures.bottom in
    on_ok_weaker c.eval.result
    (λ grew. checked_by all c.new.ensures c.move_to_permuted.ensures (permuted_zero r g.EF.ExtensionField.over g.F.PartialEq.eq g.EF.PartialEq.eq all p)
    (is_zero_at r g.EF.ExtensionField.over g.F.PartialEq.eq g.EF.PartialEq.eq) same refl refl refl grew) c.eval.ensures.evaluated.asserted.ok

pub returns-clause-there : goal.returns-clause-there
returns-clause-there g c =
    let all = instance (g.A.BaseAir.declaration c.args.air.now) c.args.main.now c.args.public_values.now in
    let columns = all.air.periodic in
    let periodic : map Some c.fill_periodic_row.new.values.items ≡ map (column_at c.args.row) columns =
    rw (← c.periodic_columns.ensures) c.in_ok-fill_periodic_row.ensures.filled in
    let same = shape-given all c.new.ensures c.move_to_permuted.ensures c.preprocessed_trace.ensures periodic
    c.row_pair.ensures.width c.table_pair.ensures.width ∙ permuted_shape_is all (permutation_trace c.args.permutation) c.row_pair-2.result c.row_pair-2.ensures.width in
    subst (λ s. OnOk c.eval.result (NoneMissing (IsMissing s) all.air.constraints)) same c.eval.ensures.evaluated.there

pub returns-in_err-fill_periodic_row-clause-refused : goal.returns-in_err-fill_periodic_row-clause-refused
returns-in_err-fill_periodic_row-clause-refused g c =
    let q = err_from_is_err_and c.from_residual.result c.from_residual.ensures.1 in
    let all = instance (g.A.BaseAir.declaration c.args.air.now) c.args.main.now c.args.public_values.now in
    let refused : RefusesPeriodicRow all.air.periodic c.in_err-fill_periodic_row.field-0.0 =
    rw (← c.periodic_columns.ensures) c.in_err-fill_periodic_row.ensures.refused in
    rw (q.1, q.2)
    (periodic_refusal (PermutedMissing all (permutation_trace c.args.permutation)) all c.in_err-fill_periodic_row.field-0.0 c.requires.fits refused)

pub returns-clause-refused : goal.returns-clause-refused
returns-clause-refused g c =
    let all = instance (g.A.BaseAir.declaration c.args.air.now) c.args.main.now c.args.public_values.now in
    let columns = all.air.periodic in
    let periodic : map Some c.fill_periodic_row.new.values.items ≡ map (column_at c.args.row) columns =
    rw (← c.periodic_columns.ensures) c.in_ok-fill_periodic_row.ensures.filled in
    let same = shape-given all c.new.ensures c.move_to_permuted.ensures c.preprocessed_trace.ensures periodic
    c.row_pair.ensures.width c.table_pair.ensures.width ∙ permuted_shape_is all (permutation_trace c.args.permutation) c.row_pair-2.result c.row_pair-2.ensures.width in
    IfErr-weaker c.eval.result _ _ (row_refusal all c.new.ensures c.move_to_permuted.ensures same) c.eval.ensures.evaluated.asserted.refused
