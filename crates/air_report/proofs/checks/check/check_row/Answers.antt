use Rattle.std.proofs.Common.{◌≡◌, map, Some, OnOk, refl, ap, subst, ◌∙◌}
use Rattle.std.proofs.lemmas.Result.{err_from_is_err_and, on_ok_weaker, IfErr-weaker}
use Rattle.air_field.specs.Assignment.{IsMissing}
use Rattle.air_core.specs.Periodic.{column_at, RefusesPeriodicRow}
use Rattle.air_core.specs.Selectors.{row_selectors}
use Rattle.air_builder.specs.Refusals.{NoneMissing}
use Rattle.air_report.specs.Checks.{TraceMissing}
use Rattle.air_report.specs.Instances.{instance}
use Rattle.air_report.proofs.RowsAt.{row_at-given, checked_row, shape-given, row_refusal, periodic_refusal}
use Rattle.air_report.proofs.checks.check.check_row.Goals as goal

pub returns-clause-checked : goal.returns-clause-checked
returns-clause-checked g c =
    let all = instance (g.A.BaseAir.declaration c.args.air.now) c.args.main.now c.args.public_values.now in
    let columns = all.air.periodic in
    let periodic : map Some c.fill_periodic_row.new.values.items ≡ map (column_at c.args.row) columns =
    rw (← c.periodic_columns.ensures) c.in_ok-fill_periodic_row.ensures.filled in
    let same = row_at-given all c.new.ensures c.move_to.ensures c.preprocessed_trace.ensures periodic g.F.Field.ring c.requires.fits
    c.row_pair.ensures.top c.row_pair.ensures.bottom c.table_pair.ensures.top c.table_pair.ensures.bottom (c.at.ensures ∙ ap (row_selectors g.F.Field.ring c.args.row) c.height.ensures) in
    on_ok_weaker c.eval.result (λ grew. checked_row all c.new.ensures c.move_to.ensures g.F.PartialEq.eq g.met.F.SelfExtension.over_itself same refl grew) c.eval.ensures.evaluated.asserted.ok

pub returns-clause-there : goal.returns-clause-there
returns-clause-there g c =
    let all = instance (g.A.BaseAir.declaration c.args.air.now) c.args.main.now c.args.public_values.now in
    let columns = all.air.periodic in
    let periodic : map Some c.fill_periodic_row.new.values.items ≡ map (column_at c.args.row) columns =
    rw (← c.periodic_columns.ensures) c.in_ok-fill_periodic_row.ensures.filled in
    let same = shape-given all c.new.ensures c.move_to.ensures c.preprocessed_trace.ensures periodic
    c.row_pair.ensures.width c.table_pair.ensures.width in
    subst (λ s. OnOk c.eval.result (NoneMissing (IsMissing s) all.air.constraints)) same c.eval.ensures.evaluated.there

pub returns-in_err-fill_periodic_row-clause-refused : goal.returns-in_err-fill_periodic_row-clause-refused
returns-in_err-fill_periodic_row-clause-refused g c =
    let p = err_from_is_err_and c.from_residual.result c.from_residual.ensures.1 in
    let all = instance (g.A.BaseAir.declaration c.args.air.now) c.args.main.now c.args.public_values.now in
    let refused : RefusesPeriodicRow all.air.periodic c.in_err-fill_periodic_row.field-0.0 =
    rw (← c.periodic_columns.ensures) c.in_err-fill_periodic_row.ensures.refused in
    rw (p.1, p.2) (periodic_refusal (TraceMissing all) all c.in_err-fill_periodic_row.field-0.0 c.requires.fits refused)

pub returns-clause-refused : goal.returns-clause-refused
returns-clause-refused g c =
    let all = instance (g.A.BaseAir.declaration c.args.air.now) c.args.main.now c.args.public_values.now in
    let columns = all.air.periodic in
    let periodic : map Some c.fill_periodic_row.new.values.items ≡ map (column_at c.args.row) columns =
    rw (← c.periodic_columns.ensures) c.in_ok-fill_periodic_row.ensures.filled in
    let same = shape-given all c.new.ensures c.move_to.ensures c.preprocessed_trace.ensures periodic
    c.row_pair.ensures.width c.table_pair.ensures.width in
    IfErr-weaker c.eval.result _ _ (row_refusal all c.new.ensures c.move_to.ensures same) c.eval.ensures.evaluated.asserted.refused

pub returns-clause-labels : goal.returns-clause-labels
returns-clause-labels g c =
    on_ok_weaker c.eval.result (λ said. record {
      before = c.move_to.new.self;
      after = c.eval.new.builder;
      at = ap (λ r. r.index) c.move_to.ensures.row ∙ c.new.ensures.index;
      start = c.move_to.ensures.constraint_index;
      had = c.move_to.ensures.failures;
      has = refl;
      said = said;
    }) c.eval.ensures.labelled
