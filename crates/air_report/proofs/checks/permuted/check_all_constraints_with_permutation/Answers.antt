use Rattle.std.proofs.Common.{ap, sym, refl, inl, inr, ◌∙◌}
use Rattle.std.proofs.lemmas.Result.{err_from_is_err_and, IfOk-weaker, IfErr-weaker}
use Rattle.air_field.specs.laws.Characteristic.{embed_same}
use Rattle.air_report.specs.Instances.{instance}
use Rattle.air_report.specs.Permuted.{permutation_trace, HasHeight, PermutedCheckRefuses}
use Rattle.air_report.specs.Shapes.{table_height}
use Rattle.air_report.specs.laws.Over.{base_terms_embedded, permuted_report_over}
use Rattle.air_report.proofs.GivenUp.{error_is, instance_fits, instance_fault}
use Rattle.air_report.proofs.checks.permuted.check_all_constraints_with_permutation.Goals as goal

pub returns-in_err-check_shapes-clause-height : goal.returns-in_err-check_shapes-clause-height
returns-in_err-check_shapes-clause-height g c =
    let p = err_from_is_err_and c.from_residual.result c.from_residual.ensures.1 in
    rw p.1 tt

pub returns-in_err-check_shapes-clause-report : goal.returns-in_err-check_shapes-clause-report
returns-in_err-check_shapes-clause-report g c =
    let p = err_from_is_err_and c.from_residual.result c.from_residual.ensures.1 in
    rw p.1 tt

pub returns-in_err-check_shapes-clause-over : goal.returns-in_err-check_shapes-clause-over
returns-in_err-check_shapes-clause-over g c base =
    let p = err_from_is_err_and c.from_residual.result c.from_residual.ensures.1 in
    rw p.1 tt

pub returns-in_err-check_shapes-clause-refused : goal.returns-in_err-check_shapes-clause-refused
returns-in_err-check_shapes-clause-refused g c =
    let all = instance (g.A.BaseAir.declaration c.args.air.now) c.args.main.now c.args.public_values.now in
    error_is c.from_residual.result c.from_residual.ensures.1
    (PermutedCheckRefuses g.F.Field.ring g.EF.ExtensionField.over g.F.PartialEq.eq g.EF.PartialEq.eq all (permutation_trace c.args.permutation)
    c.args.max_failures)
    (inl (instance_fault all c.periodic_columns.ensures c.height-height.ensures (c.table_height.ensures ∙ ap table_height c.preprocessed_trace.ensures)
    c.in_err-check_shapes.field-0.0 c.in_err-check_shapes.ensures))

pub returns-in_err-check_permutation_height-clause-height : goal.returns-in_err-check_permutation_height-clause-height
returns-in_err-check_permutation_height-clause-height g c =
    let p = err_from_is_err_and c.from_residual-in_err-check_permutation_height.result c.from_residual-in_err-check_permutation_height.ensures.1 in
    rw p.1 tt

pub returns-in_err-check_permutation_height-clause-report : goal.returns-in_err-check_permutation_height-clause-report
returns-in_err-check_permutation_height-clause-report g c =
    let p = err_from_is_err_and c.from_residual-in_err-check_permutation_height.result c.from_residual-in_err-check_permutation_height.ensures.1 in
    rw p.1 tt

pub returns-in_err-check_permutation_height-clause-over : goal.returns-in_err-check_permutation_height-clause-over
returns-in_err-check_permutation_height-clause-over g c base =
    let p = err_from_is_err_and c.from_residual-in_err-check_permutation_height.result c.from_residual-in_err-check_permutation_height.ensures.1 in
    rw p.1 tt

pub returns-in_err-check_permutation_height-clause-refused : goal.returns-in_err-check_permutation_height-clause-refused
returns-in_err-check_permutation_height-clause-refused g c =
    let all = instance (g.A.BaseAir.declaration c.args.air.now) c.args.main.now c.args.public_values.now in
    let fits = instance_fits all c.periodic_columns.ensures c.height-height.ensures (c.table_height.ensures ∙ ap table_height c.preprocessed_trace.ensures)
    c.in_ok-check_shapes.ensures in
    error_is c.from_residual-in_err-check_permutation_height.result c.from_residual-in_err-check_permutation_height.ensures.1
    (PermutedCheckRefuses g.F.Field.ring g.EF.ExtensionField.over g.F.PartialEq.eq g.EF.PartialEq.eq all (permutation_trace c.args.permutation)
    c.args.max_failures)
    (inr (fits, inl (rw (← c.height-height.ensures, ← c.height.ensures) c.in_err-check_permutation_height.ensures.refused)))

pub permuted_report-requires : goal.permuted_report-requires
permuted_report-requires g c =
    let all = instance (g.A.BaseAir.declaration c.args.air.now) c.args.main.now c.args.public_values.now in
    let height = sym c.height.ensures ∙ (c.in_ok-check_permutation_height.ensures.fits ∙ c.height-height.ensures) in
    let fits = instance_fits all c.periodic_columns.ensures c.height-height.ensures
    (c.table_height.ensures ∙ ap table_height c.preprocessed_trace.ensures) c.in_ok-check_shapes.ensures in
    λ k. (c.type_bounds.static-EF, ((refl, tt), (height, fits)))

pub returns-clause-height : goal.returns-clause-height
returns-clause-height g c =
    let all = instance (g.A.BaseAir.declaration c.args.air.now) c.args.main.now c.args.public_values.now in
    let height : HasHeight all (permutation_trace c.args.permutation) =
    sym c.height.ensures ∙ (c.in_ok-check_permutation_height.ensures.fits ∙ c.height-height.ensures) in
    IfOk-weaker c.permuted_report.result _ _ (λ report h. height) c.permuted_report.ensures.report

pub returns-clause-over : goal.returns-clause-over
returns-clause-over g c base =
    let r = g.F.Field.ring in
    let a = g.EF.ExtensionField.over in
    let laws = g.met.EF.ExtensionField.over_laws in
    let same_in = embed_same r a laws g.EF.ExtensionField.basis g.EF.ExtensionField.DIMENSION g.met.EF.ExtensionField.laws in
    let all = instance (g.A.BaseAir.declaration c.args.air.now) c.args.main.now c.args.public_values.now in
    IfOk-weaker c.permuted_report.result _ _
    (permuted_report_over r a laws g.F.PartialEq.eq g.met.F.Field.eq_is g.EF.PartialEq.eq g.met.EF.ExtensionField.eq_is same_in all
    (permutation_trace c.args.permutation) (base_terms_embedded r a laws all.air.constraints base) c.args.max_failures)
    c.permuted_report.ensures.report

pub returns-clause-refused : goal.returns-clause-refused
returns-clause-refused g c =
    let all = instance (g.A.BaseAir.declaration c.args.air.now) c.args.main.now c.args.public_values.now in
    let height : HasHeight all (permutation_trace c.args.permutation) =
    sym c.height.ensures ∙ (c.in_ok-check_permutation_height.ensures.fits ∙ c.height-height.ensures) in
    let fits = instance_fits all c.periodic_columns.ensures c.height-height.ensures (c.table_height.ensures ∙ ap table_height c.preprocessed_trace.ensures)
    c.in_ok-check_shapes.ensures in
    IfErr-weaker c.permuted_report.result _ _ (λ e h. inr (fits, inr (height, h))) c.permuted_report.ensures.refused
