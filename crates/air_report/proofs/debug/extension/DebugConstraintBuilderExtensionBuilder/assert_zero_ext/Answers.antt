use Rattle.std.proofs.Common.{◌∙◌, ap, subst, OnOk}
use Rattle.air_field.specs.laws.Extension.{extend-coefficients}
use Rattle.air_report.specs.Debug.{is_zero_at}
use Rattle.air_report.specs.laws.DebugLabels.{logged_asserted}
use Rattle.air_report.specs.DebugAsserts.{LogsNameless}
use Rattle.air_report.specs.DebugRow.{debug_row}
use Rattle.air_report.specs.laws.DebugValues.{ext_tested}
use Rattle.air_report.proofs.debug.extension.DebugConstraintBuilderExtensionBuilder.assert_zero_ext.Goals as goal

pub returns-clause-asserted : goal.returns-clause-asserted
returns-clause-asserted g c =
    let over = g.EF.ExtensionField.over in
    let zero = is_zero_at g.F.Field.ring over g.F.PartialEq.eq g.EF.PartialEq.eq in
    logged_asserted zero debug_row (λ d. d.constraint_index) (λ d. d.failures.items) _ c.eq.result c.log.ensures.keeps c.log.result c.log.ensures.ok c.log.ensures.err_count c.log.ensures.err c.log.ensures.refused
    (ext_tested g.F.Field.ring over g.EF.ExtensionField.basis g.F.PartialEq.eq g.EF.PartialEq.eq (extend-coefficients g.F.Field.ring over g.EF.ExtensionField.basis g.EF.ExtensionField.DIMENSION g.met.EF.ExtensionField.laws) (debug_row c.args.self.now) c.args.x c.eq.result (c.eq.ensures ∙ ap (λ w. g.EF.PartialEq.eq c.args.x w) c.zero.ensures))

pub returns-clause-nameless : goal.returns-clause-nameless
returns-clause-nameless g c = subst (λ h. OnOk c.log.result (LogsNameless h c.args.self.now c.log.new.self)) (c.eq.ensures ∙ ap (λ w. g.EF.PartialEq.eq c.args.x w) c.zero.ensures) c.log.ensures.ok
