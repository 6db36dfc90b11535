use Rattle.std.proofs.Common.{◌∙◌, ap, subst, OnOk}
use Rattle.air_report.specs.Debug.{is_zero_at}
use Rattle.air_report.specs.laws.DebugLabels.{logged_asserted}
use Rattle.air_report.specs.DebugAsserts.{LogsNameless}
use Rattle.air_report.specs.DebugRow.{debug_row}
use Rattle.air_report.specs.laws.DebugValues.{base_tested}
use Rattle.air_report.proofs.debug.builder_impl.DebugConstraintBuilderAirBuilder.assert_zero.Goals as goal

pub returns-clause-asserted : goal.returns-clause-asserted
returns-clause-asserted g c =
    let over = g.EF.ExtensionField.over in
    let zero = is_zero_at g.F.Field.ring over g.F.PartialEq.eq g.EF.PartialEq.eq in
    logged_asserted zero debug_row (λ d. d.constraint_index) (λ d. d.failures.items) _ c.eq.result c.log.ensures.keeps c.log.result c.log.ensures.ok c.log.ensures.err_count c.log.ensures.err c.log.ensures.refused
    (base_tested g.F.Field.ring over g.EF.ExtensionField.basis g.F.PartialEq.eq g.EF.PartialEq.eq (debug_row c.args.self.now) c.args.x c.eq.result (c.eq.ensures ∙ ap (λ w. g.F.PartialEq.eq c.args.x w) (c.ZERO.ensures ∙ g.met.F.Field.zero_is)))

pub returns-clause-nameless : goal.returns-clause-nameless
returns-clause-nameless g c = subst (λ h. OnOk c.log.result (LogsNameless h c.args.self.now c.log.new.self)) (c.eq.ensures ∙ ap (λ w. g.F.PartialEq.eq c.args.x w) (c.ZERO.ensures ∙ g.met.F.Field.zero_is)) c.log.ensures.ok
