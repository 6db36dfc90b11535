use Rattle.std.proofs.Common.{◌++◌, Err, subst, inl, inr}
use Rattle.std.proofs.lemmas.Result.{err_from_is_err_and}
use Rattle.air_field.specs.Ring.{self_algebra}
use Rattle.air_recording.specs.Bounds.{IsDegreeFor}
use Rattle.air_symbolic.specs.BaseLeaves.{base_reads}
use Rattle.air_symbolic.specs.ExtLeaves.{ext_reads}
use Rattle.air_recording.specs.Inferred.{AnswersInferred, periods_of}
use Rattle.air_recording.specs.Layouts.{air_layout}
use Rattle.air_recording.specs.Recorded.{RecordingAnswers, RecordsBase, RecordsExt, terms_of}
use Rattle.air_audit.specs.Theorem.{instance}
use Rattle.air_audit.proofs.AuditTheorem.{audited, recording_refused, degree_refused}
use Rattle.air_audit.specs.laws.Theorem.{recordable}
use Rattle.air_audit.proofs.audit.audit_air_with_cap.Goals as goal

pub returns-in_err-recorded-clause-refused : goal.returns-in_err-recorded-clause-refused
returns-in_err-recorded-clause-refused g c =
    let p = err_from_is_err_and c.from_residual.result c.from_residual.ensures.1 in
    rw (p.1, p.2)
    (recording_refused g.F.Field.ring g.F.PartialEq.eq (instance (g.A.BaseAir.declaration c.args.air.now) c.args.main.now c.args.public_values.now) c.args.max_failures c.args.transition_weight c.from_air.result _ c.from_air.ensures c.in_err-recorded.ensures.refused)

pub returns-in_err-report-clause-refused : goal.returns-in_err-report-clause-refused
returns-in_err-report-clause-refused g c =
    let p = err_from_is_err_and c.from_residual-in_err-report.result c.from_residual-in_err-report.ensures.1 in
    let r = g.F.Field.ring in
    let d = g.A.BaseAir.declaration c.args.air.now in
    let answers = subst (λ a. RecordingAnswers r a (air_layout d) d) g.met.F.SelfExtension.over_itself (rw c.from_air.ensures at c.in_ok-recorded.ensures.answers) in
    rw (p.1, p.2) (inr (recordable r d answers, inl c.in_err-report.ensures.refused))

pub returns-in_err-degree-clause-refused : goal.returns-in_err-degree-clause-refused
returns-in_err-degree-clause-refused g c =
    let p = err_from_is_err_and c.from_residual-in_err-degree.result c.from_residual-in_err-degree.ensures.1 in
    let r = g.F.Field.ring in
    let reads = ext_reads g.F.ExtensionField.basis in
    let own = g.met.F.SelfExtension.over_itself in
    let d = g.A.BaseAir.declaration c.args.air.now in
    let ts = d.constraints in
    let recorded = c.in_ok-recorded.recorded in
    let us = terms_of base_reads recorded.pool.base recorded.base in
    let vs = terms_of reads recorded.pool recorded.ext in
    let ext : RecordsExt r (self_algebra r) reads recorded.pool recorded.ext ts = subst (λ a. RecordsExt r a reads recorded.pool recorded.ext ts) own c.in_ok-recorded.ensures.ext in
    let e = c.in_err-degree.field-0.0 in
    let past = subst (λ n. AnswersInferred c.args.transition_weight n (periods_of d.periodic) (us ++ vs) (Err e)) c.height.ensures c.in_err-degree.ensures in
    let answers = subst (λ a. RecordingAnswers r a (air_layout d) d) own (rw c.from_air.ensures at c.in_ok-recorded.ensures.answers) in
    rw (p.1, p.2)
    (degree_refused r g.F.PartialEq.eq (instance d c.args.main.now c.args.public_values.now) c.args.max_failures c.args.transition_weight c.in_ok-report.report us vs e c.in_ok-report.ensures.report answers c.in_ok-recorded.ensures.base.terms ext.terms past)

pub returns-clause-audited : goal.returns-clause-audited
returns-clause-audited g c =
    let r = g.F.Field.ring in
    let basis = g.F.ExtensionField.basis in
    let reads = ext_reads basis in
    let own = g.met.F.SelfExtension.over_itself in
    let d = g.A.BaseAir.declaration c.args.air.now in
    let ts = d.constraints in
    let recorded = c.in_ok-recorded.recorded in
    let base : RecordsBase r (self_algebra r) base_reads recorded.pool.base recorded.base ts = subst (λ a. RecordsBase r a base_reads recorded.pool.base recorded.base ts) own c.in_ok-recorded.ensures.base in
    let ext : RecordsExt r (self_algebra r) reads recorded.pool recorded.ext ts = subst (λ a. RecordsExt r a reads recorded.pool recorded.ext ts) own c.in_ok-recorded.ensures.ext in
    let us = terms_of base_reads recorded.pool.base recorded.base in
    let vs = terms_of reads recorded.pool recorded.ext in
    audited r g.F.PartialEq.eq basis (instance d c.args.main.now c.args.public_values.now) c.args.max_failures c.args.transition_weight
    record { recorded = recorded; layout = c.in_ok-recorded.layout; report = c.in_ok-report.report; degree = c.in_ok-degree.degree }
    (subst (λ a. RecordingAnswers r a (air_layout d) d) own (rw c.from_air.ensures at c.in_ok-recorded.ensures.answers))
    base ext c.in_ok-recorded.ensures.base_here c.in_ok-recorded.ensures.ext_here c.in_ok-recorded.ensures.places c.in_ok-report.ensures.report
    (subst (λ n. IsDegreeFor c.args.transition_weight n (periods_of d.periodic) (us ++ vs) c.in_ok-degree.degree) c.height.ensures c.in_ok-degree.ensures)

pub returns-clause-labels : goal.returns-clause-labels
returns-clause-labels g c = c.in_ok-report.ensures.labels
