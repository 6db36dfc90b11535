use Rattle.std.proofs.Common.{◌≡◌, max, ap, ap₂, subst, ◌∙◌, arith}
use Rattle.std.proofs.lemmas.Result.{err_from_is_err_and}
use Rattle.air_field.specs.Degree.{cached_weight, greatest_degree, quotient_degree}
use Rattle.air_symbolic.specs.BaseLeaves.{base_reads}
use Rattle.air_symbolic.specs.ExtLeaves.{ext_reads}
use Rattle.air_recording.specs.Inferred.{recorded_terms}
use Rattle.air_recording.specs.Recorded.{terms_of}
use Rattle.air_recording.proofs.InferredDegrees.{answered_periodic, answered_plain, trace_refused}
use Rattle.air_recording.proofs.symbolic.degree.trace_degree_of.Goals as goal

pub returns-in_err-degree : goal.returns-in_err-degree
returns-in_err-degree g c =
    let terms = recorded_terms g.EF.ExtensionField.basis c.args.recorded.now in
    let p = err_from_is_err_and c.from_residual-in_err-degree.result c.from_residual-in_err-degree.ensures.1 in
    let quotient = c.quotient_of.ensures ∙ ap (λ d. quotient_degree d c.args.trace_len) c.in_ok-greatest.ensures.greatest in
    rw (p.1, p.2) (trace_refused c.args.trace_len c.args.periods.now terms _ c.in_err-degree.field-0.0 quotient c.in_err-degree.ensures)

pub returns-then-not-is_empty : goal.returns-then-not-is_empty
returns-then-not-is_empty g c =
    let terms = recorded_terms g.EF.ExtensionField.basis c.args.recorded.now in
    let quotient = c.quotient_of.ensures ∙ ap (λ d. quotient_degree d c.args.trace_len) c.in_ok-greatest.ensures.greatest in
    answered_periodic c.args.trace_len c.args.periods.now terms _ _ (omega (arith, c.ranges.trace_len)) quotient c.in_ok-degree.ensures c.if-not-is_empty.ensures

pub returns : goal.returns
returns g c =
    let inside = c.recorded.inside in
    let reads = ext_reads g.EF.ExtensionField.basis in
    let degree = c.in_ok-degree.degree in
    let quotient = c.quotient_of.ensures ∙ ap (λ d. quotient_degree d c.args.trace_len) c.in_ok-greatest.ensures.greatest in
    let base = c.greatest_cached-base.ensures ∙ ap (λ l. greatest_degree cached_weight l) (ap₂ (λ p l. terms_of base_reads p l) c.base.ensures c.deref.ensures.value) in
    let ext = c.greatest_cached-ext.ensures ∙ ap (λ l. greatest_degree cached_weight (terms_of reads inside.pool l)) c.deref-2.ensures.value in
    let greatest = subst (λ v. c.max-2.result ≡ max degree (max (greatest_degree cached_weight (terms_of base_reads v.pool.base v.base)) (greatest_degree cached_weight (terms_of reads v.pool v.ext)))) c.recorded.view_is
    (c.max-2.ensures ∙ ap (max degree) (c.max.ensures ∙ ap₂ max base ext)) in
    answered_plain c.args.trace_len c.args.periods.now _ _ _ _ _ (omega (arith, c.ranges.trace_len)) quotient c.in_ok-degree.ensures c.if-not-is_empty.ensures greatest c.max-2.type_inv
