use Rattle.std.proofs.Common.{ℕ, List, ap, ◌∙◌, subst}
use Rattle.air_recording.specs.Inferred.{periods_of, recorded_terms, AnswersInferred}
use Rattle.air_recording.proofs.symbolic.degree.infer_degree.Goals as goal

pub returns : goal.returns
returns g c =
    let us = recorded_terms g.EF.ExtensionField.basis c.args.recorded.now in
    let own = c.deref.ensures.value ∙ (c.in_ok-periods.ensures.lengths ∙ ap periods_of c.periodic_columns.ensures) in
    subst (λ (l : List ℕ). AnswersInferred c.args.transition_weight c.args.trace_len l us c.degree_of.result) own c.degree_of.ensures
