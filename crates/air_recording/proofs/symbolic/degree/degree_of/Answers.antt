use Rattle.air_recording.specs.Inferred.{recorded_terms}
use Rattle.air_recording.proofs.InferredDegrees.{weighted_answer}
use Rattle.air_recording.proofs.symbolic.degree.degree_of.Goals as goal

pub returns : goal.returns
returns g c =
    let us = recorded_terms g.EF.ExtensionField.basis c.args.recorded.now in
    weighted_answer c.args.transition_weight c.args.trace_len c.args.periods.now us _ c.checked_degree.result c.if-transition_weight-eq0.false c.in_ok-greatest.ensures.greatest c.checked_degree.ensures
