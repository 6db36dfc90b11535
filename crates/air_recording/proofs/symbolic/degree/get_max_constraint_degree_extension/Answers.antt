use Rattle.std.proofs.Common.{◌++◌}
use Rattle.air_field.specs.Ring.{self_algebra}
use Rattle.air_recording.specs.Bounds.{leaf_degree, polynomial_bound, IsDegreeFor}
use Rattle.air_recording.specs.laws.Bounds.{degrees_within, polynomials_within}
use Rattle.std.proofs.lemmas.Result.{err_from_is_err_and}
use Rattle.air_symbolic.specs.BaseLeaves.{base_reads}
use Rattle.air_symbolic.specs.ExtLeaves.{ext_reads}
use Rattle.air_recording.specs.Inferred.{periods_of}
use Rattle.air_recording.specs.Kinds.{base_terms, ext_terms}
use Rattle.air_recording.specs.Recorded.{terms_of}
use Rattle.air_recording.proofs.InferredDegrees.{base_within, inferred_refused}
use Rattle.air_recording.proofs.Recordings.{numbers_here}
use Rattle.air_recording.proofs.symbolic.degree.get_max_constraint_degree_extension.Goals as goal

pub infer_degree-requires-clause-base_here : goal.infer_degree-requires-clause-base_here
infer_degree-requires-clause-base_here g c =
    let r = c.in_ok-recorded.recorded in
    numbers_here g.F.Field.ring base_reads r.pool.base r.base (base_terms (g.A.BaseAir.declaration c.args.air.now).constraints) c.in_ok-recorded.ensures.base.means

pub infer_degree-requires-clause-ext_here : goal.infer_degree-requires-clause-ext_here
infer_degree-requires-clause-ext_here g c =
    let r = c.in_ok-recorded.recorded in
    numbers_here g.F.Field.ring (ext_reads g.EF.ExtensionField.basis) r.pool r.ext (ext_terms (g.A.BaseAir.declaration c.args.air.now).constraints) c.in_ok-recorded.ensures.ext.means

pub returns-in_err-degree-clause-refused : goal.returns-in_err-degree-clause-refused
returns-in_err-degree-clause-refused g c =
    let r = c.in_ok-recorded.recorded in
    let us = terms_of base_reads r.pool.base r.base in
    let vs = terms_of (ext_reads g.EF.ExtensionField.basis) r.pool r.ext in
    let e = c.in_err-degree.field-0.0 in
    let p = err_from_is_err_and c.from_residual-in_err-degree.result c.from_residual-in_err-degree.ensures.1 in
    rw (p.1, p.2)
    (inferred_refused g.F.Field.ring g.EF.ExtensionField.over c.args.transition_weight c.args.trace_len c.args.layout (g.A.BaseAir.declaration c.args.air.now) us vs e c.in_ok-recorded.ensures.base.terms c.in_ok-recorded.ensures.ext.terms c.in_ok-recorded.ensures.answers c.in_err-degree.ensures)

pub returns-clause-inferred : goal.returns-clause-inferred
returns-clause-inferred g c =
    let field = g.F.Field.ring in
    let over = g.EF.ExtensionField.over in
    let r = c.in_ok-recorded.recorded in
    let us = terms_of base_reads r.pool.base r.base in
    let vs = terms_of (ext_reads g.EF.ExtensionField.basis) r.pool r.ext in
    let v = c.args.transition_weight in
    let n = c.args.trace_len in
    let periods = periods_of (g.A.BaseAir.declaration c.args.air.now).periodic in
    let d = c.in_ok-degree.degree in
    let w = leaf_degree v n periods in
    let bound = polynomial_bound v d n in
    let degree : IsDegreeFor v n periods (us ++ vs) d = c.in_ok-degree.ensures in
    record {
      base = us;
      ext = vs;
      base_recorded = c.in_ok-recorded.ensures.base.terms;
      base_in_extension = c.in_ok-recorded.ensures.base.in_extension;
      ext_recorded = c.in_ok-recorded.ensures.ext.terms;
      is_degree = degree;
      base_bounded = λ h. polynomials_within (self_algebra field) w bound us (base_within w bound us vs (degrees_within v n periods (us ++ vs) d degree h));
      bounded = λ h. polynomials_within over w bound (us ++ vs) (degrees_within v n periods (us ++ vs) d degree h);
    }
