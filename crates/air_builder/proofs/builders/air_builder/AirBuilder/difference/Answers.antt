use Rattle.std.proofs.lemmas.Result.{err_from_is_err_and}
use Rattle.air_field.specs.Term.{with_leaves, sub_term}
use Rattle.air_builder.specs.laws.Growth.{means_in}
use Rattle.air_builder.proofs.builders.air_builder.AirBuilder.difference.Goals as goal

pub returns-in_err-difference-clause-refused : goal.returns-in_err-difference-clause-refused
returns-in_err-difference-clause-refused g c =
    let p = err_from_is_err_and c.from_residual.result c.from_residual.ensures.1 in
    let reads_as = g.Self.AirBuilder.reads_as c.args.self.now in
    rw (p.1, p.2)
    (λ t u ts m n part. g.met.Self.AirBuilder.laws.refuses_in_ring c.args.self.now c.in_err-difference.field-0.0 (sub_term t u) ts
    (c.in_err-difference.ensures.refused (with_leaves reads_as t) (with_leaves reads_as u) (means_in g.Self.Ring.Algebra.means _ _ c.ring.ensures.value m) (means_in g.Self.Ring.Algebra.means _ _ c.ring.ensures.value n)) part)
