use Rattle.std.proofs.Common.{◌≡◌, subst}
use Rattle.std.proofs.lemmas.Result.{err_from_is_err_and}
use Rattle.air_field.specs.Term.{const_term}
use Rattle.air_field.specs.Part.{whole, in_mul_right}
use Rattle.air_field.specs.Algebra.{scaled_term}
use Rattle.air_field.specs.Powers.{power}
use Rattle.air_field.proofs.rings.algebra.Algebra.mul_2exp_u64.Goals as goal

pub returns-in_err-scale-clause-refused : goal.returns-in_err-scale-clause-refused
returns-in_err-scale-clause-refused g c =
    let scale = power g.F.Field.ring g.F.Field.TWO c.args.k in
    let scale_is : c.power_of.result ≡ power g.F.Field.ring g.F.Field.TWO c.args.k = cc in
    let p = err_from_is_err_and c.from_residual.result c.from_residual.ensures.1 in
    rw (p.1, p.2)
    (λ t m. g.met.Self.Algebra.laws.refuses_whole c.in_err-scale.field-0.0 (const_term scale) (scaled_term scale t) (in_mul_right whole)
    (subst (λ s. g.Self.Algebra.refuses c.in_err-scale.field-0.0 (const_term s)) scale_is c.in_err-scale.ensures.refused))
