use Rattle.std.proofs.Common.{refl}
use Rattle.air_field.specs.Term.{mul_term}
use Rattle.air_field.specs.Part.{whole, in_mul_left, in_mul_right}
use Rattle.air_builder.specs.laws.Extensions.{over_extension}
use Rattle.air_author.specs.laws.Making.{first_in_ring, second_in_ring, operand_gives_up, both_answered}
use Rattle.air_author.proofs.expressions.extension.TimesExtExpression.make_ext.Goals as goal

pub returns-in_err-x : goal.returns-in_err-x
returns-in_err-x g c = operand_gives_up (in_mul_left whole) (in_mul_right whole) c.from_residual.ensures.1 c.in_err-x.ensures

pub returns : goal.returns
returns g c = both_answered g.met.AB.ExtRing.Algebra.laws (over_extension g.met.AB.AirBuilder.laws g.met.AB.ExtensionBuilder.ext_laws) mul_term _ _ _ _ _ _ _ _ _ _ _ c.in_ok-x.ensures c.to_air_result.ensures c.ext_ring.ensures.value c.mul.ensures.extended c.mul.ensures.made c.mul.ensures.refused refl (λ h. h)

pub mul-requires-clause-x_in : goal.mul-requires-clause-x_in
mul-requires-clause-x_in g c = first_in_ring g.met.AB.ExtRing.Algebra.laws (over_extension g.met.AB.AirBuilder.laws g.met.AB.ExtensionBuilder.ext_laws) _ _ _ _ _ _ _ c.in_ok-x.ensures c.ext_ring.ensures.value

pub mul-requires-clause-y_in : goal.mul-requires-clause-y_in
mul-requires-clause-y_in g c = second_in_ring g.met.AB.ExtRing.Algebra.laws (over_extension g.met.AB.AirBuilder.laws g.met.AB.ExtensionBuilder.ext_laws) _ _ _ _ _ _ _ c.in_ok-x.ensures c.ext_ring.ensures.value
