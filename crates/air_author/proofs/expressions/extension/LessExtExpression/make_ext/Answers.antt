use Rattle.std.proofs.Common.{refl}
use Rattle.air_field.specs.Term.{sub_term}
use Rattle.air_field.specs.Part.{whole, in_sub_left, in_sub_right}
use Rattle.air_builder.specs.laws.Extensions.{over_extension}
use Rattle.air_author.specs.laws.Making.{first_in_ring, second_in_ring, operand_gives_up, both_answered}
use Rattle.air_author.proofs.expressions.extension.LessExtExpression.make_ext.Goals as goal

pub returns-in_err-x : goal.returns-in_err-x
returns-in_err-x g c = operand_gives_up (in_sub_left whole) (in_sub_right whole) c.from_residual.ensures.1 c.in_err-x.ensures

pub returns : goal.returns
returns g c = both_answered g.met.AB.ExtRing.Algebra.laws (over_extension g.met.AB.AirBuilder.laws g.met.AB.ExtensionBuilder.ext_laws) sub_term _ _ _ _ _ _ _ _ _ _ _ c.in_ok-x.ensures c.to_air_result.ensures c.ext_ring.ensures.value c.sub.ensures.extended c.sub.ensures.made c.sub.ensures.refused refl (λ h. h)

pub sub-requires-clause-x_in : goal.sub-requires-clause-x_in
sub-requires-clause-x_in g c = first_in_ring g.met.AB.ExtRing.Algebra.laws (over_extension g.met.AB.AirBuilder.laws g.met.AB.ExtensionBuilder.ext_laws) _ _ _ _ _ _ _ c.in_ok-x.ensures c.ext_ring.ensures.value

pub sub-requires-clause-y_in : goal.sub-requires-clause-y_in
sub-requires-clause-y_in g c = second_in_ring g.met.AB.ExtRing.Algebra.laws (over_extension g.met.AB.AirBuilder.laws g.met.AB.ExtensionBuilder.ext_laws) _ _ _ _ _ _ _ c.in_ok-x.ensures c.ext_ring.ensures.value
