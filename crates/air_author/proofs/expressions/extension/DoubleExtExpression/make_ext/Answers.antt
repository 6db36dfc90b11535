use Rattle.std.proofs.Common.{refl}
use Rattle.air_field.specs.Algebra.{double_term}
use Rattle.air_field.specs.Part.{whole, in_add_left}
use Rattle.air_builder.specs.laws.Extensions.{over_extension}
use Rattle.air_author.specs.laws.Making.{made_in_ring, part_gives_up, one_answered}
use Rattle.air_author.proofs.expressions.extension.DoubleExtExpression.make_ext.Goals as goal

pub returns-in_err-x : goal.returns-in_err-x
returns-in_err-x g c = part_gives_up (in_add_left whole) c.from_residual.ensures.1 c.in_err-x.ensures

pub returns : goal.returns
returns g c = one_answered g.met.AB.ExtRing.Algebra.laws (over_extension g.met.AB.AirBuilder.laws g.met.AB.ExtensionBuilder.ext_laws) double_term _ _ _ _ _ _ _ _ _ c.in_ok-x.ensures c.to_air_result.ensures c.ext_ring.ensures.value c.double.ensures.extended c.double.ensures.made c.double.ensures.refused refl (λ h. (h, h))

pub double-requires : goal.double-requires
double-requires g c = made_in_ring g.met.AB.ExtRing.Algebra.laws (over_extension g.met.AB.AirBuilder.laws g.met.AB.ExtensionBuilder.ext_laws) _ _ _ _ _ c.in_ok-x.ensures c.ext_ring.ensures.value
