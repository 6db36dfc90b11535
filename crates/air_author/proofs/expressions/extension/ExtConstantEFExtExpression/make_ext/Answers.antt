use Rattle.std.proofs.Common.{refl}
use Rattle.air_field.specs.Term.{ext_const_term}
use Rattle.air_builder.specs.laws.Extensions.{over_extension}
use Rattle.air_author.specs.laws.Making.{ring_answered}
use Rattle.air_author.proofs.expressions.extension.ExtConstantEFExtExpression.make_ext.Goals as goal

pub returns : goal.returns
returns g c = ring_answered g.met.AB.ExtRing.Algebra.laws (over_extension g.met.AB.AirBuilder.laws g.met.AB.ExtensionBuilder.ext_laws) _ _ _ _ _ (ext_const_term (g.AB.EF.ExtensionField.basis.coefficients c.args.self.now.0)) _ _ c.to_air_result.ensures (g.met.AB.AirBuilder.laws.same _) c.ext_ring.ensures.value c.ext_constant.ensures.extended c.ext_constant.ensures.made c.ext_constant.ensures.refused refl tt
