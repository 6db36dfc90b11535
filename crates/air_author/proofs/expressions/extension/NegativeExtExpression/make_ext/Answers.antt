use Rattle.std.proofs.Common.{refl}
use Rattle.air_field.specs.Term.{neg_term}
use Rattle.air_field.specs.Part.{whole, in_neg}
use Rattle.air_builder.specs.laws.Extensions.{over_extension}
use Rattle.air_author.specs.laws.Making.{made_in_ring, part_gives_up, one_answered}
use Rattle.air_author.proofs.expressions.extension.NegativeExtExpression.make_ext.Goals as goal

pub returns-in_err-x : goal.returns-in_err-x
returns-in_err-x g c = part_gives_up (in_neg whole) c.from_residual.ensures.1 c.in_err-x.ensures

pub returns : goal.returns
returns g c = one_answered g.met.AB.ExtRing.Algebra.laws (over_extension g.met.AB.AirBuilder.laws g.met.AB.ExtensionBuilder.ext_laws) neg_term _ _ _ _ _ _ _ _ _ c.in_ok-x.ensures c.to_air_result.ensures c.ext_ring.ensures.value c.neg.ensures.extended c.neg.ensures.made c.neg.ensures.refused refl (λ h. h)

pub neg-requires : goal.neg-requires
neg-requires g c = made_in_ring g.met.AB.ExtRing.Algebra.laws (over_extension g.met.AB.AirBuilder.laws g.met.AB.ExtensionBuilder.ext_laws) _ _ _ _ _ c.in_ok-x.ensures c.ext_ring.ensures.value
