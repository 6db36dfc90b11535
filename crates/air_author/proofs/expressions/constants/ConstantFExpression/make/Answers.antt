use Rattle.std.proofs.Common.{refl}
use Rattle.air_field.specs.Term.{const_term}
use Rattle.air_author.specs.laws.Making.{ring_answered}
use Rattle.air_author.proofs.expressions.constants.ConstantFExpression.make.Goals as goal

pub returns : goal.returns
returns g c = ring_answered g.met.AB.Ring.Algebra.laws g.met.AB.AirBuilder.laws _ _ _ _ _ (const_term c.args.self.now.0) _ _ c.to_air_result.ensures (g.met.AB.AirBuilder.laws.same _) c.ring.ensures.value c.constant.ensures.extended c.constant.ensures.made c.constant.ensures.refused refl tt
