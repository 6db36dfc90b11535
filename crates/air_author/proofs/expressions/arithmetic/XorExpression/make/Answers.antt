use Rattle.std.proofs.Common.{refl}
use Rattle.air_field.specs.Algebra.{xor_term}
use Rattle.air_field.specs.Part.{whole, in_add_left, in_add_right, in_sub_left}
use Rattle.air_author.specs.laws.Making.{first_in_ring, second_in_ring, operand_gives_up, both_answered}
use Rattle.air_author.proofs.expressions.arithmetic.XorExpression.make.Goals as goal

pub returns-in_err-x : goal.returns-in_err-x
returns-in_err-x g c = operand_gives_up (in_sub_left (in_add_left whole)) (in_sub_left (in_add_right whole)) c.from_residual.ensures.1 c.in_err-x.ensures

pub returns : goal.returns
returns g c = both_answered g.met.AB.Ring.Algebra.laws g.met.AB.AirBuilder.laws xor_term _ _ _ _ _ _ _ _ _ _ _ c.in_ok-x.ensures c.to_air_result.ensures c.ring.ensures.value c.xor.ensures.extended c.xor.ensures.made c.xor.ensures.refused refl (λ h. (h, (h, h)))

pub xor-requires-clause-x_in : goal.xor-requires-clause-x_in
xor-requires-clause-x_in g c = first_in_ring g.met.AB.Ring.Algebra.laws g.met.AB.AirBuilder.laws _ _ _ _ _ _ _ c.in_ok-x.ensures c.ring.ensures.value

pub xor-requires-clause-y_in : goal.xor-requires-clause-y_in
xor-requires-clause-y_in g c = second_in_ring g.met.AB.Ring.Algebra.laws g.met.AB.AirBuilder.laws _ _ _ _ _ _ _ c.in_ok-x.ensures c.ring.ensures.value
