use Rattle.std.proofs.Common.{refl}
use Rattle.air_field.specs.Term.{mul_term}
use Rattle.air_field.specs.Part.{whole, in_mul_left, in_mul_right}
use Rattle.air_author.specs.laws.Making.{first_in_ring, second_in_ring, operand_gives_up, both_answered}
use Rattle.air_author.proofs.expressions.arithmetic.GatedExpression.make.Goals as goal

pub returns-in_err-condition : goal.returns-in_err-condition
returns-in_err-condition g c = operand_gives_up (in_mul_left whole) (in_mul_right whole) c.from_residual.ensures.1 c.in_err-condition.ensures

pub returns : goal.returns
returns g c = both_answered g.met.AB.Ring.Algebra.laws g.met.AB.AirBuilder.laws mul_term _ _ _ _ _ _ _ _ _ _ _ c.in_ok-condition.ensures c.to_air_result.ensures c.ring.ensures.value c.gate.ensures.extended c.gate.ensures.made c.gate.ensures.refused refl (λ h. h)

pub gate-requires-clause-condition_in : goal.gate-requires-clause-condition_in
gate-requires-clause-condition_in g c = first_in_ring g.met.AB.Ring.Algebra.laws g.met.AB.AirBuilder.laws _ _ _ _ _ _ _ c.in_ok-condition.ensures c.ring.ensures.value

pub gate-requires-clause-x_in : goal.gate-requires-clause-x_in
gate-requires-clause-x_in g c = second_in_ring g.met.AB.Ring.Algebra.laws g.met.AB.AirBuilder.laws _ _ _ _ _ _ _ c.in_ok-condition.ensures c.ring.ensures.value
