use Rattle.std.proofs.Common.{refl, sym}
use Rattle.air_field.specs.Algebra.{bool_check_term}
use Rattle.air_field.specs.Part.{whole, in_mul_left}
use Rattle.air_author.specs.laws.Making.{made_in_ring, part_gives_up, one_answered}
use Rattle.air_author.proofs.expressions.arithmetic.BoolCheckExpression.make.Goals as goal

pub returns-in_err-x : goal.returns-in_err-x
returns-in_err-x g c = part_gives_up (in_mul_left whole) c.from_residual.ensures.1 c.in_err-x.ensures

pub returns : goal.returns
returns g c = rw (sym g.met.AB.F.Field.one_is) (one_answered g.met.AB.Ring.Algebra.laws g.met.AB.AirBuilder.laws (bool_check_term g.AB.F.Field.ONE) _ _ _ _ _ _ _ _ _ c.in_ok-x.ensures c.to_air_result.ensures c.ring.ensures.value c.bool_check.ensures.extended c.bool_check.ensures.made c.bool_check.ensures.refused refl (λ h. (h, (h, tt))))

pub bool_check-requires : goal.bool_check-requires
bool_check-requires g c = made_in_ring g.met.AB.Ring.Algebra.laws g.met.AB.AirBuilder.laws _ _ _ _ _ c.in_ok-x.ensures c.ring.ensures.value
