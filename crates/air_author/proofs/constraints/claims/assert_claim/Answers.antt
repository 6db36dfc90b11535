use Rattle.std.proofs.Common.{inl, refl}
use Rattle.air_field.specs.Part.{whole}
use Rattle.air_builder.specs.Assertion.{Base}
use Rattle.air_author.specs.laws.Asserting.{making_gives_up, made_then_zero}
use Rattle.air_author.specs.laws.Making.{made_in_ring}
use Rattle.air_author.proofs.constraints.claims.assert_claim.Goals as goal

pub returns-in_err-x : goal.returns-in_err-x
returns-in_err-x g c = making_gives_up g.met.AB.AirBuilder.laws _ (inl whole) c.from_residual.ensures.1 c.in_err-x.ensures

pub returns : goal.returns
returns g c = made_then_zero g.met.AB.AirBuilder.laws Base _ _ _ _ c.assert_zero.result _ c.in_ok-x.ensures c.assert_zero.ensures (λ h. (h, tt))

pub assert_zero-requires-clause-of_ring : goal.assert_zero-requires-clause-of_ring
assert_zero-requires-clause-of_ring g c = made_in_ring g.met.AB.Ring.Algebra.laws g.met.AB.AirBuilder.laws _ _ _ _ _ c.in_ok-x.ensures refl
