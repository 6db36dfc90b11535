use Rattle.std.proofs.Common.{inl, refl}
use Rattle.air_field.specs.Part.{whole}
use Rattle.air_field.specs.Algebra.{bool_check_term}
use Rattle.air_builder.specs.Assertion.{Base}
use Rattle.air_builder.specs.laws.Growth.{one_asserted, one_gives_up}
use Rattle.air_builder.proofs.builders.air_builder.AirBuilder.assert_bool.Goals as goal

pub returns : goal.returns
returns g c = one_asserted g.met.Self.Ring.Algebra.laws g.met.Self.AirBuilder.laws Base c.ring.ensures.value c.bool_check.ensures.extended (bool_check_term g.Self.F.Field.ONE) (λ t. refl) c.in_ok-check.ensures.made.1 c.assert_zero.ensures

pub returns-in_err-check : goal.returns-in_err-check
returns-in_err-check g c = one_gives_up g.met.Self.Ring.Algebra.laws g.met.Self.AirBuilder.laws Base c.ring.ensures.value c.bool_check.ensures.extended (bool_check_term g.Self.F.Field.ONE) (λ t. refl) (λ t. inl whole) c.in_err-check.ensures.refused c.from_residual.ensures.1
