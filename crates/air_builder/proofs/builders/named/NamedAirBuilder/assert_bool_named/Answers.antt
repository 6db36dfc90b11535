use Rattle.std.proofs.Common.{inl, refl}
use Rattle.air_field.specs.Part.{whole}
use Rattle.air_field.specs.Algebra.{bool_check_term}
use Rattle.air_builder.specs.Assertion.{Base}
use Rattle.air_builder.specs.laws.LabelGrowth.{one_named, one_unnamed}
use Rattle.air_builder.proofs.builders.named.NamedAirBuilder.assert_bool_named.Goals as goal

pub returns : goal.returns
returns g c = let h = one_named g.met.Self.Ring.Algebra.laws g.met.Self.AirBuilder.laws g.met.Self.NamedAirBuilder.named_laws Base c.ring.ensures.value c.bool_check.ensures.extended (bool_check_term g.Self.F.Field.ONE) (λ t. refl) c.in_ok-check.ensures.made.1 c.assert_zero_named.ensures.asserted c.assert_zero_named.ensures.label in record { asserted = h.asserted; label = h.label }

pub returns-in_err-check : goal.returns-in_err-check
returns-in_err-check g c = let h = one_unnamed g.met.Self.Ring.Algebra.laws g.met.Self.AirBuilder.laws g.met.Self.NamedAirBuilder.named_laws Base c.ring.ensures.value c.bool_check.ensures.extended (bool_check_term g.Self.F.Field.ONE) (λ t. refl) (λ t. inl whole) c.in_err-check.ensures.refused c.from_residual.ensures.1 in record { asserted = h.asserted; label = h.label }
