use Rattle.std.proofs.Common.{inl, refl}
use Rattle.air_field.specs.Part.{whole}
use Rattle.air_builder.specs.Assertion.{Base}
use Rattle.air_builder.specs.Builders.{less_one_term}
use Rattle.air_builder.specs.laws.LabelGrowth.{one_named, one_unnamed}
use Rattle.air_builder.proofs.builders.named.NamedAirBuilder.assert_one_named.Goals as goal

pub returns : goal.returns
returns g c = let h = one_named g.met.Self.Ring.Algebra.laws g.met.Self.AirBuilder.laws g.met.Self.NamedAirBuilder.named_laws Base c.ring.ensures.value c.less_one.ensures.extended (less_one_term g.Self.F.Field.ONE) (λ t. refl) c.in_ok-less.ensures.made.1 c.assert_zero_named.ensures.asserted c.assert_zero_named.ensures.label in record { asserted = h.asserted; label = h.label }

pub returns-in_err-less : goal.returns-in_err-less
returns-in_err-less g c = let h = one_unnamed g.met.Self.Ring.Algebra.laws g.met.Self.AirBuilder.laws g.met.Self.NamedAirBuilder.named_laws Base c.ring.ensures.value c.less_one.ensures.extended (less_one_term g.Self.F.Field.ONE) (λ t. refl) (λ t. inl whole) c.in_err-less.ensures.refused c.from_residual.ensures.1 in record { asserted = h.asserted; label = h.label }
