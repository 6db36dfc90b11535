use Rattle.std.proofs.Common.{inl, refl}
use Rattle.air_field.specs.Part.{whole}
use Rattle.air_field.specs.Term.{sub_term}
use Rattle.air_builder.specs.Assertion.{Base}
use Rattle.air_builder.specs.laws.LabelGrowth.{both_named, both_unnamed}
use Rattle.air_builder.proofs.builders.named.NamedAirBuilder.assert_eq_named.Goals as goal

pub returns : goal.returns
returns g c = let h = both_named g.met.Self.Ring.Algebra.laws g.met.Self.AirBuilder.laws g.met.Self.NamedAirBuilder.named_laws Base c.ring.ensures.value c.sub.ensures.extended sub_term (λ t u. refl) c.in_ok-z.ensures.made.1 c.assert_zero_named.ensures.asserted c.assert_zero_named.ensures.label in record { asserted = h.asserted; label = h.label }

pub returns-in_err-z : goal.returns-in_err-z
returns-in_err-z g c = let h = both_unnamed g.met.Self.Ring.Algebra.laws g.met.Self.AirBuilder.laws g.met.Self.NamedAirBuilder.named_laws Base c.ring.ensures.value c.sub.ensures.extended sub_term (λ t u. refl) (λ t. inl whole) c.in_err-z.ensures.refused c.from_residual.ensures.1 in record { asserted = h.asserted; label = h.label }
