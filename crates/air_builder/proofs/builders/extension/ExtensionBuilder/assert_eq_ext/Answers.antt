use Rattle.std.proofs.Common.{inl, refl}
use Rattle.air_field.specs.Part.{whole}
use Rattle.air_field.specs.Term.{sub_term}
use Rattle.air_builder.specs.Assertion.{Extension}
use Rattle.air_builder.specs.laws.Extensions.{over_extension}
use Rattle.air_builder.specs.laws.Growth.{both_asserted, both_gives_up}
use Rattle.air_builder.proofs.builders.extension.ExtensionBuilder.assert_eq_ext.Goals as goal

pub returns : goal.returns
returns g c = both_asserted g.met.Self.ExtRing.Algebra.laws (over_extension g.met.Self.AirBuilder.laws g.met.Self.ExtensionBuilder.ext_laws) Extension c.ext_ring.ensures.value c.sub.ensures.extended sub_term (λ t u. refl) c.in_ok-z.ensures.made.1 c.assert_zero_ext.ensures

pub returns-in_err-z : goal.returns-in_err-z
returns-in_err-z g c = both_gives_up g.met.Self.ExtRing.Algebra.laws (over_extension g.met.Self.AirBuilder.laws g.met.Self.ExtensionBuilder.ext_laws) Extension c.ext_ring.ensures.value c.sub.ensures.extended sub_term (λ t u. refl) (λ t. inl whole) c.in_err-z.ensures.refused c.from_residual.ensures.1
