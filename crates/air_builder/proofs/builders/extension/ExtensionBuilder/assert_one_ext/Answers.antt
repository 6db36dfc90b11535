use Rattle.std.proofs.Common.{inl, refl}
use Rattle.air_field.specs.Part.{whole}
use Rattle.air_builder.specs.Assertion.{Extension}
use Rattle.air_builder.specs.Builders.{less_one_term}
use Rattle.air_builder.specs.laws.Extensions.{over_extension}
use Rattle.air_builder.specs.laws.Growth.{one_asserted, one_gives_up}
use Rattle.air_builder.proofs.builders.extension.ExtensionBuilder.assert_one_ext.Goals as goal

pub returns : goal.returns
returns g c = one_asserted g.met.Self.ExtRing.Algebra.laws (over_extension g.met.Self.AirBuilder.laws g.met.Self.ExtensionBuilder.ext_laws) Extension c.ext_ring.ensures.value c.less_one.ensures.extended (less_one_term g.Self.F.Field.ONE) (λ t. refl) c.in_ok-less.ensures.made.1 c.assert_zero_ext.ensures

pub returns-in_err-less : goal.returns-in_err-less
returns-in_err-less g c = one_gives_up g.met.Self.ExtRing.Algebra.laws (over_extension g.met.Self.AirBuilder.laws g.met.Self.ExtensionBuilder.ext_laws) Extension c.ext_ring.ensures.value c.less_one.ensures.extended (less_one_term g.Self.F.Field.ONE) (λ t. refl) (λ t. inl whole) c.in_err-less.ensures.refused c.from_residual.ensures.1
