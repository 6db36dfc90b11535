use Rattle.std.proofs.Common.{inl, refl}
use Rattle.air_field.specs.Part.{whole}
use Rattle.air_field.specs.Term.{mul_term}
use Rattle.air_builder.specs.Assertion.{Extension}
use Rattle.air_builder.specs.Builders.{Means}
use Rattle.air_builder.specs.laws.Extensions.{over_extension}
use Rattle.air_builder.proofs.ExtensionGrowth.{base_means_in}
use Rattle.air_builder.proofs.FilterGrowth.{filter_asserted, filter_gives_up}
use Rattle.air_builder.proofs.builders.extension_filter.FilteredAirBuilderExtensionBuilder.assert_zero_ext.Goals as goal

pub returns : goal.returns
returns g c =
    filter_asserted g.met.AB.ExtRing.Algebra.laws (over_extension g.met.AB.AirBuilder.laws g.met.AB.ExtensionBuilder.ext_laws) Extension (λ s t. mul_term t s) (λ s t. refl) (λ p. p.inner.now) (λ p. p.inner.ghost_name) (λ p. p.condition) (Means g.AB.Ring.Algebra.means g.AB.AirBuilder.ring_of g.AB.AirBuilder.reads_as) (g.AB.ExtRing.ExtAlgebra.base_means c.ext_ring.result.now c.args.self.now.condition) c.ext_ring.ensures.value c.under_condition.ensures.extended (λ s k. base_means_in g.met.AB.ExtensionBuilder.ext_laws _ _ _ s c.ext_ring.ensures.value c.requires.ready.0 k) (λ s t. refl) refl refl c.in_ok-y.ensures.made.1 c.assert_zero_ext.ensures

pub returns-in_err-y : goal.returns-in_err-y
returns-in_err-y g c =
    filter_gives_up g.met.AB.ExtRing.Algebra.laws (over_extension g.met.AB.AirBuilder.laws g.met.AB.ExtensionBuilder.ext_laws) Extension (λ s t. mul_term t s) (λ s t. refl) (λ p. p.inner.now) (λ p. p.inner.ghost_name) (λ p. p.condition) (Means g.AB.Ring.Algebra.means g.AB.AirBuilder.ring_of g.AB.AirBuilder.reads_as) (g.AB.ExtRing.ExtAlgebra.base_means c.ext_ring.result.now c.args.self.now.condition) c.ext_ring.ensures.value c.under_condition.ensures.extended (λ s k. base_means_in g.met.AB.ExtensionBuilder.ext_laws _ _ _ s c.ext_ring.ensures.value c.requires.ready.0 k) (λ s t. refl) refl refl (λ t. inl whole) refl c.from_residual.ensures.1 c.in_err-y.ensures.refused
