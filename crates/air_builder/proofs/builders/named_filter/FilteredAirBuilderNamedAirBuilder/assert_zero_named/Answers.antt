use Rattle.std.proofs.Common.{inl, refl}
use Rattle.air_field.specs.Part.{whole}
use Rattle.air_field.specs.Term.{mul_term}
use Rattle.air_builder.specs.Assertion.{Base}
use Rattle.air_builder.specs.Builders.{Means}
use Rattle.air_builder.specs.laws.Growth.{means_in}
use Rattle.air_builder.proofs.FilterGrowth.{filter_named, filter_unnamed}
use Rattle.air_builder.proofs.builders.named_filter.FilteredAirBuilderNamedAirBuilder.assert_zero_named.Goals as goal

pub returns : goal.returns
returns g c =
    let h = filter_named g.met.AB.Ring.Algebra.laws g.met.AB.AirBuilder.laws Base mul_term (λ s t. refl) (λ p. p.inner.now) (λ p. p.inner.ghost_name) (λ p. p.condition) (Means g.AB.Ring.Algebra.means g.AB.AirBuilder.ring_of g.AB.AirBuilder.reads_as) (g.AB.Ring.Algebra.means c.ring.result.now c.args.self.now.condition) c.ring.ensures.value c.gate.ensures.extended (λ s k. means_in g.AB.Ring.Algebra.means _ _ c.ring.ensures.value k) (λ s t. refl) refl refl g.met.AB.NamedAirBuilder.named_laws c.in_ok-y.ensures.made.1 c.assert_zero_named.ensures.asserted c.assert_zero_named.ensures.label in record { asserted = h.asserted; label = h.label }

pub returns-in_err-y : goal.returns-in_err-y
returns-in_err-y g c =
    let h = filter_unnamed g.met.AB.Ring.Algebra.laws g.met.AB.AirBuilder.laws Base mul_term (λ s t. refl) (λ p. p.inner.now) (λ p. p.inner.ghost_name) (λ p. p.condition) (Means g.AB.Ring.Algebra.means g.AB.AirBuilder.ring_of g.AB.AirBuilder.reads_as) (g.AB.Ring.Algebra.means c.ring.result.now c.args.self.now.condition) c.ring.ensures.value c.gate.ensures.extended (λ s k. means_in g.AB.Ring.Algebra.means _ _ c.ring.ensures.value k) (λ s t. refl) refl refl g.met.AB.NamedAirBuilder.named_laws (λ t. inl whole) refl c.from_residual.ensures.1 c.in_err-y.ensures.refused in record { asserted = h.asserted; label = h.label }
