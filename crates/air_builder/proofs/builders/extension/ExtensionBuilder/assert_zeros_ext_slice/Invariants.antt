use Rattle.std.proofs.Common.{take, Ok}
use Rattle.air_builder.specs.Assertion.{Extension}
use Rattle.air_builder.specs.Batches.{AssertsOf, AssertedEach}
use Rattle.air_builder.specs.Builders.{Means}
use Rattle.air_builder.proofs.builders.extension.ExtensionBuilder.assert_zeros_ext_slice.Given as goal

abbrev pub invariant-loop-element : goal.invariant-loop-element
invariant-loop-element g l = AssertedEach (AssertsOf Extension (Means g.Self.ExtRing.Algebra.means g.Self.ExtensionBuilder.ext_ring_of g.Self.AirBuilder.reads_as) (λ t. t)) g.Self.AirBuilder.kept g.Self.AirBuilder.grew g.Self.AirBuilder.refuses l.initial.self l.self (take l.element-index l.elements) (Ok tt)
