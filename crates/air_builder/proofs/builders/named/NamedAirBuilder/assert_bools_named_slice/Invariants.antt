use Rattle.std.proofs.Common.{take, Ok}
use Rattle.air_field.specs.Algebra.{bool_check_term}
use Rattle.air_builder.specs.Assertion.{Base}
use Rattle.air_builder.specs.Batches.{AssertsOf, AssertedEach}
use Rattle.air_builder.specs.Builders.{Means}
use Rattle.air_builder.specs.Labels.{LabelledEach}
use Rattle.air_core.specs.Texts.{ElementSays}
use Rattle.air_builder.proofs.builders.named.NamedAirBuilder.assert_bools_named_slice.Given as goal

abbrev pub invariant-loop-i : goal.invariant-loop-i
invariant-loop-i g l = record {
  asserted : AssertedEach (AssertsOf Base (Means g.Self.Ring.Algebra.means g.Self.AirBuilder.ring_of g.Self.AirBuilder.reads_as) (bool_check_term g.Self.F.Field.ONE)) g.Self.AirBuilder.kept g.Self.AirBuilder.grew g.Self.AirBuilder.refuses l.initial.self l.self (take l.i l.elements) (Ok tt);
  labels : LabelledEach (AssertsOf Base (Means g.Self.Ring.Algebra.means g.Self.AirBuilder.ring_of g.Self.AirBuilder.reads_as) (bool_check_term g.Self.F.Field.ONE)) g.Self.NamedAirBuilder.labelled (ElementSays (g.N.Name.displays l.name)) l.initial.self l.self (take l.i l.elements) (Ok tt);
}
