use Rattle.std.proofs.Common.{take, Ok}
use Rattle.std.specs.List.{zip}
use Rattle.air_field.specs.Term.{sub_term}
use Rattle.air_builder.specs.Assertion.{Base}
use Rattle.air_builder.specs.Batches.{AssertsOfBoth, AssertedEach}
use Rattle.air_builder.specs.Builders.{Means}
use Rattle.air_builder.proofs.builders.air_builder.AirBuilder.assert_eq_slices.Given as goal

abbrev pub invariant-loop-i : goal.invariant-loop-i
invariant-loop-i g l = AssertedEach (AssertsOfBoth Base (Means g.Self.Ring.Algebra.means g.Self.AirBuilder.ring_of g.Self.AirBuilder.reads_as) sub_term) g.Self.AirBuilder.kept g.Self.AirBuilder.grew g.Self.AirBuilder.refuses l.initial.self l.self (take l.i (zip l.left l.right)) (Ok tt)
