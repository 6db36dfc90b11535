use Rattle.std.proofs.Common.{take, Ok}
use Rattle.air_field.specs.Algebra.{bool_check_term}
use Rattle.air_builder.specs.Assertion.{Base}
use Rattle.air_builder.specs.Batches.{AssertsOf, AssertedEach}
use Rattle.air_gadgets.specs.Gadgets.{VariableMeans}
use Rattle.air_gadgets.proofs.words.rotations.assert_bits.Given as goal

abbrev pub invariant-loop-variable : goal.invariant-loop-variable
invariant-loop-variable g l = AssertedEach (AssertsOf Base (VariableMeans g.AB.Ring.FromVar-1.var_means g.AB.AirBuilder.reads_as) (bool_check_term g.AB.F.Field.ONE)) g.AB.AirBuilder.kept g.AB.AirBuilder.grew g.AB.AirBuilder.refuses l.initial.builder l.builder (take l.variable-index l.variables) (Ok tt)
