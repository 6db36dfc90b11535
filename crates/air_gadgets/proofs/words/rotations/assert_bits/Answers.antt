use Rattle.std.proofs.Common.{arith}
use Rattle.air_field.specs.Algebra.{bool_check_term}
use Rattle.air_builder.specs.Assertion.{Base}
use Rattle.air_builder.specs.Batches.{AssertsOf}
use Rattle.air_builder.specs.laws.Batches.{nothing_asserted, asserted_more, asserted_refused, asserted_all}
use Rattle.air_gadgets.specs.Gadgets.{VariableMeans}
use Rattle.air_gadgets.proofs.Asserting.{over_kept}
use Rattle.air_gadgets.proofs.words.rotations.assert_bits.Goals as goal

pub loop-variable-init : goal.loop-variable-init
loop-variable-init g c =
    nothing_asserted g.met.AB.AirBuilder.laws _ (over_kept g.met.AB.AirBuilder.laws (AssertsOf Base (VariableMeans g.AB.Ring.FromVar-1.var_means (λ l. l)) (bool_check_term g.AB.F.Field.ONE))) c.args.builder.now

pub assert_bit-requires : goal.assert_bit-requires
assert_bit-requires g c = g.met.AB.AirBuilder.laws.ready_kept c.args.builder.now c.loop-variable.builder c.loop-variable.invariant.keeps c.requires

pub loop-variable-preserved : goal.loop-variable-preserved
loop-variable-preserved g c =
    asserted_more g.met.AB.AirBuilder.laws _ (over_kept g.met.AB.AirBuilder.laws (AssertsOf Base (VariableMeans g.AB.Ring.FromVar-1.var_means (λ l. l)) (bool_check_term g.AB.F.Field.ONE))) c.args.variables.now c.loop-variable.variable-index c.variable-item.result (omega arith) c.variable-item.is c.loop-variable.invariant c.in_ok-assert_bit.ensures

pub returns-in_err-assert_bit : goal.returns-in_err-assert_bit
returns-in_err-assert_bit g c =
    asserted_refused g.met.AB.AirBuilder.laws _ (over_kept g.met.AB.AirBuilder.laws (AssertsOf Base (VariableMeans g.AB.Ring.FromVar-1.var_means (λ l. l)) (bool_check_term g.AB.F.Field.ONE))) c.args.variables.now c.loop-variable.variable-index c.variable-item.result (omega arith) c.variable-item.is c.loop-variable.invariant c.in_err-assert_bit.ensures c.from_residual.ensures.1

pub returns : goal.returns
returns g c =
    asserted_all g.met.AB.AirBuilder.laws _ (over_kept g.met.AB.AirBuilder.laws (AssertsOf Base (VariableMeans g.AB.Ring.FromVar-1.var_means (λ l. l)) (bool_check_term g.AB.F.Field.ONE))) c.args.variables.now c.loop-variable.variable-index (omega arith) c.loop-variable.invariant
