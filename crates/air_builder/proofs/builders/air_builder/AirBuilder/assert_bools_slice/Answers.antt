use Rattle.std.proofs.Common.{arith}
use Rattle.air_field.specs.Algebra.{bool_check_term}
use Rattle.air_builder.specs.Assertion.{Base}
use Rattle.air_builder.specs.laws.Batches.{nothing_asserted, asserted_more, asserted_refused, asserted_all, asserts_kept}
use Rattle.air_builder.proofs.builders.air_builder.AirBuilder.assert_bools_slice.Goals as goal

pub loop-element-init : goal.loop-element-init
loop-element-init g c =
    nothing_asserted g.met.Self.AirBuilder.laws _ (asserts_kept g.met.Self.Ring.Algebra.laws g.met.Self.AirBuilder.laws Base (bool_check_term g.Self.F.Field.ONE)) c.args.self.now

pub loop-element-preserved : goal.loop-element-preserved
loop-element-preserved g c =
    asserted_more g.met.Self.AirBuilder.laws _ (asserts_kept g.met.Self.Ring.Algebra.laws g.met.Self.AirBuilder.laws Base (bool_check_term g.Self.F.Field.ONE)) {a = c.args.self.now} {b = c.loop-element.self} {c = c.assert_bool.new.self} c.args.elements.now c.loop-element.element-index c.element-item.result (omega arith) c.element-item.is c.loop-element.invariant c.in_ok-assert_bool.ensures

pub returns-in_err-assert_bool : goal.returns-in_err-assert_bool
returns-in_err-assert_bool g c =
    asserted_refused g.met.Self.AirBuilder.laws _ (asserts_kept g.met.Self.Ring.Algebra.laws g.met.Self.AirBuilder.laws Base (bool_check_term g.Self.F.Field.ONE)) {a = c.args.self.now} {b = c.loop-element.self} {c = c.assert_bool.new.self} c.args.elements.now c.loop-element.element-index c.element-item.result (omega arith) c.element-item.is c.loop-element.invariant c.in_err-assert_bool.ensures c.from_residual.ensures.1

pub returns : goal.returns
returns g c =
    asserted_all g.met.Self.AirBuilder.laws _ (asserts_kept g.met.Self.Ring.Algebra.laws g.met.Self.AirBuilder.laws Base (bool_check_term g.Self.F.Field.ONE)) {a = c.args.self.now} {b = c.loop-element.self} c.args.elements.now c.loop-element.element-index (omega arith) c.loop-element.invariant
