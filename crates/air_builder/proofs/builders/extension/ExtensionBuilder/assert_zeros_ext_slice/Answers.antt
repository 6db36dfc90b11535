use Rattle.std.proofs.Common.{arith}
use Rattle.air_builder.specs.Assertion.{Extension}
use Rattle.air_builder.specs.laws.Extensions.{over_extension}
use Rattle.air_builder.specs.laws.Batches.{nothing_asserted, asserted_more, asserted_refused, asserted_all, asserts_kept}
use Rattle.air_builder.proofs.builders.extension.ExtensionBuilder.assert_zeros_ext_slice.Goals as goal

pub loop-element-init : goal.loop-element-init
loop-element-init g c =
    let laws = over_extension g.met.Self.AirBuilder.laws g.met.Self.ExtensionBuilder.ext_laws in
    nothing_asserted laws _ (asserts_kept g.met.Self.ExtRing.Algebra.laws laws Extension (λ t. t)) c.args.self.now

pub loop-element-preserved : goal.loop-element-preserved
loop-element-preserved g c =
    let laws = over_extension g.met.Self.AirBuilder.laws g.met.Self.ExtensionBuilder.ext_laws in
    asserted_more laws _ (asserts_kept g.met.Self.ExtRing.Algebra.laws laws Extension (λ t. t)) {a = c.args.self.now} {b = c.loop-element.self} {c = c.assert_zero_ext.new.self} c.args.elements.now c.loop-element.element-index c.element-item.result (omega arith) c.element-item.is c.loop-element.invariant c.in_ok-assert_zero_ext.ensures

pub returns-in_err-assert_zero_ext : goal.returns-in_err-assert_zero_ext
returns-in_err-assert_zero_ext g c =
    let laws = over_extension g.met.Self.AirBuilder.laws g.met.Self.ExtensionBuilder.ext_laws in
    asserted_refused laws _ (asserts_kept g.met.Self.ExtRing.Algebra.laws laws Extension (λ t. t)) {a = c.args.self.now} {b = c.loop-element.self} {c = c.assert_zero_ext.new.self} c.args.elements.now c.loop-element.element-index c.element-item.result (omega arith) c.element-item.is c.loop-element.invariant c.in_err-assert_zero_ext.ensures c.from_residual.ensures.1

pub returns : goal.returns
returns g c =
    let laws = over_extension g.met.Self.AirBuilder.laws g.met.Self.ExtensionBuilder.ext_laws in
    asserted_all laws _ (asserts_kept g.met.Self.ExtRing.Algebra.laws laws Extension (λ t. t)) {a = c.args.self.now} {b = c.loop-element.self} c.args.elements.now c.loop-element.element-index (omega arith) c.loop-element.invariant
