use Rattle.std.proofs.Common.{arith}
use Rattle.air_builder.specs.Assertion.{Base}
use Rattle.air_builder.specs.laws.Batches.{nothing_asserted, asserted_more, asserted_refused, asserted_all, asserts_kept}
use Rattle.air_core.specs.Texts.{ElementSays}
use Rattle.air_builder.specs.laws.LabelGrowth.{labels_nothing, labelled_more, labelled_refused, labelled_all}
use Rattle.air_builder.proofs.builders.named.NamedAirBuilder.assert_zeros_named_slice.Goals as goal

pub loop-i-init : goal.loop-i-init
loop-i-init g c = record {
  asserted = nothing_asserted g.met.Self.AirBuilder.laws _ (asserts_kept g.met.Self.Ring.Algebra.laws g.met.Self.AirBuilder.laws Base (λ t. t)) c.args.self.now;
  labels = labels_nothing g.met.Self.AirBuilder.laws g.met.Self.NamedAirBuilder.named_laws _ (asserts_kept g.met.Self.Ring.Algebra.laws g.met.Self.AirBuilder.laws Base (λ t. t)) (ElementSays (g.N.Name.displays c.args.name)) c.args.self.now;
}

pub loop-i-preserved : goal.loop-i-preserved
loop-i-preserved g c = record {
  asserted = asserted_more g.met.Self.AirBuilder.laws _ (asserts_kept g.met.Self.Ring.Algebra.laws g.met.Self.AirBuilder.laws Base (λ t. t)) {a = c.args.self.now} {b = c.loop-i.self} {c = c.assert_zero_named.new.self} c.args.elements.now c.loop-i.i c.index-elements-i.result (omega arith) c.index-elements-i.is c.loop-i.invariant.asserted c.in_ok-assert_zero_named.ensures.asserted;
  labels = labelled_more g.met.Self.AirBuilder.laws g.met.Self.NamedAirBuilder.named_laws _ (asserts_kept g.met.Self.Ring.Algebra.laws g.met.Self.AirBuilder.laws Base (λ t. t)) (ElementSays (g.N.Name.displays c.args.name)) {a = c.args.self.now} {b = c.loop-i.self} {c = c.assert_zero_named.new.self} c.args.elements.now c.loop-i.i c.index-elements-i.result (omega arith) c.index-elements-i.is c.loop-i.invariant.asserted.keeps c.loop-i.invariant.labels (λ text h. rw c.new.ensures at h) c.in_ok-assert_zero_named.ensures.label;
}

pub returns-in_err-assert_zero_named-clause-asserted : goal.returns-in_err-assert_zero_named-clause-asserted
returns-in_err-assert_zero_named-clause-asserted g c =
    asserted_refused g.met.Self.AirBuilder.laws _ (asserts_kept g.met.Self.Ring.Algebra.laws g.met.Self.AirBuilder.laws Base (λ t. t)) {a = c.args.self.now} {b = c.loop-i.self} {c = c.assert_zero_named.new.self} c.args.elements.now c.loop-i.i c.index-elements-i.result (omega arith) c.index-elements-i.is c.loop-i.invariant.asserted c.in_err-assert_zero_named.ensures.asserted c.from_residual.ensures.1

pub returns-in_err-assert_zero_named-clause-label : goal.returns-in_err-assert_zero_named-clause-label
returns-in_err-assert_zero_named-clause-label g c =
    labelled_refused g.met.Self.AirBuilder.laws g.met.Self.NamedAirBuilder.named_laws _ (asserts_kept g.met.Self.Ring.Algebra.laws g.met.Self.AirBuilder.laws Base (λ t. t)) (ElementSays (g.N.Name.displays c.args.name)) {a = c.args.self.now} {b = c.loop-i.self} {c = c.assert_zero_named.new.self} c.args.elements.now c.loop-i.i (omega arith) c.loop-i.invariant.labels c.in_err-assert_zero_named.ensures.label c.from_residual.ensures.1

pub returns-clause-asserted : goal.returns-clause-asserted
returns-clause-asserted g c =
    asserted_all g.met.Self.AirBuilder.laws _ (asserts_kept g.met.Self.Ring.Algebra.laws g.met.Self.AirBuilder.laws Base (λ t. t)) {a = c.args.self.now} {b = c.loop-i.self} c.args.elements.now c.loop-i.i (omega arith) c.loop-i.invariant.asserted

pub returns-clause-label : goal.returns-clause-label
returns-clause-label g c = labelled_all g.met.Self.AirBuilder.laws g.met.Self.NamedAirBuilder.named_laws _ (asserts_kept g.met.Self.Ring.Algebra.laws g.met.Self.AirBuilder.laws Base (λ t. t)) (ElementSays (g.N.Name.displays c.args.name)) {a = c.args.self.now} {b = c.loop-i.self} c.args.elements.now c.loop-i.i (omega arith) c.loop-i.invariant.labels
