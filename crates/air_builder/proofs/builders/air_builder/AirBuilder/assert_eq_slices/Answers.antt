use Rattle.std.proofs.Common.{arith}
use Rattle.std.specs.List.{zip}
use Rattle.std.proofs.lemmas.Slice.Zip.{length-zip}
use Rattle.air_field.specs.Term.{sub_term}
use Rattle.air_builder.specs.Assertion.{Base}
use Rattle.air_builder.specs.laws.Batches.{nothing_asserted, asserted_more, asserted_refused, asserted_all, both_kept, get_pair}
use Rattle.air_builder.proofs.builders.air_builder.AirBuilder.assert_eq_slices.Goals as goal

pub loop-i-init : goal.loop-i-init
loop-i-init g c =
    nothing_asserted g.met.Self.AirBuilder.laws _ (both_kept g.met.Self.Ring.Algebra.laws g.met.Self.AirBuilder.laws Base sub_term) c.args.self.now

pub loop-i-preserved : goal.loop-i-preserved
loop-i-preserved g c =
    asserted_more g.met.Self.AirBuilder.laws _ (both_kept g.met.Self.Ring.Algebra.laws g.met.Self.AirBuilder.laws Base sub_term) {a = c.args.self.now} {b = c.loop-i.self} {c = c.assert_eq.new.self} (zip c.args.left.now c.args.right.now) c.loop-i.i (c.index-left-i.result, c.index-right-i.result) (rw length-zip (omega arith)) (get_pair c.args.left.now c.args.right.now c.loop-i.i _ _ (omega arith) (omega arith) c.index-left-i.is c.index-right-i.is) c.loop-i.invariant c.in_ok-assert_eq.ensures

pub returns-in_err-assert_eq : goal.returns-in_err-assert_eq
returns-in_err-assert_eq g c =
    asserted_refused g.met.Self.AirBuilder.laws _ (both_kept g.met.Self.Ring.Algebra.laws g.met.Self.AirBuilder.laws Base sub_term) {a = c.args.self.now} {b = c.loop-i.self} {c = c.assert_eq.new.self} (zip c.args.left.now c.args.right.now) c.loop-i.i (c.index-left-i.result, c.index-right-i.result) (rw length-zip (omega arith)) (get_pair c.args.left.now c.args.right.now c.loop-i.i _ _ (omega arith) (omega arith) c.index-left-i.is c.index-right-i.is) c.loop-i.invariant c.in_err-assert_eq.ensures c.from_residual.ensures.1

pub returns : goal.returns
returns g c =
    asserted_all g.met.Self.AirBuilder.laws _ (both_kept g.met.Self.Ring.Algebra.laws g.met.Self.AirBuilder.laws Base sub_term) {a = c.args.self.now} {b = c.loop-i.self} (zip c.args.left.now c.args.right.now) c.loop-i.i (rw length-zip (omega arith)) c.loop-i.invariant
