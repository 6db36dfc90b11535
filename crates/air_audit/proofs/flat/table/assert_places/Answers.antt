use Rattle.std.proofs.Common.{get_or, Ok, Err, arith}
use Rattle.std.proofs.lemmas.List.{get_or_default}
use Rattle.air_builder.specs.laws.LabelGrowth.{labels_nothing, labelled_more, labelled_refused, labelled_all}
use Rattle.air_audit.specs.RootLabels.{RootSays}
use Rattle.air_audit.specs.Tables.{AssertsAt}
use Rattle.air_audit.proofs.Asserting.{element_stays, no_place, place_more, place_refused, all_places, asserts_at_kept, labelled_as_another}
use Rattle.air_audit.proofs.Making.{read_is}
use Rattle.air_audit.proofs.Roots.{has_within}
use Rattle.air_audit.proofs.flat.table.assert_places.Goals as goal

pub loop-root-init : goal.loop-root-init
loop-root-init g c =
    let ring = g.met.AB.Ring.Algebra.laws in
    let laws = g.met.AB.AirBuilder.laws in
    let table = c.args.table.now in
    record {
      asserted = no_place ring laws {a = c.args.builder.now} table;
      labelled = labels_nothing laws g.met.AB.NamedAirBuilder.named_laws (AssertsAt _ table) (asserts_at_kept ring laws table) (RootSays c.args.labels.now) c.args.builder.now;
    }

pub expression_at-requires : goal.expression_at-requires
expression_at-requires g c =
    let i = c.loop-root.root in
    has_within _ c.args.table.now (get_or c.args.places.now i 0) (c.requires.of_ring i 0 (omega arith))

pub assert_zero_named-requires-clause-ready : goal.assert_zero_named-requires-clause-ready
assert_zero_named-requires-clause-ready g c =
    g.met.AB.AirBuilder.laws.ready_kept c.args.builder.now c.loop-root.builder c.loop-root.invariant.asserted.keeps c.requires.ready

pub assert_zero_named-requires-clause-of_ring : goal.assert_zero_named-requires-clause-of_ring
assert_zero_named-requires-clause-of_ring g c =
    let i = c.loop-root.root in
    element_stays g.met.AB.Ring.Algebra.laws g.met.AB.AirBuilder.laws c.args.builder.now c.loop-root.builder c.args.table.now (get_or c.args.places.now i 0) c.expression_at.result c.loop-root.invariant.asserted.keeps (c.requires.of_ring i 0 (omega arith)) c.expression_at.ensures

pub loop-root-preserved : goal.loop-root-preserved
loop-root-preserved g c =
    let ring = g.met.AB.Ring.Algebra.laws in
    let laws = g.met.AB.AirBuilder.laws in
    let table = c.args.table.now in
    let places = c.args.places.now in
    let i = c.loop-root.root in
    let p = get_or places i 0 in
    let x = c.expression_at.result in
    let is = get_or_default places i 0 p (omega arith) in
    let b = c.loop-root.builder in
    let d = c.assert_zero_named.new.self in
    record {
      asserted = place_more ring laws {a = c.args.builder.now} {b = b} {c = d} table places i p x (omega arith) is c.expression_at.ensures c.loop-root.invariant.asserted
          c.in_ok-assert_zero_named.ensures.asserted;
      labelled = labelled_more laws g.met.AB.NamedAirBuilder.named_laws (AssertsAt _ table) (asserts_at_kept ring laws table) (RootSays c.args.labels.now)
          {a = c.args.builder.now} {b = b} {c = d} places i p (omega arith) is c.loop-root.invariant.asserted.keeps c.loop-root.invariant.labelled (λ text said. said)
          (labelled_as_another b d x p (Ok tt) (λ s k. read_is _ table p x k c.expression_at.ensures) c.in_ok-assert_zero_named.ensures.label);
    }

pub returns-in_err-assert_zero_named-clause-asserted : goal.returns-in_err-assert_zero_named-clause-asserted
returns-in_err-assert_zero_named-clause-asserted g c =
    let i = c.loop-root.root in
    let p = get_or c.args.places.now i 0 in
    place_refused g.met.AB.Ring.Algebra.laws g.met.AB.AirBuilder.laws {a = c.args.builder.now} {b = c.loop-root.builder} {c = c.assert_zero_named.new.self} c.args.table.now c.args.places.now i p c.expression_at.result (omega arith) (get_or_default c.args.places.now i 0 p (omega arith)) c.expression_at.ensures c.loop-root.invariant.asserted c.in_err-assert_zero_named.ensures.asserted c.from_residual.ensures.1

pub returns-in_err-assert_zero_named-clause-labels : goal.returns-in_err-assert_zero_named-clause-labels
returns-in_err-assert_zero_named-clause-labels g c =
    let ring = g.met.AB.Ring.Algebra.laws in
    let laws = g.met.AB.AirBuilder.laws in
    let table = c.args.table.now in
    let i = c.loop-root.root in
    let p = get_or c.args.places.now i 0 in
    let x = c.expression_at.result in
    let b = c.loop-root.builder in
    let d = c.assert_zero_named.new.self in
    labelled_refused laws g.met.AB.NamedAirBuilder.named_laws (AssertsAt _ table) (asserts_at_kept ring laws table) (RootSays c.args.labels.now)
    {a = c.args.builder.now} {b = b} {c = d} c.args.places.now i (omega arith) c.loop-root.invariant.labelled
    (labelled_as_another b d x p (Err c.in_err-assert_zero_named.field-0.0) (λ s k. read_is _ table p x k c.expression_at.ensures) c.in_err-assert_zero_named.ensures.label)
    c.from_residual.ensures.1

pub returns-clause-asserted : goal.returns-clause-asserted
returns-clause-asserted g c =
    all_places g.met.AB.Ring.Algebra.laws g.met.AB.AirBuilder.laws {a = c.args.builder.now} {b = c.loop-root.builder} c.args.table.now c.args.places.now c.loop-root.root (omega arith) c.loop-root.invariant.asserted

pub returns-clause-labels : goal.returns-clause-labels
returns-clause-labels g c =
    let ring = g.met.AB.Ring.Algebra.laws in
    let laws = g.met.AB.AirBuilder.laws in
    let table = c.args.table.now in
    labelled_all laws g.met.AB.NamedAirBuilder.named_laws (AssertsAt _ table) (asserts_at_kept ring laws table) (RootSays c.args.labels.now)
    {a = c.args.builder.now} {b = c.loop-root.builder} c.args.places.now c.loop-root.root (omega arith) c.loop-root.invariant.labelled
