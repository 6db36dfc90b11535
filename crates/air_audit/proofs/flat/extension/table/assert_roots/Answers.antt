use Rattle.std.proofs.Common.{◌<◌, ◌≤◌, length, get_or, subst, sym, ap, ◌∙◌}
use Rattle.air_builder.specs.laws.LabelGrowth.{labels_nothing, labelled_more, labelled_refused, labelled_all}
use Rattle.air_audit.specs.RootLabels.{RootSays}
use Rattle.air_audit.specs.Tables.{RootHas, AssertsRoot}
use Rattle.air_audit.proofs.OverRoots.{no_root, root_more, root_refused, root_has_kept, root_kept}
use Rattle.air_audit.proofs.flat.extension.table.assert_roots.Goals as goal

pub loop-root-init : goal.loop-root-init
loop-root-init g c =
    let plan = c.args.air.now.plan in
    let kept = root_kept g.met.AB.Ring.Algebra.laws g.met.AB.ExtRing.Algebra.laws g.met.AB.AirBuilder.laws g.met.AB.ExtensionBuilder.ext_laws plan.base_table.items
    plan.table.items c.args.base.now c.args.table.now in
    record {
      asserted = no_root g.met.AB.Ring.Algebra.laws g.met.AB.ExtRing.Algebra.laws g.met.AB.AirBuilder.laws g.met.AB.ExtensionBuilder.ext_laws plan.base_table.items
          plan.table.items c.args.base.now c.args.table.now c.args.builder.now;
      labelled = labels_nothing g.met.AB.AirBuilder.laws g.met.AB.NamedAirBuilder.named_laws (AssertsRoot _ _ plan.base_table.items plan.table.items c.args.base.now c.args.table.now)
          kept (RootSays c.args.air.now.labels.items) c.args.builder.now;
    }

pub assert_root-requires-clause-of_ring : goal.assert_root-requires-clause-of_ring
assert_root-requires-clause-of_ring g c =
    let plan = c.args.air.now.plan in
    let i = c.loop-root.root in
    let lt = subst (λ v. i < length v) c.deref-id-items.ensures.value c.loop-root-test.true in
    let is = c.id-item.is ∙ ap (λ v. get_or v i c.id-item.result) c.deref-id-items.ensures.value in
    root_has_kept g.met.AB.Ring.Algebra.laws g.met.AB.ExtRing.Algebra.laws g.met.AB.AirBuilder.laws g.met.AB.ExtensionBuilder.ext_laws plan.base_table.items
    plan.table.items c.args.base.now c.args.table.now
    c.args.builder.now c.loop-root.builder c.loop-root.invariant.asserted.keeps c.id-item.result
    (subst (λ r. RootHas (λ i. g.AB.Ring.Algebra.has (g.AB.AirBuilder.ring_of c.args.builder.now))
    (λ i. g.AB.ExtRing.Algebra.has (g.AB.ExtensionBuilder.ext_ring_of c.args.builder.now)) plan.base_table.items plan.table.items c.args.base.now
    c.args.table.now r) (sym is) (c.requires.of_ring i c.id-item.result lt))

pub returns-in_err-assert_root-clause-asserted : goal.returns-in_err-assert_root-clause-asserted
returns-in_err-assert_root-clause-asserted g c =
    let plan = c.args.air.now.plan in
    let i = c.loop-root.root in
    let lt = subst (λ v. i < length v) c.deref-id-items.ensures.value c.loop-root-test.true in
    let is = c.id-item.is ∙ ap (λ v. get_or v i c.id-item.result) c.deref-id-items.ensures.value in
    root_refused g.met.AB.Ring.Algebra.laws g.met.AB.ExtRing.Algebra.laws g.met.AB.AirBuilder.laws g.met.AB.ExtensionBuilder.ext_laws plan.base_table.items
    plan.table.items c.args.base.now c.args.table.now
    {a = c.args.builder.now} {b = c.loop-root.builder} {c = c.assert_root.new.builder} c.args.air.now.roots.items c.loop-root.root c.id-item.result lt is
    c.loop-root.invariant.asserted c.in_err-assert_root.ensures.asserted c.from_residual.ensures.1

pub returns-in_err-assert_root-clause-labels : goal.returns-in_err-assert_root-clause-labels
returns-in_err-assert_root-clause-labels g c =
    let plan = c.args.air.now.plan in
    let i = c.loop-root.root in
    let lt = subst (λ v. i < length v) c.deref-id-items.ensures.value c.loop-root-test.true in
    let kept = root_kept g.met.AB.Ring.Algebra.laws g.met.AB.ExtRing.Algebra.laws g.met.AB.AirBuilder.laws g.met.AB.ExtensionBuilder.ext_laws plan.base_table.items
    plan.table.items c.args.base.now c.args.table.now in
    labelled_refused g.met.AB.AirBuilder.laws g.met.AB.NamedAirBuilder.named_laws (AssertsRoot _ _ plan.base_table.items plan.table.items c.args.base.now c.args.table.now)
    kept (RootSays c.args.air.now.labels.items) {a = c.args.builder.now} {b = c.loop-root.builder} {c = c.assert_root.new.builder} c.args.air.now.roots.items i lt
    c.loop-root.invariant.labelled c.in_err-assert_root.ensures.label c.from_residual.ensures.1

pub loop-root-preserved : goal.loop-root-preserved
loop-root-preserved g c =
    let plan = c.args.air.now.plan in
    let i = c.loop-root.root in
    let lt = subst (λ v. i < length v) c.deref-id-items.ensures.value c.loop-root-test.true in
    let is = c.id-item.is ∙ ap (λ v. get_or v i c.id-item.result) c.deref-id-items.ensures.value in
    let kept = root_kept g.met.AB.Ring.Algebra.laws g.met.AB.ExtRing.Algebra.laws g.met.AB.AirBuilder.laws g.met.AB.ExtensionBuilder.ext_laws plan.base_table.items
    plan.table.items c.args.base.now c.args.table.now in
    record {
      asserted = root_more g.met.AB.Ring.Algebra.laws g.met.AB.ExtRing.Algebra.laws g.met.AB.AirBuilder.laws g.met.AB.ExtensionBuilder.ext_laws plan.base_table.items
          plan.table.items c.args.base.now c.args.table.now {a = c.args.builder.now} {b = c.loop-root.builder} {c = c.assert_root.new.builder} c.args.air.now.roots.items i
          c.id-item.result lt is c.loop-root.invariant.asserted c.in_ok-assert_root.ensures.asserted;
      labelled = labelled_more g.met.AB.AirBuilder.laws g.met.AB.NamedAirBuilder.named_laws (AssertsRoot _ _ plan.base_table.items plan.table.items c.args.base.now c.args.table.now)
          kept (RootSays c.args.air.now.labels.items) {a = c.args.builder.now} {b = c.loop-root.builder} {c = c.assert_root.new.builder} c.args.air.now.roots.items i
          c.id-item.result lt is c.loop-root.invariant.asserted.keeps c.loop-root.invariant.labelled (λ text said. said) c.in_ok-assert_root.ensures.label;
    }

pub returns-clause-labels : goal.returns-clause-labels
returns-clause-labels g c =
    let plan = c.args.air.now.plan in
    let i = c.loop-root.root in
    let end = subst (λ v. length v ≤ i) c.deref-id-items.ensures.value c.loop-root-test.false in
    let kept = root_kept g.met.AB.Ring.Algebra.laws g.met.AB.ExtRing.Algebra.laws g.met.AB.AirBuilder.laws g.met.AB.ExtensionBuilder.ext_laws plan.base_table.items
    plan.table.items c.args.base.now c.args.table.now in
    labelled_all g.met.AB.AirBuilder.laws g.met.AB.NamedAirBuilder.named_laws (AssertsRoot _ _ plan.base_table.items plan.table.items c.args.base.now c.args.table.now)
    kept (RootSays c.args.air.now.labels.items) {a = c.args.builder.now} {b = c.loop-root.builder} c.args.air.now.roots.items i end c.loop-root.invariant.labelled
