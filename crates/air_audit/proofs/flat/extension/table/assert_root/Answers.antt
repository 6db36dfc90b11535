use Rattle.std.proofs.Common.{List, [], ◌∷◌, get_or, String, subst, sym}
use Rattle.std.specs.Global.{Global}
use Rattle.air_builder.specs.Assertion.{Base, Extension}
use Rattle.air_builder.specs.Batches.{AssertedEach, AssertsOf}
use Rattle.air_builder.specs.Builders.{Means}
use Rattle.air_builder.specs.Labels.{LabelledEach}
use Rattle.air_audit.specs.RootLabels.{RootSays}
use Rattle.air_audit.specs.Tables.{AssertsRoot}
use Rattle.air_audit.specs.declared.flat.root.Root.TheVariants as root
use Rattle.air_audit.proofs.Asserting.{labelled_as_another}
use Rattle.air_audit.proofs.Making.{number_read, read_is}
use Rattle.air_audit.proofs.OverRoots.{base_root, over_root, base_long, over_long}
use Rattle.air_audit.proofs.flat.extension.table.assert_root.Goals as goal

pub returns-in-Base-clause-asserted : goal.returns-in-Base-clause-asserted
returns-in-Base-clause-asserted g c =
    let A = g.AB.AirBuilder in
    let means = Means g.AB.Ring.Algebra.means A.ring_of A.reads_as in
    let means_over = Means g.AB.ExtRing.Algebra.means g.AB.ExtensionBuilder.ext_ring_of A.reads_as in
    let plan = c.args.air.now.plan in
    subst (λ r. AssertedEach (AssertsRoot means means_over plan.base_table.items plan.table.items c.args.base.now c.args.table.now) A.kept A.grew A.refuses
    c.args.builder.now c.assert_zero_named.new.self (r ∷ []) c.assert_zero_named.result)
    (sym c.in-Base.is)
    (base_root g.met.AB.Ring.Algebra.laws g.met.AB.ExtRing.Algebra.laws g.met.AB.AirBuilder.laws g.met.AB.ExtensionBuilder.ext_laws plan.base_table.items
    plan.table.items c.args.base.now c.args.table.now
    c.args.builder.now c.assert_zero_named.new.self c.in-Base.id c.expression_at-x.result c.assert_zero_named.result
    (number_read plan.base_table.items c.args.base.now c.in-Base.id c.number.result c.index.result.now c.expression_at-x.result
    (base_long g.met.AB.Ring.Algebra.laws g.met.AB.ExtRing.Algebra.laws g.met.AB.AirBuilder.laws g.met.AB.ExtensionBuilder.ext_laws plan.base_table.items
    plan.table.items c.args.base.now c.args.table.now c.args.builder.now c.args.id c.in-Base.id c.in-Base.is c.requires.of_ring) c.number.ensures
    c.index.ensures c.expression_at-x.ensures)
    c.assert_zero_named.ensures.asserted)

pub returns-in-Extension-clause-asserted : goal.returns-in-Extension-clause-asserted
returns-in-Extension-clause-asserted g c =
    let A = g.AB.AirBuilder in
    let means = Means g.AB.Ring.Algebra.means A.ring_of A.reads_as in
    let means_over = Means g.AB.ExtRing.Algebra.means g.AB.ExtensionBuilder.ext_ring_of A.reads_as in
    let plan = c.args.air.now.plan in
    subst (λ r. AssertedEach (AssertsRoot means means_over plan.base_table.items plan.table.items c.args.base.now c.args.table.now) A.kept A.grew A.refuses
    c.args.builder.now c.assert_zero_ext_named.new.self (r ∷ []) c.assert_zero_ext_named.result)
    (sym c.in-Extension.is)
    (over_root g.met.AB.Ring.Algebra.laws g.met.AB.ExtRing.Algebra.laws g.met.AB.AirBuilder.laws g.met.AB.ExtensionBuilder.ext_laws plan.base_table.items
    plan.table.items c.args.base.now c.args.table.now
    c.args.builder.now c.assert_zero_ext_named.new.self c.in-Extension.id c.expression_at-x-in-Extension.result c.assert_zero_ext_named.result
    (number_read plan.table.items c.args.table.now c.in-Extension.id c.number-in-Extension.result c.index-in-Extension.result.now
    c.expression_at-x-in-Extension.result
    (over_long g.met.AB.Ring.Algebra.laws g.met.AB.ExtRing.Algebra.laws g.met.AB.AirBuilder.laws g.met.AB.ExtensionBuilder.ext_laws plan.base_table.items
    plan.table.items c.args.base.now c.args.table.now c.args.builder.now c.args.id c.in-Extension.id c.in-Extension.is c.requires.of_ring)
    c.number-in-Extension.ensures c.index-in-Extension.ensures c.expression_at-x-in-Extension.ensures)
    c.assert_zero_ext_named.ensures.asserted)

pub returns-in-Base-clause-label : goal.returns-in-Base-clause-label
returns-in-Base-clause-label g c =
    let A = g.AB.AirBuilder in
    let means = Means g.AB.Ring.Algebra.means A.ring_of A.reads_as in
    let means_over = Means g.AB.ExtRing.Algebra.means g.AB.ExtensionBuilder.ext_ring_of A.reads_as in
    let plan = c.args.air.now.plan in
    let says = RootSays c.args.air.now.labels.items c.args.root in
    let b = c.args.builder.now in
    let d = c.assert_zero_named.new.self in
    let at = number_read plan.base_table.items c.args.base.now c.in-Base.id c.number.result c.index.result.now
    c.expression_at-x.result
    (base_long g.met.AB.Ring.Algebra.laws g.met.AB.ExtRing.Algebra.laws g.met.AB.AirBuilder.laws g.met.AB.ExtensionBuilder.ext_laws plan.base_table.items
    plan.table.items c.args.base.now c.args.table.now b c.args.id c.in-Base.id c.in-Base.is c.requires.of_ring)
    c.number.ensures c.index.ensures c.expression_at-x.ensures in
    let named = subst (λ (ls : List (String Global)). LabelledEach (AssertsOf Base means (λ t. t)) g.AB.NamedAirBuilder.labelled (λ i. RootSays ls c.args.root) b d (c.expression_at-x.result ∷ []) c.assert_zero_named.result)
    c.deref.ensures.value c.assert_zero_named.ensures.label in
    subst (λ r. LabelledEach (AssertsRoot means means_over plan.base_table.items plan.table.items c.args.base.now c.args.table.now) g.AB.NamedAirBuilder.labelled
    (λ i. says) b d (r ∷ []) c.assert_zero_named.result)
    (sym c.in-Base.is)
    (labelled_as_another b d c.expression_at-x.result (root.Base c.in-Base.id) c.assert_zero_named.result (λ s k. read_is _ c.args.base.now (get_or plan.base_table.items c.in-Base.id 0) c.expression_at-x.result k at) named)

pub returns-in-Extension-clause-label : goal.returns-in-Extension-clause-label
returns-in-Extension-clause-label g c =
    let A = g.AB.AirBuilder in
    let means = Means g.AB.Ring.Algebra.means A.ring_of A.reads_as in
    let means_over = Means g.AB.ExtRing.Algebra.means g.AB.ExtensionBuilder.ext_ring_of A.reads_as in
    let plan = c.args.air.now.plan in
    let says = RootSays c.args.air.now.labels.items c.args.root in
    let b = c.args.builder.now in
    let d = c.assert_zero_ext_named.new.self in
    let at = number_read plan.table.items c.args.table.now c.in-Extension.id c.number-in-Extension.result c.index-in-Extension.result.now
    c.expression_at-x-in-Extension.result
    (over_long g.met.AB.Ring.Algebra.laws g.met.AB.ExtRing.Algebra.laws g.met.AB.AirBuilder.laws g.met.AB.ExtensionBuilder.ext_laws plan.base_table.items
    plan.table.items c.args.base.now c.args.table.now b c.args.id c.in-Extension.id c.in-Extension.is c.requires.of_ring)
    c.number-in-Extension.ensures c.index-in-Extension.ensures c.expression_at-x-in-Extension.ensures in
    let named = subst (λ (ls : List (String Global)). LabelledEach (AssertsOf Extension means_over (λ t. t)) g.AB.NamedAirBuilder.labelled (λ i. RootSays ls c.args.root) b d (c.expression_at-x-in-Extension.result ∷ []) c.assert_zero_ext_named.result)
    c.deref-in-Extension.ensures.value c.assert_zero_ext_named.ensures.label in
    subst (λ r. LabelledEach (AssertsRoot means means_over plan.base_table.items plan.table.items c.args.base.now c.args.table.now) g.AB.NamedAirBuilder.labelled
    (λ i. says) b d (r ∷ []) c.assert_zero_ext_named.result)
    (sym c.in-Extension.is)
    (labelled_as_another b d c.expression_at-x-in-Extension.result (root.Extension c.in-Extension.id) c.assert_zero_ext_named.result (λ s k. read_is _ c.args.table.now (get_or plan.table.items c.in-Extension.id 0) c.expression_at-x-in-Extension.result k at) named)
