use Rattle.std.proofs.Common.{take, Ok}
use Rattle.air_builder.specs.Batches.{AssertedEach}
use Rattle.air_builder.specs.Builders.{Means}
use Rattle.air_builder.specs.Labels.{LabelledEach}
use Rattle.air_audit.specs.RootLabels.{RootSays}
use Rattle.air_audit.specs.Tables.{AssertsRoot}
use Rattle.air_audit.proofs.flat.extension.table.assert_roots.Given as goal

-- the first roots are asserted, under their labels
abbrev pub invariant-loop-root : goal.invariant-loop-root
invariant-loop-root g l =
    let A = g.AB.AirBuilder in
    let asserts = AssertsRoot (Means g.AB.Ring.Algebra.means A.ring_of A.reads_as) (Means g.AB.ExtRing.Algebra.means g.AB.ExtensionBuilder.ext_ring_of A.reads_as)
    l.air.plan.base_table.items l.air.plan.table.items l.base l.table in
    record {
      asserted : AssertedEach asserts A.kept A.grew A.refuses l.initial.builder l.builder (take l.root l.air.roots.items) (Ok tt);
      labelled : LabelledEach asserts g.AB.NamedAirBuilder.labelled (RootSays l.air.labels.items) l.initial.builder l.builder (take l.root l.air.roots.items) (Ok tt);
    }
