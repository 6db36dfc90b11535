use Rattle.std.proofs.Common.{take, Ok}
use Rattle.air_builder.specs.Batches.{AssertedEach}
use Rattle.air_builder.specs.Builders.{Means}
use Rattle.air_builder.specs.Labels.{LabelledEach}
use Rattle.air_audit.specs.RootLabels.{RootSays}
use Rattle.air_audit.specs.Tables.{AssertsAt}
use Rattle.air_audit.proofs.flat.table.assert_places.Given as goal

-- the places so far are asserted, under their labels
abbrev pub invariant-loop-root : goal.invariant-loop-root
invariant-loop-root g l =
    let A = g.AB.AirBuilder in
    let asserts = AssertsAt (Means g.AB.Ring.Algebra.means A.ring_of A.reads_as) l.table in
    record {
      asserted : AssertedEach asserts A.kept A.grew A.refuses l.initial.builder l.builder (take l.root l.places) (Ok tt);
      labelled : LabelledEach asserts g.AB.NamedAirBuilder.labelled (RootSays l.labels) l.initial.builder l.builder (take l.root l.places) (Ok tt);
    }
