use Rattle.std.proofs.Common.{◌≡◌, ◌≤◌, [], length, vec_capacity}
use Rattle.air_symbolic.specs.ExtLeaves.{ext_reads}
use Rattle.air_symbolic.specs.Pools.{term_at}
use Rattle.air_builder.specs.Builders.{Means}
use Rattle.air_audit.specs.Tables.{IsMade, TableMade}
use Rattle.air_audit.proofs.flat.extension.table.make_ext_places.Given as goal

-- the expressions so far are made in the builder as it is now, and there is room for the others
abbrev pub invariant-loop-place : goal.invariant-loop-place
invariant-loop-place g l =
    let A = g.AB.AirBuilder in
    record {
      grown : A.grew l.initial.builder l.builder [];
      ready : A.ready l.builder;
      long : length l.table.items ≡ l.place;
      room : length l.air.plan.numbers.items ≤ vec_capacity l.table;
      made : TableMade (IsMade (Means g.AB.ExtRing.Algebra.means g.AB.ExtensionBuilder.ext_ring_of A.reads_as) A.missing l.builder)
          (term_at (ext_reads g.AB.EF.ExtensionField.basis) l.air.pool) l.air.plan.numbers.items l.table.items l.place;
    }
