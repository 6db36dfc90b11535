use Rattle.std.proofs.Common.{◌≡◌, ◌≤◌, [], length, vec_capacity}
use Rattle.air_symbolic.specs.BaseLeaves.{base_reads}
use Rattle.air_symbolic.specs.Pools.{term_at}
use Rattle.air_builder.specs.Builders.{Means}
use Rattle.air_audit.specs.Tables.{IsMade, TableMade}
use Rattle.air_audit.proofs.flat.table.make_places.Given as goal

-- the expressions so far are made in the builder as it is now, and there is room for the others
abbrev pub invariant-loop-step : goal.invariant-loop-step
invariant-loop-step g l =
    let A = g.AB.AirBuilder in
    record {
      grown : A.grew l.initial.builder l.builder [];
      ready : A.ready l.builder;
      long : length l.table.items ≡ l.step-index;
      room : length l.plan.steps.items ≤ vec_capacity l.table;
      made : TableMade (IsMade (Means g.AB.Ring.Algebra.means A.ring_of A.reads_as) A.missing l.builder) (term_at base_reads l.pool) l.plan.numbers.items l.table.items l.step-index;
    }
