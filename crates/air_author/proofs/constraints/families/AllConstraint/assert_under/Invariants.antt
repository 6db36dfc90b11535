use Rattle.std.proofs.Common.{Ok}
use Rattle.air_builder.specs.Batches.{AssertedList}
use Rattle.air_author.specs.Constraints.{asserts_of_first}
use Rattle.air_author.proofs.constraints.families.AllConstraint.assert_under.Given as goal

abbrev pub invariant-loop-index : goal.invariant-loop-index
invariant-loop-index g l = record {
  keeps : g.AB.AirBuilder.kept l.initial.builder l.builder;
  asserted : AssertedList g.AB.AirBuilder.kept g.AB.AirBuilder.grew g.AB.AirBuilder.missing g.AB.AirBuilder.refuses l.initial.builder l.builder (Ok tt) (asserts_of_first (λ i. g.C.Family.asserts_at l.self.0 i (g.K.Condition.under l.condition) (g.K.Condition.ext_under l.condition)) l.index);
}
