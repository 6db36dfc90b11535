use Rattle.std.proofs.Common.{Ok, take}
use Rattle.air_builder.specs.Batches.{AssertedList}
use Rattle.air_author.specs.Constraints.{asserts_of_each}
use Rattle.air_author.proofs.constraints.families.EachConstraint.assert_under.Given as goal

abbrev pub invariant-loop-constraint : goal.invariant-loop-constraint
invariant-loop-constraint g l = record {
  keeps : g.AB.AirBuilder.kept l.initial.builder l.builder;
  asserted : AssertedList g.AB.AirBuilder.kept g.AB.AirBuilder.grew g.AB.AirBuilder.missing g.AB.AirBuilder.refuses l.initial.builder l.builder (Ok tt) (asserts_of_each (λ c. g.C.Constraint.asserts c (g.K.Condition.under l.condition) (g.K.Condition.ext_under l.condition)) (take l.constraint-index l.constraints));
}
