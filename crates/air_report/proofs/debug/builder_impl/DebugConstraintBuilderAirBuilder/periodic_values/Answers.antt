use Rattle.air_builder.specs.laws.ShownRows.{row_ends, element_is}
use Rattle.air_report.proofs.debug.builder_impl.DebugConstraintBuilderAirBuilder.periodic_values.Goals as goal

pub returns-clause-reads_as : goal.returns-clause-reads_as
returns-clause-reads_as g c = λ i v e. element_is c.args.self.now.periodic_row.items i _ v (rw c.as_slice.ensures.value at e)

pub returns-clause-ends : goal.returns-clause-ends
returns-clause-ends g c = λ i. rw c.as_slice.ensures.value (row_ends c.args.self.now.periodic_row.items i)
