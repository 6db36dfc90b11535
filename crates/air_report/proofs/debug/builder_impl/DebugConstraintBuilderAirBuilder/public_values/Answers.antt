use Rattle.air_builder.specs.laws.ShownRows.{row_ends, element_is}
use Rattle.air_report.proofs.debug.builder_impl.DebugConstraintBuilderAirBuilder.public_values.Goals as goal

pub returns-clause-reads_as : goal.returns-clause-reads_as
returns-clause-reads_as g c = λ i v e. element_is c.args.self.now.row.public_values.now i _ v e

pub returns-clause-ends : goal.returns-clause-ends
returns-clause-ends g c = λ i. row_ends c.args.self.now.row.public_values.now i
