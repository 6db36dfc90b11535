use Rattle.air_builder.specs.laws.ShownRows.{element_stands, row_ends}
use Rattle.air_folder.proofs.folder.builder_impl.ConstraintFolderAirBuilder.public_values.Goals as goal

pub returns-clause-reads_as : goal.returns-clause-reads_as
returns-clause-reads_as g c = λ i v e. element_stands g.met.EF.ExtensionField.laws c.args.self.now.row.public_values.now i v e

pub returns-clause-ends : goal.returns-clause-ends
returns-clause-ends g c = λ i. row_ends c.args.self.now.row.public_values.now i
