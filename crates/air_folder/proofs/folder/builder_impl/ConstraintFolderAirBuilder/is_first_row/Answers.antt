use Rattle.air_field.specs.laws.Extension.{extend-coefficients}
use Rattle.air_folder.proofs.folder.builder_impl.ConstraintFolderAirBuilder.is_first_row.Goals as goal

pub returns-clause-ok : goal.returns-clause-ok
returns-clause-ok g c =
    let extension = g.EF.ExtensionField in
    extend-coefficients g.F.Field.ring extension.over extension.basis extension.DIMENSION g.met.EF.ExtensionField.laws c.args.self.now.row.selectors.is_first_row
