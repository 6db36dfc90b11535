use Rattle.std.proofs.Common.{refl}
use Rattle.air_field.specs.laws.Extension.{extend-coefficients}
use Rattle.air_folder.specs.laws.Folder.{folded_asserted}
use Rattle.air_folder.proofs.folder.extension.ConstraintFolderExtensionBuilder.assert_zero_ext.Goals as goal

pub returns : goal.returns
returns g c =
    let extension = g.EF.ExtensionField in
    folded_asserted extension.over extension.basis (extend-coefficients g.F.Field.ring extension.over extension.basis extension.DIMENSION g.met.EF.ExtensionField.laws) _ _ c.args.x c.fold_in.ensures.keeps c.fold_in.ensures.folded (λ s t. refl)
