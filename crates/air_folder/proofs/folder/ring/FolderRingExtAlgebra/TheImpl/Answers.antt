use Rattle.air_field.specs.laws.Extension.{extend-coefficients}
use Rattle.air_folder.proofs.folder.ring.FolderRingExtAlgebra.TheImpl.Goals as goal

pub ext_constant-tells : goal.ext_constant-tells
ext_constant-tells g c =
    let extension = g.EF.ExtensionField in
    rw c.ensures
    (record {
      extended = tt;
      made = (tt, extend-coefficients g.F.Field.ring extension.over extension.basis extension.DIMENSION g.met.EF.ExtensionField.laws c.args.c);
      refused = tt;
    })
