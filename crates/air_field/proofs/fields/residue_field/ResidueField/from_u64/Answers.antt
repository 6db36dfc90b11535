use Rattle.std.proofs.Common.{◌∙◌, sym}
use Rattle.air_field.specs.Residue.{residues}
use Rattle.air_field.specs.laws.Modular.{same_class, image-class}
use Rattle.air_field.proofs.fields.residue_field.ResidueField.from_u64.Goals as goal

pub returns : goal.returns
returns g c = same_class (residues g.M.Modulus) _ _ c.reduce.ensures ∙ sym (image-class (residues g.M.Modulus) c.args.n)
