use Rattle.air_field.specs.Residue.{residues}
use Rattle.air_field.specs.laws.Modular.{same_class}
use Rattle.air_field.proofs.fields.residue_field.ResidueField.add.Goals as goal

pub returns : goal.returns
returns g c = same_class (residues g.M.Modulus) _ _ c.reduced_once.ensures
