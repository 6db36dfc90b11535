use Rattle.std.proofs.Common.{◌%◌, ap}
use Rattle.air_field.specs.Residue.{residues}
use Rattle.air_field.specs.laws.Modular.{same_class}
use Rattle.air_field.proofs.fields.residue_field.ResidueField.TWO.Goals as goal

pub returns : goal.returns
returns g c = same_class (residues g.M.Modulus) _ 2 (ap (λ p. 2 % p) c.P.ensures)
