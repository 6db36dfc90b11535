use Rattle.std.proofs.Common.{refl}
use Rattle.air_field.specs.Residue.{residues}
use Rattle.air_field.specs.laws.Modular.{bit}
use Rattle.air_field.proofs.fields.residue_field.ResidueField.from_bool.Goals as goal

pub returns : goal.returns
returns g c = bit (residues g.M.Modulus) g.M.Modulus.is_prime c.args.b _ refl
