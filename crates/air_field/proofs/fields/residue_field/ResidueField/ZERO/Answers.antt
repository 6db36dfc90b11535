use Rattle.std.proofs.Common.{refl}
use Rattle.air_field.specs.laws.Prime.{zero_below}
use Rattle.air_field.specs.Residue.{residues}
use Rattle.air_field.specs.laws.Modular.{same_small}
use Rattle.air_field.proofs.fields.residue_field.ResidueField.ZERO.Goals as goal

pub returns : goal.returns
returns g c = same_small (residues g.M.Modulus) _ 0 (zero_below g.M.Modulus.is_prime) refl
