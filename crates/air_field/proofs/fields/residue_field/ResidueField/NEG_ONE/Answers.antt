use Rattle.std.proofs.Common.{◌-◌, ap}
use Rattle.air_field.specs.laws.Prime.{last_below}
use Rattle.air_field.specs.Residue.{residues}
use Rattle.air_field.specs.laws.Modular.{same_small}
use Rattle.air_field.proofs.fields.residue_field.ResidueField.NEG_ONE.Goals as goal

pub returns : goal.returns
returns g c = same_small (residues g.M.Modulus) _ (g.M.Modulus.P - 1) (last_below g.M.Modulus.is_prime) (ap (λ p. p - 1) c.P.ensures)
