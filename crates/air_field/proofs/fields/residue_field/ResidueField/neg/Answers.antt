use Rattle.std.proofs.Common.{◌∙◌, ◌%◌, ◌-◌, ap}
use Rattle.air_field.specs.Residue.{residues}
use Rattle.air_field.specs.laws.Modular.{same_class}
use Rattle.air_field.proofs.fields.residue_field.ResidueField.neg.Goals as goal

pub returns : goal.returns
returns g c = same_class (residues g.M.Modulus) _ _ (c.reduced_once.ensures ∙ ap (λ p. (p - c.args.self.residue) % g.M.Modulus.P) c.P.ensures)
